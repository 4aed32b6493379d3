use Rattle.std.proofs.Common.{◌≡◌, drop}
use Rattle.insn_code.specs.Linking.{row_lead, all_of}
use Rattle.insn_code.proofs.LinkLaws.{behind}
use Rattle.insn_code.proofs.link.row_leads.Given as goal

abbrev pub invariant-loop-row : goal.invariant-loop-row
invariant-loop-row l = behind l.targets (all_of (row_lead l.starts.starts l.pc) (drop l.row-index l.rows)) ≡ all_of (row_lead l.starts.starts l.pc) l.rows
