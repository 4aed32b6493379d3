use Rattle.std.proofs.Common.{◌≡◌, drop}
use Rattle.insn_code.specs.Linking.{lead, all_of}
use Rattle.insn_code.proofs.LinkLaws.{behind}
use Rattle.insn_code.proofs.link.leads.Given as goal

abbrev pub invariant-loop-distance : goal.invariant-loop-distance
invariant-loop-distance l = behind l.targets (all_of (lead l.starts.starts l.pc) (drop l.distance-index l.distances)) ≡ all_of (lead l.starts.starts l.pc) l.distances
