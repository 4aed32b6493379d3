use Rattle.pool_names.specs.Adding.{behind}
use Rattle.insn_spelling.specs.Spelling.{spell_insns}
use Rattle.insn_spelling.proofs.Loops.{Left}
use Rattle.insn_spelling.proofs.insns.put_insns.Given as goal

abbrev pub invariant-loop-number : goal.invariant-loop-number
invariant-loop-number l = Left l.layout l.insns l.number l.pool l.out.items (behind l.initial.out.items (spell_insns l.layout l.insns l.initial.pool))
