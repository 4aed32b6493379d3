use Rattle.std.proofs.Common.{ℕ, List}
use Rattle.class_model.specs.declared.insn.Insn.{Insn}
use Rattle.class_model.specs.declared.class.ClassDef.{ClassDef}
use Rattle.linked_code.specs.declared.op.Op.{Op}
use Rattle.program_links.specs.Numbers.{Numbers, Grows}
use Rattle.program_links.specs.CodeSoFar.{CodeTo}
use Rattle.program_links.proofs.linking.link_code.Given as goal

-- the tables grew, and the instructions so far are linked
pub record SoFar (set : List ClassDef) (old new : Numbers) (insns : List Insn) (ops : List Op) (pc : ℕ) : Type 0 where
  pub grows : Grows old new
  pub code : CodeTo set new insns ops pc

abbrev pub invariant-loop-pc : goal.invariant-loop-pc
invariant-loop-pc l = SoFar l.set l.fn.tables l.tables l.insns l.ops l.pc
