-- Code whose instructions are linked, so far.
use Rattle.std.specs.Prelude.{◌≡◌, ◌<◌, ℕ, List, Some, length, slice_get}
use Rattle.class_model.specs.declared.insn.Insn.{Insn}
use Rattle.class_model.specs.declared.class.ClassDef.{ClassDef}
use Rattle.linked_code.specs.declared.op.Op.{Op}
use Rattle.program_links.specs.Numbers.{Numbers}
use Rattle.program_links.specs.LinkedTo.{LinkedTo}
use Rattle.program_links.specs.Ready.{IsReady}

abbrev pub AreReady : List ClassDef → List Insn → Type 0
AreReady set insns = (pc : ℕ) (i : Insn) → slice_get insns pc ≡ Some i → IsReady set i

-- an instruction has its linked one
pub record HasLinked (set : List ClassDef) (t : Numbers) (ops : List Op) (pc : ℕ) (i : Insn) : Type 0 where
  pub linked : Op
  pub at : slice_get ops pc ≡ Some linked
  pub is : LinkedTo set t i linked

-- the first instructions have theirs, and no others are there
pub record CodeTo (set : List ClassDef) (t : Numbers) (insns : List Insn) (ops : List Op) (count : ℕ) : Type 0 where
  pub many : length ops ≡ count
  pub each : (pc : ℕ) (i : Insn) → pc < count → slice_get insns pc ≡ Some i → HasLinked set t ops pc i
