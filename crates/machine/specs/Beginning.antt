-- The classes that an instruction needs begun, by their numbers.
use Rattle.std.specs.Prelude.{ℕ, List, [], ◌∷◌, Bool, true, Option, Some, None}
use Rattle.run_state.specs.Operands.{either}
use Rattle.machine_frames.specs.declared.frame.Frame.{Frame}
use Rattle.linked_code.specs.declared.op.Op.{Op}
use Rattle.linked_code.specs.declared.op.Op.TheVariants as op
use Rattle.linked_code.specs.declared.program.Program.{Program}
use Rattle.linked_code.specs.Kept.{is_among}
use Rattle.linked_code.specs.Numbered.{method_at}
use Rattle.machine.specs.Called.{blank}

abbrev pub has_begun : List ℕ → Option ℕ → Bool
has_begun begun None = true
has_begun begun (Some k) = is_among begun k

abbrev pub with_class : Option ℕ → List ℕ → List ℕ
with_class None begun = begun
with_class (Some k) begun = k ∷ begun

module _ {T : Type 0} (p : Program T) where
  -- those of the initializers whose classes have not begun
  abbrev pub waiting : List ℕ → List ℕ → List ℕ
  waiting begun [] = []
  waiting begun (n ∷ ns) = either (has_begun begun (method_at p n).begins) (waiting begun ns) (n ∷ waiting begun ns)

  -- with the classes of these initializers
  abbrev pub with_classes : List ℕ → List ℕ → List ℕ
  with_classes [] begun = begun
  with_classes (n ∷ ns) begun = with_class (method_at p n).begins (with_classes ns begun)

  -- the frames of these initializers, the last of them on top
  abbrev pub with_blanks : List ℕ → List (Frame T) → List (Frame T)
  with_blanks [] fs = fs
  with_blanks (n ∷ ns) fs = with_blanks ns (blank n (method_at p n).locals ∷ fs)

  -- the class that a linked instruction needs begun
  abbrev pub needed_by : Op → Option ℕ
  needed_by (op.InvokeStatic n) = Some (method_at p n).class
  needed_by (op.New n) = Some n
  needed_by (op.GetStatic n place) = Some n
  needed_by (op.GetText n text) = Some n
  needed_by (op.PutStatic n place kind keeps) = Some n
  needed_by _ = None
