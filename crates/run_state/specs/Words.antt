-- What locals and operands hold, word by word (JVMS 2.6.1, 2.6.2), and what the stack operations make of the words.
use Rattle.std.specs.Prelude.{ℕ, ◌+◌, ℤ, List, [], ◌∷◌, Option, Some, None, slice_set}
use Rattle.class_model.specs.declared.insn.StackOp.{StackOp}
use Rattle.class_model.specs.declared.insn.StackOp.TheVariants as stack

-- A word. A number stands beside its tag, of any type T. A long takes two words: the number, and a half that has nothing
-- of its own, which is the next local or the word above.
pub data Word (T : Type 0) : Type 0 where
  Empty : Word T
  Num : (v : ℤ) (t : T) → Word T
  Long : (v : ℤ) (t : T) → Word T
  Half : Word T
  Null : Word T
  Ref : (a : ℕ) → Word T

module _ {T : Type 0} where
  -- a value is pushed: a stack has its top first
  abbrev pub pushed : Word T → List (Word T) → List (Word T)
  pushed Empty st = Empty ∷ st
  pushed (Num v t) st = Num v t ∷ st
  pushed (Long v t) st = Half ∷ Long v t ∷ st
  pushed Half st = Half ∷ st
  pushed Null st = Null ∷ st
  pushed (Ref a) st = Ref a ∷ st

  -- a value goes into a local
  abbrev pub stored : List (Word T) → ℕ → Word T → List (Word T)
  stored ls i Empty = slice_set ls i Empty
  stored ls i (Num v t) = slice_set ls i (Num v t)
  stored ls i (Long v t) = slice_set (slice_set ls i (Long v t)) (i + 1) Half
  stored ls i Half = slice_set ls i Half
  stored ls i Null = slice_set ls i Null
  stored ls i (Ref a) = slice_set ls i (Ref a)

-- The nine stack operations (JVMS 6.5, pop to swap), one row each for all forms of their values: what the topmost words become.
module _ {A : Type 0} where
  abbrev pub pop : List A → Option (List A)
  pop [] = None
  pop (a ∷ st) = Some st

  abbrev pub pop2 : List A → Option (List A)
  pop2 [] = None
  pop2 (a ∷ []) = None
  pop2 (a ∷ b ∷ st) = Some st

  abbrev pub dup : List A → Option (List A)
  dup [] = None
  dup (a ∷ st) = Some (a ∷ a ∷ st)

  abbrev pub dup_x1 : List A → Option (List A)
  dup_x1 [] = None
  dup_x1 (a ∷ []) = None
  dup_x1 (a ∷ b ∷ st) = Some (a ∷ b ∷ a ∷ st)

  abbrev pub dup_x2 : List A → Option (List A)
  dup_x2 [] = None
  dup_x2 (a ∷ []) = None
  dup_x2 (a ∷ b ∷ []) = None
  dup_x2 (a ∷ b ∷ c ∷ st) = Some (a ∷ b ∷ c ∷ a ∷ st)

  abbrev pub dup2 : List A → Option (List A)
  dup2 [] = None
  dup2 (a ∷ []) = None
  dup2 (a ∷ b ∷ st) = Some (a ∷ b ∷ a ∷ b ∷ st)

  abbrev pub dup2_x1 : List A → Option (List A)
  dup2_x1 [] = None
  dup2_x1 (a ∷ []) = None
  dup2_x1 (a ∷ b ∷ []) = None
  dup2_x1 (a ∷ b ∷ c ∷ st) = Some (a ∷ b ∷ c ∷ a ∷ b ∷ st)

  abbrev pub dup2_x2 : List A → Option (List A)
  dup2_x2 [] = None
  dup2_x2 (a ∷ []) = None
  dup2_x2 (a ∷ b ∷ []) = None
  dup2_x2 (a ∷ b ∷ c ∷ []) = None
  dup2_x2 (a ∷ b ∷ c ∷ d ∷ st) = Some (a ∷ b ∷ c ∷ d ∷ a ∷ b ∷ st)

  abbrev pub swap : List A → Option (List A)
  swap [] = None
  swap (a ∷ []) = None
  swap (a ∷ b ∷ st) = Some (b ∷ a ∷ st)

  abbrev pub shuffled : StackOp → List A → Option (List A)
  shuffled stack.Pop st = pop st
  shuffled stack.Pop2 st = pop2 st
  shuffled stack.Dup st = dup st
  shuffled stack.DupX1 st = dup_x1 st
  shuffled stack.DupX2 st = dup_x2 st
  shuffled stack.Dup2 st = dup2 st
  shuffled stack.Dup2X1 st = dup2_x1 st
  shuffled stack.Dup2X2 st = dup2_x2 st
  shuffled stack.Swap st = swap st
