-- The native `java/lang/System.arraycopy` (this project's own, after the Java library): elements go in order, as if by a
-- temporary, with their tags. A null array is judged first, then whether both are arrays of one kind, then the range. A
-- reference that does not fit the target's elements throws after the earlier ones were copied.
use Rattle.std.specs.Prelude.{ℕ, ◌+◌, ◌==◌, ◌&&◌, leb, not, ℤ, pos, negsuc, Bool, true, List, [], ◌∷◌, length, take, drop, Option, Some, None, slice_get, slice_set, if◌then◌else◌}
use Rattle.class_model.specs.declared.types.JType.{JType}
use Rattle.run_state.specs.Texts.{same_base}
use Rattle.run_state.specs.Words.{Word}
use Rattle.run_state.specs.State.{Method, Frame, Item, Areas, Outside, State, live}
use Rattle.run_state.specs.Looks.{Looks}
use Rattle.run_state.specs.Tags.{Tags}
use Rattle.run_state.specs.Operands.{either, on_some, on_int, on_object}
use Rattle.run_state.specs.References.{given, is_array, is_number_array, element_type, refers_to}
use Rattle.run_state.specs.Unwinding.{null_pointer_exception, array_index_exception, array_store_exception, throws}

-- two arrays of references, or two of one primitive type
abbrev pub are_alike : JType → JType → Bool
are_alike a b =
    is_array a && is_array b && (if is_number_array a then is_number_array b && same_base a.base b.base else not (is_number_array b))

-- those in front of the first that does not fit
abbrev pub fitting : {T : Type 0} → Looks → List (Item T) → JType → List (Word T) → List (Word T)
fitting L hp ty [] = []
fitting L hp ty (w ∷ ws) = if refers_to L true hp ty w then w ∷ fitting L hp ty ws else []

-- the elements from a place on, replaced
abbrev pub with_elements : {A : Type 0} → List A → ℕ → List A → List A
with_elements xs at [] = xs
with_elements xs at (w ∷ ws) = with_elements (slice_set xs at w) (at + 1) ws

abbrev pub with_array : {T : Type 0} → Areas T → ℕ → Item T → ℕ → List (Word T) → Areas T
with_array ar b y to ws = record ar { heap = slice_set ar.heap b (record y { cells = with_elements y.cells to ws }) }

abbrev pub as_place : ℤ → Option ℕ
as_place (pos n) = Some n
as_place (negsuc n) = None

module _ {T : Type 0} (M : Tags T) (L : Looks) (o : Outside) (ar : Areas T) (m : Method) (pc : ℕ) (ls : List (Word T)) (rest : List (Word T)) (fs : List (Frame T)) where
  abbrev pub copy_fails : Areas T → List ℕ → State T
  copy_fails now c = throws M L o now c fs m pc ls

  -- of so many elements, those that fit go to place `to` of the array y at b
  abbrev pub copied : ℕ → ℕ → Item T → ℕ → List (Word T) → State T
  copied count b y to ws =
      either (length ws == count) (live o (with_array ar b y to ws) m (pc + 1) ls rest fs) (copy_fails (with_array ar b y to ws) array_store_exception)

  abbrev pub copied_range : Item T → ℕ → ℕ → Item T → ℕ → ℕ → State T
  copied_range x from b y to count =
      either (leb (from + count) (length x.cells) && leb (to + count) (length y.cells))
      (copied count b y to (fitting L ar.heap (element_type y.ty) (take count (drop from x.cells))))
      (copy_fails ar array_index_exception)

  abbrev pub copied_between : Item T → ℤ → ℕ → Item T → ℤ → ℤ → State T
  copied_between x from b y to count =
      either (are_alike x.ty y.ty)
      (given (as_place from) (copy_fails ar array_index_exception) (λ i.
      given (as_place to) (copy_fails ar array_index_exception) (λ j.
      given (as_place count) (copy_fails ar array_index_exception) (λ n. copied_range x i b y j n))))
      (copy_fails ar array_store_exception)

  abbrev pub copying_items : ℕ → ℤ → ℕ → ℤ → ℤ → State T
  copying_items a from b to count =
      on_some o ar (slice_get ar.heap a) (λ x. on_some o ar (slice_get ar.heap b) (λ y. copied_between x from b y to count))

  abbrev pub copying_to : ℕ → ℤ → ℕ → List (Word T) → State T
  copying_to a from b args = on_int o ar args (λ to u args1. on_int o ar args1 (λ count v more. copying_items a from b to count))

  -- the arguments: an array and a place, an array and a place, and how many
  abbrev pub copying : List (Word T) → State T
  copying args =
      on_object o ar args (copy_fails ar null_pointer_exception) (λ a args1. on_int o ar args1 (λ from t args2.
      on_object o ar args2 (copy_fails ar null_pointer_exception) (λ b args3. copying_to a from b args3)))
