-- Declared frames (JVMS 4.7.4) as types of a method, and which types go to them (JVMS 4.10.1.4).
use Rattle.std.specs.Prelude.{ℕ, ◌-◌, ◌==◌, ◌&&◌, ◌||◌, not, nat_le, Bool, true, false, List, [], ◌∷◌, ◌++◌, length, reverse, replicate, sum_by, Option, Some, None, if◌then◌else◌}
use Rattle.std.specs.List.{list_any}
use Rattle.std.specs.Cmp.Lexicographic.{pointwise}
use Rattle.class_model.specs.declared.class.VType.{VType}
use Rattle.class_model.specs.declared.class.VType.TheVariants.{Top}
use Rattle.class_model.specs.declared.class.Frame.{Frame}
use Rattle.class_set.specs.Assignable.{assignable, width, is_long, in_words, words_go, has_uninit_this}
use Rattle.type_rows.specs.declared.state.TypeState.{TypeState}
use Rattle.type_rows.specs.Method.{Method}
use Rattle.type_rows.specs.State.{state}

-- the frame that is declared at an instruction
abbrev pub declared_at : List (ℕ × Frame) → ℕ → Option Frame
declared_at [] at = None
declared_at (row ∷ rows) at = if row.0 == at then Some row.1 else declared_at rows at

-- missing locals are Top
abbrev pub padded : ℕ → List VType → List VType
padded most words = words ++ replicate (most - length words) Top

-- the types that a frame says
abbrev pub types_of : Method → Frame → TypeState
types_of m frame = state (padded m.code.max_locals (in_words frame.locals)) (reverse frame.stack)

-- words as entries: the second word of a long is passed over
abbrev pub entries_from : Bool → List VType → List VType
entries_from in_long [] = []
entries_from true (ty ∷ words) = entries_from false words
entries_from false (ty ∷ words) = ty ∷ entries_from (is_long ty) words

-- the frame that says the types
abbrev pub frame_of : TypeState → Frame
frame_of s = record { locals = entries_from false s.locals; stack = reverse s.stack }

-- types go to a frame: stacks of equal depth entry by entry, locals word by word, and types with the flag of an object that is not
-- initialised yet to a frame with it
abbrev pub goes : Method → TypeState → Frame → Bool
goes m s frame =
    pointwise (assignable m.set) s.stack (reverse frame.stack)
    && (words_go m.set s.locals (in_words frame.locals)
    && (not (has_uninit_this s.locals s.stack) || has_uninit_this frame.locals frame.stack))

abbrev pub is_top : VType → Bool
is_top Top = true
is_top _ = false

-- a frame has at most the words of the method, and no Top on its stack
abbrev pub is_shaped : Method → Frame → Bool
is_shaped m frame =
    nat_le (sum_by width frame.locals) m.code.max_locals && (nat_le (sum_by width frame.stack) m.code.max_stack && not (list_any is_top frame.stack))
