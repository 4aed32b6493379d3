-- What a call of arraycopy asks for, what that comes to, and elements that are copied in the heap.
use Rattle.std.specs.Prelude.{ℕ, ◌+◌, ℤ, ◌==◌, ◌&&◌, leb, Bool, true, false, List, [], ◌∷◌, length, map, take, drop, Option, Some, None, slice_get, slice_set, if◌then◌else◌}
use Rattle.class_model.specs.declared.types.Primitive.{Primitive}
use Rattle.class_model.specs.Descriptor.{letter_of}
use Rattle.run_state.specs.Words.{Word}
use Rattle.run_state.specs.State as state
use Rattle.run_state.specs.Operands.{on_some}
use Rattle.run_state.specs.References.{given, element_type}
use Rattle.run_state.specs.Copying.{as_place, copied, fitting}
use Rattle.machine_words.specs.Tops.{as_int}
use Rattle.machine_heap.specs.declared.item.Item.{Item}
use Rattle.machine_heap.specs.Blocks.{with_cell}
use Rattle.machine_frames.specs.declared.flow.Fault.TheVariants as fault
use Rattle.linked_code.specs.declared.program.Program.{Program}
use Rattle.linked_code.specs.World.{World, tags_of}
use Rattle.linked_code.specs.Numbered.{type_at}
use Rattle.machine.specs.declared.operands.Held.{Held}
use Rattle.machine.specs.declared.operands.Held.TheVariants as holds
use Rattle.machine.specs.declared.requests.Spot.{Spot}
use Rattle.machine.specs.declared.requests.Spot.TheVariants as spot
use Rattle.machine.specs.declared.requests.Request.{Request}
use Rattle.machine.specs.declared.requests.Asked.{Asked}
use Rattle.machine.specs.declared.requests.Asked.TheVariants as asked
use Rattle.machine.specs.declared.requests.Span.{Span}
use Rattle.machine.specs.declared.requests.Plan.{Plan}
use Rattle.machine.specs.declared.requests.Plan.TheVariants as plan
use Rattle.machine.specs.declared.state.Machine.{Machine}
use Rattle.machine.specs.Held.{held_by}
use Rattle.machine.specs.Referred.{refers_by}
use Rattle.machine.specs.Shown.{areas_of, outside_of, frame_of}
use Rattle.machine.specs.Unwound.{fault_at}

-- ---- the arguments

abbrev pub with_index : {T : Type 0} → ℕ → Option (ℤ × T) → Spot
with_index a None = spot.Nothing
with_index a (Some x) = spot.At a x.0

abbrev pub with_held : Held → (ℕ → Spot) → Spot
with_held holds.Nothing go = spot.Nothing
with_held holds.Null go = spot.Null
with_held (holds.Item a) go = go a

-- the arguments of a number and of the next
abbrev pub spot_by : {T : Type 0} → List (Word T) → ℕ → Spot
spot_by args k = with_held (held_by (slice_get args k)) (λ a. with_index a (as_int (slice_get args (k + 1))))

abbrev pub with_spot : Spot → (ℕ → ℤ → Asked) → Asked
with_spot spot.Nothing go = asked.Nothing
with_spot spot.Null go = asked.Null
with_spot (spot.At a i) go = go a i

abbrev pub with_count : {T : Type 0} → Option (ℤ × T) → (ℤ → Asked) → Asked
with_count None go = asked.Nothing
with_count (Some x) go = go x.0

abbrev pub requested_by : {T : Type 0} → List (Word T) → Asked
requested_by args =
    with_spot (spot_by args 0) (λ a from. with_spot (spot_by args 2) (λ b to. with_count (as_int (slice_get args 4)) (λ count.
    asked.Copy (record { source = a; from = from; target = b; to = to; count = count }))))

-- ---- the arrays

abbrev pub same_numbers : Option Primitive → Option Primitive → Bool
same_numbers None None = true
same_numbers None (Some b) = false
same_numbers (Some a) None = false
same_numbers (Some a) (Some b) = letter_of a == letter_of b

abbrev pub alike_by : {T : Type 0} → Program T → ℕ → ℕ → Bool
alike_by p m n = (type_at p m).is_array && (type_at p n).is_array && same_numbers (type_at p m).numbers (type_at p n).numbers

abbrev pub within_by : {T : Type 0} → Item T → Item T → Request → Option Span
within_by x y r =
    given (as_place r.from) None (λ i. given (as_place r.to) None (λ j. given (as_place r.count) None (λ n.
    if leb (i + n) (length x.cells) && leb (j + n) (length y.cells) then Some (record { source = r.source; from = i; target = r.target; to = j; count = n }) else None)))

abbrev pub in_range : Option Span → Plan
in_range None = plan.Throws fault.ArrayIndex
in_range (Some s) = plan.Copies s

abbrev pub judged_by : {T : Type 0} → Program T → List (Item T) → Request → Plan
judged_by p heap r =
    given (slice_get heap r.source) plan.Nowhere (λ x. given (slice_get heap r.target) plan.Nowhere (λ y.
    if alike_by p x.ty y.ty then in_range (within_by x y r) else plan.Throws fault.ArrayStore))

abbrev pub judged_asked : {T : Type 0} → Program T → List (Item T) → Asked → Plan
judged_asked p heap asked.Nothing = plan.Nowhere
judged_asked p heap asked.Null = plan.Throws fault.NullPointer
judged_asked p heap (asked.Copy r) = judged_by p heap r

-- what a copy of these arguments comes to
abbrev pub planned_by : {T : Type 0} → Program T → List (Item T) → List (Word T) → Plan
planned_by p heap args = judged_asked p heap (requested_by args)

-- ---- the elements

-- those in front of the first that does not fit a type, by its number
abbrev pub fitting_by : {T : Type 0} → Program T → List (Item T) → ℕ → List (Word T) → List (Word T)
fitting_by p heap ty [] = []
fitting_by p heap ty (w ∷ ws) = if refers_by p heap ty true (held_by (Some w)) then w ∷ fitting_by p heap ty ws else []

-- elements of an item are written, from a place on
abbrev pub written_in : {T : Type 0} → List (Item T) → ℕ → ℕ → Word T → List (Item T)
written_in heap at i w = given (slice_get heap at) heap (λ x. slice_set heap at (with_cell x i w))

abbrev pub laid_in : {T : Type 0} → List (Item T) → ℕ → ℕ → List (Word T) → List (Item T)
laid_in heap at i [] = heap
laid_in heap at i (w ∷ ws) = laid_in (written_in heap at i w) at (i + 1) ws

-- the elements of a span are copied, as far as they fit
abbrev pub copied_at : {T : Type 0} → T → (T → T → T) → World T → Span → ℕ → Machine T → List ℕ → state.State T
copied_at none join w s words m more =
    let o = outside_of w m more in
    let ar = areas_of w m.areas in
    on_some o ar (slice_get ar.heap s.source) (λ x. on_some o ar (slice_get ar.heap s.target) (λ y.
    copied (tags_of none join w) w.looks o ar (w.method m.top.method) m.top.next m.top.locals (drop words m.top.stack) (map (frame_of w) m.below) s.count s.target y s.to
    (fitting w.looks ar.heap (element_type y.ty) (take s.count (drop s.from x.cells)))))

-- elements are written, and the machine throws what says that the next does not fit
abbrev pub misfit_at : {T : Type 0} → T → (T → T → T) → World T → ℕ → ℕ → List (Word T) → Machine T → List ℕ → state.State T
misfit_at none join w at i ws m more = fault_at none join w fault.ArrayStore (record m { areas = record m.areas { heap = laid_in m.areas.heap at i ws } }) more
