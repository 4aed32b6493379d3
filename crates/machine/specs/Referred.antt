-- Whether a reference is to an item of a type, by the type's number.
use Rattle.std.specs.Prelude.{ℕ, Bool, List, slice_get}
use Rattle.run_state.specs.References.{given}
use Rattle.machine_heap.specs.declared.item.Item.{Item}
use Rattle.linked_code.specs.declared.program.Program.{Program}
use Rattle.linked_code.specs.Kept.{is_among}
use Rattle.linked_code.specs.Numbered.{type_at}
use Rattle.machine.specs.declared.operands.Held.{Held}
use Rattle.machine.specs.declared.operands.Held.TheVariants as holds

abbrev pub refers_by : {T : Type 0} → Program T → List (Item T) → ℕ → Bool → Held → Bool
refers_by p heap ty null holds.Nothing = null
refers_by p heap ty null holds.Null = null
refers_by p heap ty null (holds.Item a) = given (slice_get heap a) null (λ x. is_among (type_at p x.ty).fits ty)
