-- The rows of athrow.
use Rattle.std.proofs.Common.{◌≡◌, ℕ, List, Some, None, ap, sym, ◌∙◌}
use Rattle.std.specs.Prelude.{slice_get, false}
use Rattle.class_model.specs.declared.insn.Insn.TheVariants as insn
use Rattle.machine_heap.specs.declared.item.Item.{Item}
use Rattle.machine_frames.specs.declared.flow.Fault.TheVariants as fault
use Rattle.linked_code.specs.declared.program.Program.{Program}
use Rattle.linked_code.specs.World.{World}
use Rattle.linked_code.specs.Links.{Links}
use Rattle.linked_code.specs.Numbered.{type_at}
use Rattle.machine.specs.declared.state.Machine.{Machine}
use Rattle.machine.specs.declared.state.Ending.TheVariants as ending
use Rattle.machine.specs.declared.operands.Held.TheVariants as holds
use Rattle.machine.specs.Held.{held_by}
use Rattle.machine.specs.Shown.{shown, areas_of, outside_of}
use Rattle.machine.specs.Unwound.{thrown_at, fault_at, done_at}
use Rattle.machine.proofs.OperandTops.{object_item, object_null, object_nothing}
use Rattle.machine.proofs.Choices.{some_there, none_there, item_shown, no_item_shown}

module _ {T : Type 0} (none : T) (join : T → T → T) (w : World T) (m : Machine T) (more : List ℕ) where
  pub throws_nothing : (new : Machine T) → held_by (slice_get m.top.stack 0) ≡ holds.Nothing → new ≡ record m { framed = false; ending = ending.Stuck } → shown w new more ≡ done_at none join w insn.Athrow m more
  throws_nothing new e is = ap (λ (x : Machine T). shown w x more) is ∙ sym (object_nothing (outside_of w m more) (areas_of w m.areas) m.top.stack _ _ e)

  pub throws_null : held_by (slice_get m.top.stack 0) ≡ holds.Null → fault_at none join w fault.NullPointer m more ≡ done_at none join w insn.Athrow m more
  throws_null e = sym (object_null (outside_of w m more) (areas_of w m.areas) m.top.stack _ _ e)

  pub throws_nowhere : (new : Machine T) (at : ℕ) → held_by (slice_get m.top.stack 0) ≡ holds.Item at → slice_get m.areas.heap at ≡ None → new ≡ record m { framed = false; ending = ending.Stuck } → shown w new more ≡ done_at none join w insn.Athrow m more
  throws_nowhere new at e there is =
      ap (λ (x : Machine T). shown w x more) is
      ∙ sym (object_item (outside_of w m more) (areas_of w m.areas) m.top.stack _ _ at e ∙ none_there (outside_of w m more) (areas_of w m.areas) _ _ (no_item_shown w m.areas.heap at there))

  pub throws_item : (p : Program T) (at class : ℕ) (x : Item T) → Links none w p → held_by (slice_get m.top.stack 0) ≡ holds.Item at → slice_get m.areas.heap at ≡ Some x → class ≡ (type_at p x.ty).base
      → thrown_at w (w.class class) at m.top.next m more ≡ done_at none join w insn.Athrow m more
  throws_item p at class x links e there base =
      ap (λ c. thrown_at w c at m.top.next m more) (ap w.class base ∙ sym (links.types x.ty).base)
      ∙ sym (object_item (outside_of w m more) (areas_of w m.areas) m.top.stack _ _ at e ∙ some_there (outside_of w m more) (areas_of w m.areas) _ _ _ (item_shown w m.areas.heap at x there))
