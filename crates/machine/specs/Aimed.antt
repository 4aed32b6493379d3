-- What a call comes to: the method that it enters, what it throws, or nothing.
use Rattle.std.specs.Prelude.{◌≡◌, ◌||◌, ◌==◌, ℕ, List, [], Option, Some, None, if◌then◌else◌}
use Rattle.class_model.specs.declared.insn.Insn.{Insn}
use Rattle.run_state.specs.State.{Outside}
use Rattle.run_state.specs.State as state
use Rattle.run_state.specs.Operands.{stuck, with_args}
use Rattle.run_state.specs.Calls.{called}
use Rattle.machine_frames.specs.declared.frame.Frame.{Frame}
use Rattle.machine_frames.specs.declared.flow.Flow.TheVariants as flow
use Rattle.linked_code.specs.declared.op.Op.{Op}
use Rattle.linked_code.specs.declared.op.Op.TheVariants as op
use Rattle.linked_code.specs.declared.program.Call.{Call}
use Rattle.linked_code.specs.declared.program.Program.{Program}
use Rattle.linked_code.specs.World.{World, tags_of}
use Rattle.linked_code.specs.Linked.{Linked, selection}
use Rattle.linked_code.specs.Links.{Links}
use Rattle.linked_code.specs.Numbered.{class_at, method_at}
use Rattle.machine.specs.declared.invoking.Aim.{Aim}
use Rattle.machine.specs.declared.invoking.Aim.TheVariants as aim
use Rattle.machine.specs.declared.state.Areas.{Areas}
use Rattle.machine.specs.Shown.{areas_of}
use Rattle.machine.specs.Acted.{acted, led}

module _ {T : Type 0} (none : T) (join : T → T → T) (w : World T) (o : Outside) (below : List (state.Frame T)) where
  -- the method of a number is called with so many words, from a frame
  abbrev pub called_from : ℕ → ℕ → Frame T → Areas T → state.State T
  called_from n words f a =
      with_args o (areas_of w a) words f.stack [] (λ args rest.
      called (tags_of none join w) w.looks (w.method n) args o (areas_of w a) (w.method f.method) f.next f.locals rest below)

  abbrev pub aimed : Aim → Frame T → Areas T → state.State T
  aimed (aim.Enters n words) f a = called_from n words f a
  aimed (aim.Throws k) f a = led none join w o below (flow.Throws k) f a
  aimed aim.Nowhere f a = stuck o (areas_of w a)

-- a linked call comes to this
pub record Aims {T : Type 0} (none : T) (join : T → T → T) (p : Program T) (op : Op) (f : Frame T) (a : Areas T) (aim : Aim) : Type 0 where
  pub by : (w : World T) (i : Insn) (o : Outside) (below : List (state.Frame T)) → Links none w p → Linked w p i op
      → acted none join w o below i f a ≡ aimed none join w o below aim f a

-- the method that a class has for a call
abbrev pub selected_by : {T : Type 0} → Program T → ℕ → Call → Option ℕ
selected_by p k c = selection (class_at p k).selects c.selector

-- the method that a special call enters from a method of a class
abbrev pub from_above : {T : Type 0} → Program T → Option ℕ → Call → Option ℕ
from_above p None c = None
from_above p (Some k) c = selected_by p k c

abbrev pub special_from : {T : Type 0} → Program T → ℕ → Call → ℕ → Option ℕ
special_from p k c found = if c.is_constructor || (method_at p found).class == k then Some found else from_above p (class_at p k).above c

abbrev pub special_by : {T : Type 0} → Program T → ℕ → Call → Option ℕ → Option ℕ
special_by p k c None = None
special_by p k c (Some found) = special_from p k c found

-- a method that there may be is entered with so many words
abbrev pub entering : Option ℕ → ℕ → Aim
entering None words = aim.Nowhere
entering (Some n) words = aim.Enters n words

-- calls are a family
abbrev pub IsCallOp : Op → Type 0
IsCallOp (op.InvokeStatic n) = Unit {0}
IsCallOp (op.InvokeSpecial n) = Unit {0}
IsCallOp (op.InvokeVirtual n) = Unit {0}
IsCallOp (op.InvokeInterface n) = Unit {0}
IsCallOp _ = ⊥
