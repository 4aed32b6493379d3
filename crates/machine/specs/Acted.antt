-- What an instruction does to the top frame and to the areas, whatever lies around them.
use Rattle.std.specs.Prelude.{◌≡◌, List, Some}
use Rattle.class_model.specs.declared.insn.Insn.{Insn}
use Rattle.run_state.specs.State.{Outside, live}
use Rattle.run_state.specs.State as state
use Rattle.run_state.specs.Operands.{stuck}
use Rattle.run_state.specs.Step.{act}
use Rattle.run_state.specs.Unwinding.{throws}
use Rattle.machine_frames.specs.declared.frame.Frame.{Frame}
use Rattle.machine_frames.specs.declared.flow.Flow.{Flow}
use Rattle.machine_frames.specs.declared.flow.Flow.TheVariants as flow
use Rattle.machine_frames.specs.Acts.{exception_of}
use Rattle.linked_code.specs.declared.op.Op.{Op}
use Rattle.linked_code.specs.declared.op.Op.TheVariants as op
use Rattle.linked_code.specs.declared.program.Program.{Program}
use Rattle.linked_code.specs.World.{World, tags_of}
use Rattle.linked_code.specs.Linked.{Linked}
use Rattle.linked_code.specs.Links.{Links}
use Rattle.machine.specs.declared.state.Areas.{Areas}
use Rattle.machine.specs.Shown.{areas_of}

module _ {T : Type 0} (none : T) (join : T → T → T) (w : World T) (o : Outside) (below : List (state.Frame T)) where
  -- one instruction of a frame, by the definition
  abbrev pub acted : Insn → Frame T → Areas T → state.State T
  acted i f a = act (tags_of none join w) w.looks (Some i) o (areas_of w a) (w.method f.method) f.next f.locals f.stack below

  -- the state that the frame and the areas, as they are now, and what the instruction leads to give
  abbrev pub led : Flow → Frame T → Areas T → state.State T
  led flow.Next f a = live o (areas_of w a) (w.method f.method) f.next f.locals f.stack below
  led flow.Stuck f a = stuck o (areas_of w a)
  led (flow.Throws k) f a = throws (tags_of none join w) w.looks o (areas_of w a) (exception_of k) below (w.method f.method) f.next f.locals

-- a linked instruction turns a frame and areas into new ones, and leads to a flow
pub record Acts {T : Type 0} (none : T) (join : T → T → T) (p : Program T) (op : Op) (f : Frame T) (a : Areas T) (flow : Flow) (g : Frame T) (b : Areas T) : Type 0 where
  pub by : (w : World T) (i : Insn) (o : Outside) (below : List (state.Frame T)) → Links none w p → Linked w p i op
      → acted none join w o below i f a ≡ led none join w o below flow g b

-- a fault leaves the frame and the areas as they were
abbrev pub Stays : {T : Type 0} → Flow → Frame T → Areas T → Frame T → Areas T → Type 0
Stays flow.Next f a g b = Unit {0}
Stays flow.Stuck f a g b = Unit {0}
Stays (flow.Throws k) f a g b = (g ≡ f) × (b ≡ a)

-- an instruction leads to a throw
abbrev pub IsThrow : Flow → Type 0
IsThrow flow.Next = ⊥
IsThrow flow.Stuck = ⊥
IsThrow (flow.Throws k) = Unit {0}

-- the instructions that concern the top frame and the areas alone are a family
abbrev pub IsActed : Op → Type 0
IsActed (op.Frame o) = Unit {0}
IsActed (op.TableSwitch n) = Unit {0}
IsActed (op.LookupSwitch n) = Unit {0}
IsActed (op.PushText n) = Unit {0}
IsActed (op.GetText n text) = Unit {0}
IsActed (op.MultiNewArray n sizes) = Unit {0}
IsActed (op.GetField place) = Unit {0}
IsActed (op.PutField place k keeps) = Unit {0}
IsActed (op.GetStatic n place) = Unit {0}
IsActed (op.PutStatic n place k keeps) = Unit {0}
IsActed (op.New n) = Unit {0}
IsActed (op.NewArray n) = Unit {0}
IsActed op.ArrayLength = Unit {0}
IsActed (op.ArrayLoad e) = Unit {0}
IsActed (op.ArrayStore e) = Unit {0}
IsActed (op.CheckCast n) = Unit {0}
IsActed (op.InstanceOf n) = Unit {0}
IsActed _ = ⊥
