-- Where an exception leads, and what an instruction makes of a machine.
use Rattle.std.specs.Prelude.{ℕ, List, map}
use Rattle.class_model.specs.declared.insn.Insn.{Insn}
use Rattle.run_state.specs.State as state
use Rattle.run_state.specs.Unwinding.{thrown}
use Rattle.machine_frames.specs.declared.flow.Fault.{Fault}
use Rattle.machine_frames.specs.declared.flow.Flow.{Flow}
use Rattle.machine_frames.specs.declared.flow.Flow.TheVariants as flow
use Rattle.linked_code.specs.World.{World}
use Rattle.machine.specs.declared.state.Machine.{Machine}
use Rattle.machine.specs.Shown.{frame_of, areas_of, outside_of}
use Rattle.machine.specs.declared.invoking.Aim.{Aim}
use Rattle.machine.specs.Acted.{acted, led}
use Rattle.machine.specs.Aimed.{aimed}

-- the object at a place, of class c, is thrown at an instruction of the top frame
abbrev pub thrown_at : {T : Type 0} → World T → List ℕ → ℕ → ℕ → Machine T → List ℕ → state.State T
thrown_at w c place at m more = thrown w.looks (outside_of w m more) (areas_of w m.areas) c place (map (frame_of w) m.below) (w.method m.top.method) at m.top.locals

-- what an instruction leads to, from what the machine is now
abbrev pub led_at : {T : Type 0} → T → (T → T → T) → World T → Flow → Machine T → List ℕ → state.State T
led_at none join w flow m more = led none join w (outside_of w m more) (map (frame_of w) m.below) flow m.top m.areas

-- the machine throws a fresh object of a fault's class at the top frame's instruction
abbrev pub fault_at : {T : Type 0} → T → (T → T → T) → World T → Fault → Machine T → List ℕ → state.State T
fault_at none join w k m more = led_at none join w (flow.Throws k) m more

-- one instruction of the top frame
abbrev pub done_at : {T : Type 0} → T → (T → T → T) → World T → Insn → Machine T → List ℕ → state.State T
done_at none join w i m more = acted none join w (outside_of w m more) (map (frame_of w) m.below) i m.top m.areas

-- what a call leads to, from what the machine is now
abbrev pub aimed_at : {T : Type 0} → T → (T → T → T) → World T → Aim → Machine T → List ℕ → state.State T
aimed_at none join w aim m more = aimed none join w (outside_of w m more) (map (frame_of w) m.below) aim m.top m.areas
