-- Steps that concern the top frame alone.
use Rattle.std.specs.Prelude.{◌≡◌, ◌≤◌, ℕ, Bool, true, false, List}
use Rattle.run_state.specs.State.{Outside, live}
use Rattle.run_state.specs.State as state
use Rattle.run_state.specs.Operands.{stuck}
use Rattle.run_state.specs.Step.{run}
use Rattle.machine_frames.specs.declared.frame.Frame.{Frame}
use Rattle.linked_code.specs.declared.op.Op.{Op}
use Rattle.linked_code.specs.declared.program.Program.{Program}
use Rattle.linked_code.specs.World.{World, tags_of}
use Rattle.linked_code.specs.Numbered.{method_at}
use Rattle.linked_code.specs.Links.{Links}

module _ {T : Type 0} (w : World T) (o : Outside) (ar : state.Areas T) (below : List (state.Frame T)) where
  -- a running state with this frame on top
  abbrev pub topped : Frame T → state.State T
  topped f = live o ar (w.method f.method) f.next f.locals f.stack below

  abbrev pub ended_in : Bool → Frame T → state.State T
  ended_in true g = stuck o ar
  ended_in false g = topped g

-- So many steps of the definition bring a frame, whose code is linked to this, to the new one, or find no operand; whatever
-- lies around it.
pub record Runs {T : Type 0} (none : T) (join : T → T → T) (code : List Op) (f : Frame T) (n : ℕ) (found_none : Bool) (g : Frame T) : Type 0 where
  pub method : found_none ≡ false → g.method ≡ f.method
  pub by : (w : World T) (p : Program T) (o : Outside) (ar : state.Areas T) (below : List (state.Frame T)) → Links none w p → (method_at p f.method).code ≡ code
      → run (tags_of none join w) w.looks n (topped w o ar below f) ≡ ended_in w o ar below found_none g

-- some number of steps, not above a limit, brings it there
pub record RunsWithin {T : Type 0} (none : T) (join : T → T → T) (code : List Op) (f : Frame T) (limit : ℕ) (g : Frame T) : Type 0 where
  pub made : ℕ
  pub few : made ≤ limit
  pub by : Runs none join code f made false g
