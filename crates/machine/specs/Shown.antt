-- The state that a machine shows.
use Rattle.std.specs.Prelude.{ℕ, Bool, true, false, List, [], ◌∷◌, map, Option, Some, None}
use Rattle.run_state.specs.State as state
use Rattle.machine_frames.specs.declared.frame.Frame.{Frame}
use Rattle.machine_heap.specs.declared.item.Item.{Item}
use Rattle.linked_code.specs.World.{World}
use Rattle.machine.specs.declared.state.Areas.{Areas}
use Rattle.machine.specs.declared.state.Machine.{Machine}
use Rattle.machine.specs.declared.state.Phase.{Phase}
use Rattle.machine.specs.declared.state.Phase.TheVariants as phase
use Rattle.machine.specs.declared.state.Ending.{Ending}
use Rattle.machine.specs.declared.state.Ending.TheVariants as ending
use Rattle.machine.specs.declared.state.Literal.{Literal}

abbrev pub phase_of : Phase → state.Phase
phase_of phase.Begins = state.Begins
phase_of phase.Makes = state.Makes
phase_of phase.Calls = state.Calls
phase_of phase.Waits = state.Waits

-- the input behind what a machine has taken: the byte that is fed, and more
abbrev pub input_of : Option ℕ → List ℕ → List ℕ
input_of None more = more
input_of (Some b) more = b ∷ more

module _ {T : Type 0} (w : World T) where
  abbrev pub ending_of : Ending → state.Ending
  ending_of ending.Running = state.Running
  ending_of ending.Returned = state.Returned
  ending_of (ending.Exit k) = state.Exit k
  ending_of (ending.Uncaught c) = state.Uncaught (w.class c)
  ending_of (ending.InitFailed k c) = state.InitFailed (w.class k) (w.class c)
  ending_of ending.Stuck = state.Stuck

  abbrev pub frame_of : Frame T → state.Frame T
  frame_of f = record { method = w.method f.method; next = f.next; locals = f.locals; stack = f.stack }

  abbrev pub frames_of : Bool → Frame T → List (Frame T) → List (state.Frame T)
  frames_of true top below = frame_of top ∷ map frame_of below
  frames_of false top below = []

  abbrev pub item_of : Item T → state.Item T
  item_of x = record { ty = w.ty x.ty; own = x.own; cells = x.cells }

  abbrev pub literal_of : Literal → state.Literal
  literal_of l = record { text = w.text l.text; place = l.place }

  abbrev pub areas_of : Areas T → state.Areas T
  areas_of a = record { heap = map item_of a.heap; statics = a.statics; literals = map literal_of a.literals }

  abbrev pub outside_of : Machine T → List ℕ → state.Outside
  outside_of m more = record { input = input_of m.fed more; console = m.console; reports = m.reports; begun = map w.class m.begun; phase = phase_of m.phase }

  -- the state, where the input behind what is fed is given
  abbrev pub shown : Machine T → List ℕ → state.State T
  shown m more = record { frames = frames_of m.framed m.top m.below; areas = areas_of m.areas; outside = outside_of m more; ending = ending_of m.ending }
