-- The state after more steps, and what a machine shows of its ending.
use Rattle.std.proofs.Common.{◌≡◌, ◌≢◌, ℕ, ◌+◌, List, [], ◌∷◌, refl}
use Rattle.class_model.specs.declared.class.ClassDef.{ClassDef}
use Rattle.run_state.specs.State as state
use Rattle.run_state.specs.State.{State}
use Rattle.run_state.specs.Looks.{Looks}
use Rattle.run_state.specs.Tags.{Tags, plain}
use Rattle.run_state.specs.SetLooks.{looks_of}
use Rattle.run_state.specs.Step.{going, run}
use Rattle.run_state.specs.Observation.{start, plain_at}
use Rattle.run_state.proofs.RunsOn.{runs_on}
use Rattle.linked_code.specs.World.{World}
use Rattle.machine.specs.declared.state.Ending.{Ending}
use Rattle.machine.specs.declared.state.Ending.TheVariants as ending
use Rattle.machine.specs.Shown.{ending_of}

pub at_start : (set : List ClassDef) (main input : List ℕ) → plain_at set main input 0 ≡ start plain set input
unfolding plain_at
at_start set main input = refl

pub runs_from : (set : List ClassDef) (main input : List ℕ) (k j : ℕ) → plain_at set main input (k + j) ≡ run plain (looks_of set main) j (plain_at set main input k)
unfolding plain_at
runs_from set main input k j = runs_on plain (looks_of set main) k j (start plain set input)

-- a step that takes the only byte of the input is one of a run that goes on
pub takes_running : {T : Type 0} (M : Tags T) (L : Looks) (b : ℕ) (e : state.Ending) (s : State T) → s.outside.input ≡ b ∷ [] → (going M L e s).outside.input ≡ [] → e ≡ state.Running
takes_running M L b state.Running s one none = refl
takes_running M L b state.Returned s one none = absurd (cc)
takes_running M L b (state.Exit k) s one none = absurd (cc)
takes_running M L b (state.Uncaught c) s one none = absurd (cc)
takes_running M L b (state.InitFailed k c) s one none = absurd (cc)
takes_running M L b state.Stuck s one none = absurd (cc)

-- a machine that does not go on shows that
pub ended_shown : {T : Type 0} (w : World T) (e : Ending) → e ≢ ending.Running → ending_of w e ≢ state.Running
ended_shown w ending.Running h = absurd (h refl)
ended_shown w ending.Returned h = λ e. cc
ended_shown w (ending.Exit k) h = λ e. cc
ended_shown w (ending.Uncaught c) h = λ e. cc
ended_shown w (ending.InitFailed k c) h = λ e. cc
ended_shown w ending.Stuck h = λ e. cc
