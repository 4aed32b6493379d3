-- A run at its start.
use Rattle.std.proofs.Common.{◌≡◌, ℕ, ◌∙◌, Bool, true, false, List, [], ap, sym}
use Rattle.run_state.specs.State as state
use Rattle.run_state.specs.State.{State}
use Rattle.run_state.specs.Words.{Word}
use Rattle.run_state.specs.SetLooks.{first_statics}
use Rattle.linked_code.specs.World.{World}
use Rattle.machine.specs.Shown.{shown}
use Rattle.machine.specs.Turned.{Behind}
use Rattle.program_links.specs.LinkTo.{IsLinked}
use Rattle.program_links.specs.WorldOf.{world_of}
use Rattle.plain_machine.specs.declared.plain_run.PlainRun.{PlainRun}
use Rattle.plain_machine.specs.Standing.{set_of, main_of, StandsWith}
use Rattle.plain_machine.proofs.Standing.{at_start}

-- the state that a machine shows at its start
abbrev pub first : List (Word (Unit {0})) → List ℕ → State (Unit {0})
first statics more = record {
  frames = [];
  areas = record { heap = []; statics = statics; literals = [] };
  outside = record { input = more; console = []; reports = []; begun = []; phase = state.Begins };
  ending = state.Running;
}

pub nothing_known : (closed : Bool) (more : List ℕ) → closed ≡ false → Behind closed more
nothing_known true more e = absurd (cc)
nothing_known false more e = tt

pub stands : (run : PlainRun) (input : List ℕ) → run.closed ≡ false → IsLinked tt (set_of run) (main_of run) run.program → run.program.statics ≡ first_statics tt (set_of run)
    → ((w : World (Unit {0})) (more : List ℕ) → shown w run.machine more ≡ first run.program.statics more)
    → StandsWith run input 0 input
stands run input closed linked statics begins = record {
  behind = nothing_known run.closed input closed;
  shows = record {
    numbers = linked.0;
    links = linked.1;
    state = at_start (set_of run) (main_of run) input ∙ ap (λ x. first x input) (sym statics) ∙ sym (begins (world_of (set_of run) (main_of run) linked.0) input);
  };
}
