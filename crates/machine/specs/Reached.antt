-- Where so many steps bring a machine.
use Rattle.std.specs.Prelude.{◌≡◌, ◌≤◌, ℕ, Bool, List}
use Rattle.run_state.specs.Step.{run}
use Rattle.linked_code.specs.declared.program.Program.{Program}
use Rattle.linked_code.specs.World.{World, tags_of}
use Rattle.linked_code.specs.Links.{Links}
use Rattle.machine.specs.declared.state.Machine.{Machine}
use Rattle.machine.specs.Shown.{shown}
use Rattle.machine.specs.Turned.{Behind}

-- in every world, and before any input that may come
pub record Reaches {T : Type 0} (none : T) (join : T → T → T) (p : Program T) (closed : Bool) (old new : Machine T) (n : ℕ) : Type 0 where
  pub by : (w : World T) (more : List ℕ) → Links none w p → Behind closed more → shown w new more ≡ run (tags_of none join w) w.looks n (shown w old more)

-- some number of steps, not above a limit, brings it there
pub record ReachesWithin {T : Type 0} (none : T) (join : T → T → T) (p : Program T) (closed : Bool) (old new : Machine T) (limit : ℕ) : Type 0 where
  pub made : ℕ
  pub few : made ≤ limit
  pub by : Reaches none join p closed old new made
