-- What a run over a source is.
use Rattle.std.specs.Prelude.{◌≡◌, ◌≢◌, ℕ, ◌+◌, List, [], ◌∷◌, Option, Some, None, Result, Ok, Err, ⊤}
use Rattle.run_state.specs.State.{Running}
use Rattle.plain_machine.specs.declared.plain_run.PlainRun.{PlainRun}
use Rattle.plain_machine.specs.Standing.{StandsWith, console_of, fed_of, state_at}
use Rattle.run_console.specs.declared.stop.RunStop.{RunStop}
use Rattle.run_console.specs.declared.stop.RunStop.TheVariants.{ReadFault, WriteFault, Memory}

-- for an input, a run stands at a number of steps, nothing is fed, and `left` is the rest of the input
pub record StandsBefore (run : PlainRun) (input : List ℕ) (k : ℕ) (left : List ℕ) : Type 0 where
  pub stands : StandsWith run input k left
  pub unfed : fed_of run ≡ None

-- the definition's state after so many steps has just this input left, and has written what the run has
pub record Tells (run : PlainRun) (input : List ℕ) (k : ℕ) (left : List ℕ) : Type 0 where
  pub rest : (state_at run input k).outside.input ≡ left
  pub console : (state_at run input k).outside.console ≡ console_of run

-- So many steps: for each input of which `before` is left to the run, it goes on by so many steps, and then `after` is left. A run that
-- has ended stands at every later number.
abbrev pub Runs : PlainRun → PlainRun → ℕ → (before after : List ℕ) → Type 0
Runs old new steps before after = (input : List ℕ) (k : ℕ) → StandsBefore old input k before → StandsBefore new input (k + steps) after

-- steps of which there is none only where the run has ended
pub record Advances (old new : PlainRun) (made : ℕ) (before after : List ℕ) : Type 0 where
  pub runs : Runs old new made before after
  pub ended : (input : List ℕ) (k : ℕ) → StandsBefore old input k before → made ≡ 0 → (state_at new input k).ending ≢ Running

-- what a source that tells what is left says before and after
abbrev pub IfTold : Option (List ℕ) → Option (List ℕ) → (List ℕ → List ℕ → Type 0) → Type 0
IfTold None after P = ⊤
IfTold (Some before) None P = ⊥
IfTold (Some before) (Some after) P = P before after

-- the first byte of what was left, or its end
abbrev pub Gives : Option ℕ → (before after : List ℕ) → Type 0
Gives None before after = (before ≡ []) × (after ≡ [])
Gives (Some b) before after = before ≡ b ∷ after

-- what is said of a run that came to its end, whether its console was then written or not
abbrev pub IfRan : Result (Unit {0}) RunStop → Type 0 → Type 0
IfRan (Ok done) P = P
IfRan (Err WriteFault) P = P
IfRan (Err ReadFault) P = ⊤
IfRan (Err Memory) P = ⊤
