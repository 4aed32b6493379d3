-- Where a run stands.
use Rattle.std.specs.Prelude.{◌≡◌, ◌≢◌, ℕ, ◌+◌, ◌≤◌, Bool, false, List, [], ◌∷◌, Option, Some, None}
use Rattle.class_model.specs.declared.class.ClassDef.{ClassDef}
use Rattle.run_state.specs.State.{State, Running}
use Rattle.run_state.specs.Observation.{plain_at}
use Rattle.linked_code.specs.Links.{Links}
use Rattle.machine.specs.Shown.{shown}
use Rattle.machine.specs.declared.state.Turn.{Turn}
use Rattle.machine.specs.declared.state.Turn.TheVariants as turn
use Rattle.machine.specs.Turned.{Behind, FedOn}
use Rattle.program_links.specs.Numbers.{Numbers}
use Rattle.program_links.specs.WorldOf.{name_at, world_of}
use Rattle.plain_machine.specs.declared.plain_run.PlainRun.{PlainRun}

-- the set that runs, and the name of its main class
abbrev pub set_of : PlainRun → List ClassDef
set_of run = run.set.now

abbrev pub main_of : PlainRun → List ℕ
main_of run = name_at run.set.now run.main.0

-- the byte that is fed and not yet taken, and whether the input ends behind it
abbrev pub fed_of : PlainRun → Option ℕ
fed_of run = run.machine.fed

abbrev pub is_closed : PlainRun → Bool
is_closed run = run.closed

-- the bytes that it has written
abbrev pub console_of : PlainRun → List ℕ
console_of run = run.machine.console

-- one run has the set and the main class of another
abbrev pub IsOfSame : PlainRun → PlainRun → Type 0
IsOfSame old new = (set_of new ≡ set_of old) × (main_of new ≡ main_of old)

-- the state of the definition after so many steps
abbrev pub state_at : PlainRun → (input : List ℕ) → ℕ → State (Unit {0})
state_at run input k = plain_at (set_of run) (main_of run) input k

-- A run shows a state, where `rest` is the input behind the byte that is fed: the run's program is its set, linked in some numbering of
-- types and texts, and in that numbering its machine shows the state.
pub record Shows (run : PlainRun) (rest : List ℕ) (s : State (Unit {0})) : Type 0 where
  pub numbers : Numbers
  pub links : Links tt (world_of (set_of run) (main_of run) numbers) run.program
  pub state : s ≡ shown (world_of (set_of run) (main_of run) numbers) run.machine rest

-- For an input, a run stands at a number of steps: it shows the definition's state after so many, and `rest` is what this input has
-- behind the byte that is fed. Once the end is known nothing is behind that.
pub record StandsWith (run : PlainRun) (input : List ℕ) (k : ℕ) (rest : List ℕ) : Type 0 where
  pub behind : Behind (is_closed run) rest
  pub shows : Shows run rest (state_at run input k)

abbrev pub StandsAt : PlainRun → (input : List ℕ) → ℕ → Type 0
StandsAt run input k = (rest : List ℕ) × StandsWith run input k rest

-- wherever one run stands, another stands after so many more steps
abbrev pub GoesOn : PlainRun → PlainRun → ℕ → Type 0
GoesOn old new j = (input : List ℕ) (k : ℕ) (rest : List ℕ) → StandsWith old input k rest → StandsWith new input (k + j) rest

-- some number of steps on, not above a limit
pub record GoesWithin (old new : PlainRun) (limit : ℕ) : Type 0 where
  pub made : ℕ
  pub few : made ≤ limit
  pub on : GoesOn old new made

-- nothing is fed, and the end is not known
abbrev pub IsOpen : PlainRun → Type 0
IsOpen run = (fed_of run ≡ None) × (is_closed run ≡ false)

-- wherever a run stands, the next step takes the first byte of the rest; or, wherever it stands, it takes none
abbrev pub TakesNext : PlainRun → Type 0
TakesNext run = (input : List ℕ) (k b : ℕ) (bs : List ℕ) → StandsWith run input k (b ∷ bs) → (state_at run input (k + 1)).outside.input ≡ bs

abbrev pub TakesNone : PlainRun → Type 0
TakesNone run = (input : List ℕ) (k : ℕ) (rest : List ℕ) → StandsWith run input k rest → (state_at run input (k + 1)).outside.input ≡ rest

-- wherever a run stands, it has ended, or it has not
abbrev pub HasEnded : PlainRun → Type 0
HasEnded run = (input : List ℕ) (k : ℕ) → StandsAt run input k → (state_at run input k).ending ≢ Running

abbrev pub IsRunning : PlainRun → Type 0
IsRunning run = (input : List ℕ) (k : ℕ) → StandsAt run input k → (state_at run input k).ending ≡ Running

-- a run waits for a byte: it goes on, nothing is fed, the end is not known, and the next step takes a byte
pub record IsWaiting (run : PlainRun) : Type 0 where
  pub running : IsRunning run
  pub «open» : IsOpen run
  pub takes : TakesNext run

-- a step was made: no byte of the rest was taken in it, and the byte that was fed is there still, or was taken
pub record Makes (old new : PlainRun) : Type 0 where
  pub running : IsRunning old
  pub on : GoesOn old new 1
  pub fed : FedOn (fed_of old) (fed_of new)
  pub leaves : IsOpen old → TakesNone old

-- what a step answers: it was made; or nothing changed, since the run waits for a byte, or since it has ended
abbrev pub Answers : PlainRun → PlainRun → Turn → Type 0
Answers old new turn.Went = Makes old new
Answers old new turn.Wants = (new ≡ old) × IsWaiting old
Answers old new turn.Ended = (new ≡ old) × HasEnded old

-- what is fed keeps the number for the inputs that go on with the byte, or that end there
abbrev pub Feeds : Option ℕ → PlainRun → PlainRun → Type 0
Feeds None old new = (input : List ℕ) (k : ℕ) → StandsWith old input k [] → StandsWith new input k []
Feeds (Some b) old new = (input : List ℕ) (k : ℕ) (rest : List ℕ) → StandsWith old input k (b ∷ rest) → StandsWith new input k rest
