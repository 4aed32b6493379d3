-- Turns: an instruction, or the beginning of the classes that it needs.
use Rattle.std.specs.Prelude.{◌≡◌, ◌≢◌, ◌⊎◌, ℕ, Bool, true, false, List, [], ◌∷◌, map, Option, Some, None}
use Rattle.class_model.specs.declared.insn.Insn.{Insn}
use Rattle.run_state.specs.State as state
use Rattle.run_state.specs.Step.{step, beginning, to_start, needs_of}
use Rattle.linked_code.specs.declared.program.Program.{Program}
use Rattle.linked_code.specs.World.{World, tags_of}
use Rattle.linked_code.specs.Links.{Links}
use Rattle.machine.specs.declared.state.Machine.{Machine}
use Rattle.machine.specs.declared.state.Ending.TheVariants as ending
use Rattle.machine.specs.declared.state.Turn.{Turn}
use Rattle.machine.specs.declared.state.Turn.TheVariants as turn
use Rattle.machine.specs.Shown.{shown, frame_of, areas_of, outside_of}
use Rattle.machine.specs.Unwound.{done_at}

-- nothing comes behind an input that is closed
abbrev pub Behind : Bool → List ℕ → Type 0
Behind true more = more ≡ []
Behind false more = Unit {0}

-- the turn of the top frame, which is at an instruction
abbrev pub turned_at : {T : Type 0} → T → (T → T → T) → World T → Insn → Machine T → List ℕ → state.State T
turned_at none join w i m more =
    beginning (to_start (map w.class m.begun) (needs_of w.looks (Some i))) (outside_of w m more) (areas_of w m.areas) (frame_of w m.top ∷ map (frame_of w) m.below) (done_at none join w i m more)

-- of more bytes, the first was taken: these are left
abbrev pub TookFirst : List ℕ → List ℕ → Type 0
TookFirst [] left = Unit {0}
TookFirst (b ∷ more) left = left ≡ more

-- What a step answers: it was made; or nothing changed, since the step takes the first byte of more, which is not known; or nothing
-- changed, since the run has ended.
abbrev pub Answers : {T : Type 0} → World T → Machine T → Machine T → List ℕ → Turn → state.State T → Type 0
Answers w old new more turn.Went next = shown w new more ≡ next
Answers w old new more turn.Wants next = (new ≡ old) × TookFirst more next.outside.input
Answers w old new more turn.Ended next = new ≡ old

-- the classes that an instruction needs begin; or nothing changed, and the instruction is done
abbrev pub Prepares : {T : Type 0} → T → (T → T → T) → World T → Insn → Machine T → Machine T → List ℕ → Bool → Type 0
Prepares none join w i old new more true = shown w new more ≡ turned_at none join w i old more
Prepares none join w i old new more false = (new ≡ old) × (turned_at none join w i old more ≡ done_at none join w i old more)

-- the byte that is fed is there still, or it was taken
abbrev pub FedOn : Option ℕ → Option ℕ → Type 0
FedOn old new = (new ≡ old) ⊎ (new ≡ None)

-- what a step answers, of whether the run goes on: a run that has ended, or that waits for a byte of its input, stays as it is
abbrev pub Rests : {T : Type 0} → Bool → Machine T → Machine T → Turn → Type 0
Rests closed old new turn.Went = (old.ending ≡ ending.Running) × FedOn old.fed new.fed
Rests closed old new turn.Wants = (new ≡ old) × (old.fed ≡ None) × (closed ≡ false)
Rests closed old new turn.Ended = (new ≡ old) × (old.ending ≢ ending.Running)

-- the next step takes the first byte that comes
abbrev pub TakesNext : {T : Type 0} → T → (T → T → T) → World T → Machine T → Type 0
TakesNext none join w m = (b : ℕ) (more : List ℕ) → (step (tags_of none join w) w.looks (shown w m (b ∷ more))).outside.input ≡ more

-- a machine waits for a byte: none is fed, one may come, and the next step takes it
abbrev pub IsWaiting : {T : Type 0} → T → (T → T → T) → World T → Bool → Machine T → Type 0
IsWaiting none join w closed m = (m.fed ≡ None) × (closed ≡ false) × TakesNext none join w m

-- a run goes no further: it waits, in every world, or it has ended
abbrev pub IsAtRest : {T : Type 0} → T → (T → T → T) → Program T → Bool → Machine T → Type 0
IsAtRest {T} none join p closed m = (m.fed ≡ None) × (closed ≡ false) × ((w : World T) → Links none w p → TakesNext none join w m) ⊎ (m.ending ≢ ending.Running)
