-- Calls and returns, whatever the instruction that makes them.
use Rattle.std.specs.Prelude.{ℤ, pos, negsuc, Bool, true, false, Some, None, ℕ, zero, suc, ◌+◌, List, [], ◌∷◌, map, replicate, reverse, take, Option, slice_get}
use Rattle.run_state.specs.State as state
use Rattle.run_state.specs.Words.{Word, Empty, pushed}
use Rattle.run_state.specs.Operands.{with_args}
use Rattle.run_state.specs.Natives.{Native}
use Rattle.run_state.specs.Calls.{called, entered, given_back, natively}
use Rattle.machine_frames.specs.declared.frame.Frame.{Frame}
use Rattle.linked_code.specs.World.{World, tags_of}
use Rattle.machine.specs.declared.operands.Held.{Held}
use Rattle.machine.specs.declared.operands.Held.TheVariants as holds
use Rattle.machine.specs.declared.state.Machine.{Machine}
use Rattle.machine.specs.Held.{held_by}
use Rattle.machine.specs.Shown.{frame_of, areas_of, outside_of}

-- the receiver of a call whose arguments are so many words: the lowest of them
abbrev pub receiver_in : {T : Type 0} → ℕ → List (Word T) → Held
receiver_in zero st = holds.Nothing
receiver_in (suc n) st = held_by (slice_get st n)

-- where the uppermost frame is this
abbrev pub MatchHead : {A : Type 0} → List A → Type 0 → (A → List A → Type 0) → Type 0
MatchHead [] none some = none
MatchHead (f ∷ fs) none some = some f fs

-- a value on the stack of the uppermost frame
abbrev pub given_to : {T : Type 0} → Word T → List (Frame T) → List (Frame T)
given_to v [] = []
given_to v (f ∷ fs) = record f { stack = pushed v f.stack } ∷ fs

-- a frame of a method at its first instruction, with so many locals, none of them set
abbrev pub blank : {T : Type 0} → ℕ → ℕ → Frame T
blank n locals = record { method = n; next = 0; locals = replicate locals Empty; stack = [] }

-- what a read gives, where it is known
abbrev pub input_read : Option ℕ → Bool → Option ℤ
input_read (Some b) closed = Some (pos b)
input_read None true = Some (negsuc 0)
input_read None false = None

-- the argument of a number, of a call whose arguments are the topmost words
abbrev pub argument : {T : Type 0} → List (Word T) → ℕ → ℕ → Option (Word T)
argument st words k = slice_get (reverse (take words st)) k

module _ {T : Type 0} (none : T) (join : T → T → T) (w : World T) (m : Machine T) (more : List ℕ) where
  abbrev pub with_topmost : ℕ → (List (Word T) → List (Word T) → state.State T) → state.State T
  with_topmost words go = with_args (outside_of w m more) (areas_of w m.areas) words m.top.stack [] go

  -- the top frame, which waits behind its call with the rest of its stack
  abbrev pub waiting : List (Word T) → state.Frame T
  waiting rest = record { method = w.method m.top.method; next = m.top.next + 1; locals = m.top.locals; stack = rest }

  -- the method of a number is called with so many words, whatever it is
  abbrev pub call_at : ℕ → ℕ → state.State T
  call_at n words = with_topmost words (λ args rest. called (tags_of none join w) w.looks (w.method n) args (outside_of w m more) (areas_of w m.areas) (w.method m.top.method) m.top.next m.top.locals rest (map (frame_of w) m.below))

  -- and entered
  abbrev pub enter_at : ℕ → ℕ → state.State T
  enter_at n words = with_topmost words (λ args rest. entered (outside_of w m more) (areas_of w m.areas) (w.method n) args (waiting rest ∷ map (frame_of w) m.below))

  -- a native is called with so many words, for the method of a number
  abbrev pub native_at : Native → ℕ → ℕ → state.State T
  native_at native n words =
      with_topmost words (λ args rest.
      natively (tags_of none join w) w.looks native (w.method n) args (outside_of w m more) (areas_of w m.areas) (w.method m.top.method) m.top.next m.top.locals rest (map (frame_of w) m.below))

  -- a value is given back to the frame below
  abbrev pub give_at : Word T → state.State T
  give_at v = given_back (tags_of none join w) w.looks (w.method m.top.method) v (outside_of w m more) (areas_of w m.areas) (map (frame_of w) m.below)
