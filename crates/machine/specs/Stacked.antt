-- The frames of a machine, the top one first.
use Rattle.std.specs.Prelude.{◌≡◌, ◌≢◌, ℕ, Bool, true, false, List, [], ◌∷◌, ◌++◌}
use Rattle.machine_frames.specs.declared.frame.Frame.{Frame}
use Rattle.linked_code.specs.declared.program.Program.{Program}
use Rattle.machine.specs.declared.state.Machine.{Machine}
use Rattle.machine.specs.Beginning.{waiting, with_blanks, with_classes}

abbrev pub when_framed : {A : Type 0} → Bool → A → List A → List A
when_framed true top below = top ∷ below
when_framed false top below = []

abbrev pub stacked : {T : Type 0} → Machine T → List (Frame T)
stacked m = when_framed m.framed m.top m.below

-- the frames of a machine have become these, and nothing else is another
pub record Stacks {T : Type 0} (old new : Machine T) (fs : List (Frame T)) : Type 0 where
  pub frames : stacked new ≡ fs
  pub others : new ≡ record old { framed = new.framed; top = new.top; below = new.below }

-- these frames come on top, and these classes in front
abbrev pub BeginsWith : {T : Type 0} → Machine T → Machine T → List (Frame T) → List ℕ → Type 0
BeginsWith old new frames classes = (new.begun ≡ classes ++ old.begun) × Stacks old (record new { begun = old.begun }) (frames ++ stacked old)

-- the classes of those of these initializers that have not begun begin, if there is one
abbrev pub Begins : {T : Type 0} → Program T → List ℕ → Machine T → Bool → Machine T → Type 0
Begins p starts old false new = (new ≡ old) × (waiting p old.begun starts ≡ [])
Begins p starts old true new =
    (waiting p old.begun starts ≢ []) × (new.begun ≡ with_classes p (waiting p old.begun starts) old.begun)
    × Stacks old (record new { begun = old.begun }) (with_blanks p (waiting p old.begun starts) (stacked old))
