use Rattle.std.proofs.Common.{◌≡◌, [], ◌∷◌, List, ℕ, length}
use Rattle.std.specs.Prelude.{true}
use Rattle.run_state.specs.Words as words
use Rattle.linked_code.specs.World.{World}
use Rattle.linked_code.specs.Links.{Links}
use Rattle.machine.specs.declared.state.Ending.TheVariants.{Running}
use Rattle.machine.specs.Unwound.{thrown_at}
use Rattle.machine.proofs.unwinding.unwind.Given as goal

abbrev pub invariant-loop-target : goal.invariant-loop-target
invariant-loop-target g l =
    (l.machine.framed ≡ true) × (l.machine.ending ≡ Running) × (l.landing ≡ words.Ref l.place ∷ [])
    × ((w : World g.row.T.Denot) (more : List ℕ) → Links g.T.Tag.none_of w l.program
    → thrown_at w (w.class l.class) l.place l.at l.machine more ≡ thrown_at w (w.class l.class) l.place l.fn.machine.top.next l.fn.machine more)
    × (l.machine.fed ≡ l.fn.machine.fed)

abbrev pub decreases-loop-target : goal.decreases-loop-target
decreases-loop-target g l = length l.machine.below
