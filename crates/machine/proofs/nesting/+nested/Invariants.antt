use Rattle.std.proofs.Common.{◌≡◌, ◌+◌, ◌-◌, drop, map, length}
use Rattle.run_state.specs.Objects.{made_times, nested}
use Rattle.linked_code.specs.World.{World, tags_of}
use Rattle.linked_code.specs.Links.{Links}
use Rattle.machine.specs.Shown.{item_of}
use Rattle.machine.specs.Nested.{Grows, joined}
use Rattle.machine.proofs.nesting.+nested.Given as goal

abbrev pub decreases-nested : goal.decreases-nested
decreases-nested g l = length l.sizes.now - l.at

abbrev pub invariant-loop-k : goal.invariant-loop-k
invariant-loop-k g l =
    ((w : World g.row.T.Denot) → Links g.T.Tag.none_of w l.program
    → made_times l.size (nested (tags_of g.T.Tag.none_of g.T.Tag.join_of w) (drop (l.at + 1) l.sizes) (w.ty l.element)) (map (item_of w) l.fn.heap)
    ≡ joined l.cells (made_times (l.size - l.k) (nested (tags_of g.T.Tag.none_of g.T.Tag.join_of w) (drop (l.at + 1) l.sizes) (w.ty l.element)) (map (item_of w) l.heap)))
    × Grows l.fn.heap l.heap
