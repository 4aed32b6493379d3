use Rattle.std.proofs.Common.{◌≡◌, ◌++◌, ◌+◌, ◌-◌, ◌≤◌, drop, length, reverse}
use Rattle.std.specs.Vec.{vec_len, vec_capacity}
use Rattle.machine.specs.Marked.{AreMarked}
use Rattle.machine.proofs.begun.mark_each.Given as goal

abbrev pub invariant-loop-behind : goal.invariant-loop-behind
invariant-loop-behind l =
    (reverse l.classes.items ≡ drop (length l.others - l.behind) l.others ++ reverse l.initial.classes.items)
    × (vec_len l.classes + (length l.others - l.behind) ≤ vec_capacity l.classes) × AreMarked (reverse l.classes.items) l.marks.items
