use Rattle.std.proofs.Common.{◌≡◌, drop}
use Rattle.std.specs.Prelude.{map}
use Rattle.lists.specs.Texts.{units_of}
use Rattle.class_set.specs.Core as table
use Rattle.class_set.proofs.core_check.check_thrown.Given as goal

-- the names from here on decide
abbrev pub invariant-loop-name : goal.invariant-loop-name
invariant-loop-name l =
    table.thrown_wrong l.set (map (λ name. units_of name.now) l.names) ≡ table.thrown_wrong l.set (map (λ name. units_of name.now) (drop l.name-index l.names))
