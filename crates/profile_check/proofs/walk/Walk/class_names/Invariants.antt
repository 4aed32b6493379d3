use Rattle.std.proofs.Common.{◌≡◌, drop, map}
use Rattle.std.specs.Prelude.{flat_map}
use Rattle.profile_check.specs.First.{first}
use Rattle.profile_check.specs.Mentions.{ClassName}
use Rattle.profile_check.specs.Walks.{judge}
use Rattle.profile_check.proofs.walk.Walk.class_names.Given as goal

-- what is left decides
abbrev pub invariant-loop-name : goal.invariant-loop-name
invariant-loop-name l =
    let f = judge l.self.rule l.self.place in
    first f (map ClassName l.names) ≡ first f (map ClassName (drop l.name-index l.names))
