use Rattle.std.proofs.Common.{◌≡◌, drop}
use Rattle.std.specs.Prelude.{flat_map}
use Rattle.set_lookups.specs.First.{first}
use Rattle.set_lookups.specs.Needed as table
use Rattle.set_lookups.proofs.needs.SeqNeeds.missing.Given as goal

-- the items from here on decide
abbrev pub invariant-loop-item : goal.invariant-loop-item
invariant-loop-item g l =
    let absent = table.if_absent l.present.keys in
    first absent (flat_map g.T.Needs.names l.fn.self) ≡ first absent (flat_map g.T.Needs.names (drop l.item-index l.item-items))
