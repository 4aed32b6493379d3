use Rattle.std.proofs.Common.{◌∙◌, sym, ap}
use Rattle.std.specs.Prelude.{flat_map}
use Rattle.set_lookups.specs.First.{first}
use Rattle.set_lookups.specs.Needed as table
use Rattle.set_lookups.proofs.Pieces.{found_in, passed_by, none_further}
use Rattle.set_lookups.proofs.needs.SeqNeeds.missing.Goals as goal

pub loop-item-init : goal.loop-item-init
loop-item-init g c = ap (λ xs. first (table.if_absent c.args.present.now.keys) (flat_map g.T.Needs.names xs)) (sym c.as_slice-item-items.ensures)

pub returns-in-Some : goal.returns-in-Some
returns-in-Some g c =
    sym (c.loop-item.invariant ∙ found_in (table.if_absent c.args.present.now.keys) g.T.Needs.names c.as_slice-item-items.result.now c.loop-item.item-index _ _ c.loop-item-test.true c.item-item.is c.in-Some.ensures)

pub loop-item-preserved : goal.loop-item-preserved
loop-item-preserved g c =
    c.loop-item.invariant ∙ passed_by (table.if_absent c.args.present.now.keys) g.T.Needs.names c.as_slice-item-items.result.now c.loop-item.item-index _ c.loop-item-test.true c.item-item.is c.in_default.ensures

pub returns : goal.returns
returns g c = sym (c.loop-item.invariant ∙ none_further (table.if_absent c.args.present.now.keys) g.T.Needs.names c.as_slice-item-items.result.now c.loop-item.item-index c.loop-item-test.false)
