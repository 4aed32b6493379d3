use Rattle.std.proofs.Common.{◌∙◌, ◌+◌, sym, ap, drop}
use Rattle.std.specs.Prelude.{flat_map}
use Rattle.std.proofs.lemmas.List.{at_drop_all}
use Rattle.set_lookups.specs.Levels.{once, edge}
use Rattle.set_lookups.proofs.Placing.{more_above}
use Rattle.set_lookups.proofs.level_build.add_above.Goals as goal

pub loop-number-preserved : goal.loop-number-preserved
loop-number-preserved c =
    let i = c.loop-number.number-index in
    let rest = flat_map (edge c.args.edges.now) (drop (i + 1) c.args.list.now) in
    c.loop-number.invariant ∙ more_above (edge c.args.edges.now) c.loop-number.numbers.keys c.args.list.now i c.loop-number-test.true
    ∙ ap (λ keys. once keys rest) (ap (once c.loop-number.numbers.keys) (sym c.list_of.ensures) ∙ sym c.in_ok-add_all.ensures)

pub returns : goal.returns
returns c = sym (c.loop-number.invariant ∙ at_drop_all (λ xs. once c.loop-number.numbers.keys (flat_map (edge c.args.edges.now) xs)) c.args.list.now c.loop-number.number-index c.loop-number-test.false)
