use Rattle.std.proofs.Common.{◌∙◌, ◌+◌, sym, ap, drop}
use Rattle.std.proofs.lemmas.List.{at_drop_more, at_drop_all}
use Rattle.set_lookups.specs.Levels.{once}
use Rattle.set_lookups.proofs.level_build.add_all.Goals as goal

pub loop-number-preserved : goal.loop-number-preserved
loop-number-preserved c =
    let i = c.loop-number.number-index in
    c.loop-number.invariant ∙ at_drop_more (once c.loop-number.numbers.keys) c.args.more.now i 0 c.loop-number-test.true
    ∙ ap (λ keys. once keys (drop (i + 1) c.args.more.now)) (sym c.in_ok-insert.ensures.keys)

pub returns : goal.returns
returns c = sym (c.loop-number.invariant ∙ at_drop_all (once c.loop-number.numbers.keys) c.args.more.now c.loop-number.number-index c.loop-number-test.false)
