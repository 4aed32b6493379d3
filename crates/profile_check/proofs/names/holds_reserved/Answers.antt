use Rattle.std.proofs.Common.{◌≡◌, ◌∙◌, sym}
use Rattle.std.specs.Prelude.{codes}
use Rattle.std.proofs.lemmas.List.{at_drop_all}
use Rattle.profile_check.specs.Names.{is_reserved}
use Rattle.profile_check.proofs.Reserved.{found_here, found_later}
use Rattle.profile_check.proofs.names.holds_reserved.Goals as goal

pub returns-then-starts_with : goal.returns-then-starts_with
returns-then-starts_with c =
    sym (c.loop-start.invariant ∙ found_here (codes "$$PHOSPHOR") c.args.units.now c.loop-start.start c.loop-start-test.true (sym c.starts_with.ensures.value ∙ c.if-starts_with.true))

pub loop-start-preserved : goal.loop-start-preserved
loop-start-preserved c =
    c.loop-start.invariant ∙ found_later (codes "$$PHOSPHOR") c.args.units.now c.loop-start.start c.loop-start-test.true (sym c.starts_with.ensures.value ∙ c.if-starts_with.false)

pub returns : goal.returns
returns c = sym (c.loop-start.invariant ∙ at_drop_all is_reserved c.args.units.now c.loop-start.start c.loop-start-test.false)
