use Rattle.std.proofs.Common.{◌∙◌, sym}
use Rattle.set_lookups.specs.Lookups as look
use Rattle.set_lookups.proofs.FirstSteps.{first_found, first_passed, first_over}
use Rattle.set_lookups.proofs.hierarchy.Hierarchy.find_in_each.Goals as goal

pub loop-number-preserved : goal.loop-number-preserved
loop-number-preserved c =
    let f = look.declared c.args.self.now c.args.name.now c.args.desc.now look.any_method in
    c.loop-number.invariant ∙ first_passed f c.args.numbers.now c.loop-number.number-index c.loop-number-test.true (sym c.in_default.ensures)

pub returns-in-Some : goal.returns-in-Some
returns-in-Some c =
    let f = look.declared c.args.self.now c.args.name.now c.args.desc.now look.any_method in
    sym (c.loop-number.invariant ∙ first_found f c.args.numbers.now c.loop-number.number-index c.in-Some.found c.loop-number-test.true (sym c.declared.ensures ∙ c.in-Some.is))

pub returns : goal.returns
returns c =
    let f = look.declared c.args.self.now c.args.name.now c.args.desc.now look.any_method in
    sym (c.loop-number.invariant ∙ first_over f c.args.numbers.now c.loop-number.number-index c.loop-number-test.false)
