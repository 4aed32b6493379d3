use Rattle.std.proofs.Common.{◌∙◌, ◌+◌, sym, length, drop, get_or}
use Rattle.std.proofs.lemmas.List.{at_drop_more}
use Rattle.set_lookups.specs.First.{first}
use Rattle.set_lookups.specs.Lookups as look
use Rattle.set_lookups.proofs.FirstSteps.{first_passed, first_over}
use Rattle.set_lookups.proofs.Meeting.{first_owner}
use Rattle.set_lookups.proofs.UpPieces.{none_of}
use Rattle.set_lookups.proofs.hierarchy.Hierarchy.find_owner.Goals as goal

pub loop-number-preserved : goal.loop-number-preserved
loop-number-preserved c =
    let f = look.field_from (length c.args.self.now) c.args.self.now c.args.target.now in
    c.loop-number.invariant ∙ first_passed f c.args.numbers.now c.loop-number.number-index c.loop-number-test.true (none_of (f (get_or c.args.numbers.now c.loop-number.number-index 0)) (sym c.has_field.ensures ∙ c.if-has_field.false))

pub returns-then-has_field-clause-same : goal.returns-then-has_field-clause-same
returns-then-has_field-clause-same c =
    let f = look.field_from (length c.args.self.now) c.args.self.now c.args.target.now in
    let i = c.loop-number.number-index in
    c.loop-number.invariant ∙ at_drop_more (first f) c.args.numbers.now i 0 c.loop-number-test.true ∙ first_owner f (get_or c.args.numbers.now i 0) (drop (i + 1) c.args.numbers.now) (sym c.has_field.ensures ∙ c.if-has_field.true)

pub returns-clause-none : goal.returns-clause-none
returns-clause-none c =
    let f = look.field_from (length c.args.self.now) c.args.self.now c.args.target.now in
    c.loop-number.invariant ∙ first_over f c.args.numbers.now c.loop-number.number-index c.loop-number-test.false
