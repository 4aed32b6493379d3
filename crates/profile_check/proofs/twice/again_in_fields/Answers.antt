use Rattle.std.proofs.Common.{◌≡◌, ◌∙◌, sym, take, rules, tests}
use Rattle.std.specs.List.{list_any}
use Rattle.std.proofs.lemmas.Iterator.{YieldsList-from_slice}
use Rattle.std.proofs.lemmas.Iterator.Search.{any_from_yields_List}
use Rattle.profile_check.specs.Members.{same_field}
use Rattle.profile_check.proofs.Again.{again_here, again_later, again_nowhere}
use Rattle.profile_check.proofs.twice.again_in_fields.Goals as goal

pub returns-then-any-clause-found : goal.returns-then-any-clause-found
returns-then-any-clause-found c =
    let xs = c.args.fields.now in
    let any = any_from_yields_List (same_field c.index-fields-k.result) _ _ c.any.result c.any.ensures.ran (YieldsList-from_slice (take c.loop-k.k xs) cc) (λ x b q k. search (rules, tests)) in
    sym (c.loop-k.invariant ∙ again_here same_field xs c.loop-k.k _ c.loop-k-test.true c.index-fields-k.is (sym any ∙ c.if-any.true))

pub loop-k-preserved : goal.loop-k-preserved
loop-k-preserved c =
    let xs = c.args.fields.now in
    let any = any_from_yields_List (same_field c.index-fields-k.result) _ _ c.any.result c.any.ensures.ran (YieldsList-from_slice (take c.loop-k.k xs) cc) (λ x b q k. search (rules, tests)) in
    c.loop-k.invariant ∙ again_later same_field xs c.loop-k.k _ c.loop-k-test.true c.index-fields-k.is (sym any ∙ c.if-any.false)

pub returns-clause-found : goal.returns-clause-found
returns-clause-found c = sym (c.loop-k.invariant ∙ again_nowhere same_field c.args.fields.now c.loop-k.k c.loop-k-test.false)
