use Rattle.std.proofs.Common.{◌∙◌, ◌||◌, sym, ap}
use Rattle.class_set.specs.Open as table
use Rattle.class_set.proofs.Levelled.{any_at, all_up, walk_on, walk_over, whole_way}
use Rattle.class_set.proofs.open.any_open_up.Goals as goal

pub returns-then-any_open_at : goal.returns-then-any_open_at
returns-then-any_open_at c =
    let set = c.args.set.now in
    let test = table.is_open set c.args.number in
    let rest = c.next.new.self in
    let on = walk_on test set c.loop-higher.walk c.in-Some.higher rest c.any_open_at.result c.in-Some.ensures c.any_open_at.ensures in
    sym (sym (whole_way test set c.args.number) ∙ c.loop-higher.invariant ∙ on ∙ ap (λ b. b || any_at test set (all_up set rest)) c.if-any_open_at.true)

pub loop-higher-preserved : goal.loop-higher-preserved
loop-higher-preserved c =
    let set = c.args.set.now in
    let test = table.is_open set c.args.number in
    let rest = c.next.new.self in
    let on = walk_on test set c.loop-higher.walk c.in-Some.higher rest c.any_open_at.result c.in-Some.ensures c.any_open_at.ensures in
    c.loop-higher.invariant ∙ on ∙ ap (λ b. b || any_at test set (all_up set rest)) c.if-any_open_at.false

pub returns : goal.returns
returns c =
    let set = c.args.set.now in
    let test = table.is_open set c.args.number in
    sym (sym (whole_way test set c.args.number) ∙ c.loop-higher.invariant ∙ walk_over test set c.loop-higher.walk c.in_default.ensures.0)
