use Rattle.std.proofs.Common.{◌≡◌, ◌∙◌, ◌||◌, sym, ap, length}
use Rattle.std.specs.List.{list_any}
use Rattle.set_lookups.specs.Lookups as look
use Rattle.class_set.specs.FinalSuper.{methods_at}
use Rattle.class_set.specs.Open as table
use Rattle.class_set.proofs.Levelled.{any_of_methods}
use Rattle.class_set.proofs.open.any_open_at.Goals as goal

pub returns-then-any_open : goal.returns-then-any_open
returns-then-any_open c =
    let set = c.args.set.now in
    let test = table.is_open set c.args.number in
    let above = list_any test (methods_at set (look.levels (length set) set (look.interfaces_at set c.args.higher))) in
    sym (ap (λ b. b || above) (ap (list_any test) (sym c.methods_of.ensures) ∙ sym c.any_open.ensures ∙ c.if-any_open.true))

pub returns : goal.returns
returns c =
    let set = c.args.set.now in
    let test = table.is_open set c.args.number in
    let above = list_any test (methods_at set (look.levels (length set) set (look.interfaces_at set c.args.higher))) in
    c.any_superinterface.ensures ∙ any_of_methods test set (look.levels (length set) set (look.interfaces_at set c.args.higher))
    ∙ sym (ap (λ b. b || above) (ap (list_any test) (sym c.methods_of.ensures) ∙ sym c.any_open.ensures ∙ c.if-any_open.false))
