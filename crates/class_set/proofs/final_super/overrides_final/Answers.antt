use Rattle.std.proofs.Common.{◌∙◌, ◌&&◌, sym, ap}
use Rattle.std.specs.List.{list_any}
use Rattle.class_set.specs.FinalSuper as table
use Rattle.class_set.proofs.Kept.{with_name}
use Rattle.class_set.proofs.final_super.overrides_final.Goals as goal

pub returns-then-not-contains : goal.returns-then-not-contains
returns-then-not-contains c =
    let set = c.args.set.now in
    let method = c.args.method.now in
    let above = table.classes_above set c.args.number in
    with_name set c.args.finals.now.keys above method c.requires (sym c.contains.ensures ∙ c.if-not-contains.true)
    ∙ ap (λ b. b && list_any (table.is_kept method) (table.methods_at set above)) (sym c.if-not-is_inherited.false ∙ c.is_inherited.ensures)
