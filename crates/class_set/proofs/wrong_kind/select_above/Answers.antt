use Rattle.std.proofs.Common.{◌∙◌, sym, Some, None}
use Rattle.set_lookups.specs.Lookups as look
use Rattle.class_set.proofs.Firsts.{first_of_option}
use Rattle.class_set.proofs.wrong_kind.select_above.Goals as goal

pub returns-in-Some : goal.returns-in-Some
returns-in-Some c =
    let target = c.args.target.now in
    c.select_named.ensures ∙ sym (first_of_option (look.select_by c.args.set.now target.name target.desc) (Some c.in-Some.above) (look.super_at c.args.set.now c.args.current) c.in-Some.ensures)

pub returns-in-None : goal.returns-in-None
returns-in-None c =
    let target = c.args.target.now in
    sym (first_of_option (look.select_by c.args.set.now target.name target.desc) None (look.super_at c.args.set.now c.args.current) c.in-None.ensures)
