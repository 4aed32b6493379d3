use Rattle.first_form.proofs.FirstSets.{second_told}
use Rattle.first_form.proofs.first_set.first_other.Goals as goal

pub returns-in-len1-up : goal.returns-in-len1-up
returns-in-len1-up c = second_told c.args.set.now c.class-item.result c.in-len1-up.len_at_least c.class-item.is c.requires (c.in_ok-is_form_one.ensures.0 c.if-branch.true)
