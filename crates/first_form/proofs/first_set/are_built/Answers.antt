use Rattle.std.proofs.lemmas.Bool.{false≢true}
use Rattle.first_form.proofs.FirstSets.{too_many}
use Rattle.first_form.proofs.first_set.are_built.Goals as goal

pub returns-in_default : goal.returns-in_default
returns-in_default c = (λ said. absurd (false≢true said), λ first. absurd (too_many c.args.classes.now c.in_default.len_at_least first))
