use Rattle.std.proofs.lemmas.Bool.{false≢true}
use Rattle.first_form.proofs.FirstSets.{other_end}
use Rattle.first_form.proofs.first_set.is_first_set.Goals as goal

pub returns-in-None : goal.returns-in-None
returns-in-None c = (λ said. absurd (false≢true said), λ first. absurd (other_end c.args.set.now c.in-None.ensures first))
