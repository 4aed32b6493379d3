use Rattle.first_form_laws.proofs.UserNames.{user_class}
use Rattle.first_form_laws.proofs.laws.user_names_are_apart.Goals as goal

pub returns : goal.returns
returns c = user_class
