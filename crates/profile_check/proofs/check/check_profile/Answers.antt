use Rattle.std.proofs.Common.{◌≡◌, subst}
use Rattle.profile_check.specs.First.{first}
use Rattle.profile_check.specs.Answer.{Tells}
use Rattle.profile_check.specs.Profile.{answer, rows}
use Rattle.profile_check.proofs.Whole.{all_none, first_none, ok_from, passes_from, refused_from}
use Rattle.profile_check.proofs.check.check_profile.Goals as goal

pub returns-clause-tells : goal.returns-clause-tells
returns-clause-tells c = c.check_rows.ensures

pub returns-clause-ok : goal.returns-clause-ok
returns-clause-ok c = ok_from _ _ c.check_rows.ensures (λ none. all_none (answer c.args.class.now) (rows c.args.names) none)

pub returns-clause-passes : goal.returns-clause-passes
returns-clause-passes c = λ all. passes_from _ _ c.check_rows.ensures (first_none (answer c.args.class.now) (rows c.args.names) all)

pub returns-clause-out : goal.returns-clause-out
returns-clause-out c = λ fault e. subst (λ r. Tells r (first (answer c.args.class.now) (rows c.args.names))) e c.check_rows.ensures

pub returns-clause-refused : goal.returns-clause-refused
returns-clause-refused c = λ fault some. refused_from _ _ fault c.check_rows.ensures some
