-- The classes beside a written class are in the profile.
use Rattle.std.proofs.Common.{◌≡◌, refl, None}
use Rattle.std.specs.Str.{chars}
use Rattle.std.specs.List.{All}
use Rattle.profile_check.specs.declared.profile.Names.TheVariants.{Written}
use Rattle.profile_check.specs.First.{first, flat_from}
use Rattle.profile_check.specs.Rows.{first_again}
use Rattle.profile_check.specs.Walks.{judge}
use Rattle.profile_check.specs.Profile.{rows, answer, Profile}
use Rattle.profile_check.proofs.Whole.{all_none}
use Rattle.first_form.specs.Base.{report_class}
use Rattle.first_form_laws.specs.WrittenForm.{written_base}

none_out : first (λ class. first (answer class) (rows Written)) written_base ≡ None
unfolding chars written_base report_class first flat_from first_again judge
none_out = refl

pub base_in_profile : All (Profile Written) written_base
base_in_profile = λ number class within. all_none (answer _) (rows Written) (all_none (λ class. first (answer class) (rows Written)) written_base none_out number class within)
