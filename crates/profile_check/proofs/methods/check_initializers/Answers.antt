use Rattle.std.proofs.Common.{◌≡◌, ◌+◌, length, subst, rules, tests}
use Rattle.std.specs.Prelude.{option_map}
use Rattle.std.proofs.lemmas.Iterator.{YieldsList-from_slice}
use Rattle.std.proofs.lemmas.Iterator.Search.{position_from_yields_List}
use Rattle.profile_check.specs.declared.profile.ProfileKind.TheVariants as kind
use Rattle.profile_check.specs.Answer.{Tells}
use Rattle.profile_check.specs.Members.{is_bad_initializer}
use Rattle.profile_check.specs.Rows.{fault_in}
use Rattle.profile_check.proofs.methods.check_initializers.Goals as goal

pub returns : goal.returns
returns c =
    let class = c.args.class.now in
    subst (λ found. Tells c.at_method.result (fault_in kind.Initializer (option_map (λ k. length class.fields + k) found)))
    (position_from_yields_List (is_bad_initializer class) _ _ c.position-found.result c.position-found.ensures.ran (YieldsList-from_slice class.methods cc) (λ x b q k. search (rules, tests)))
    c.at_method.ensures
