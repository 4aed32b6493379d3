use Rattle.std.proofs.Common.{◌∙◌, map, sym, ap, subst}
use Rattle.std.specs.Prelude.{option_to_list}
use Rattle.profile_check.specs.Answer.{Tells}
use Rattle.profile_check.specs.First.{first}
use Rattle.profile_check.specs.Mentions.{ClassName}
use Rattle.profile_check.specs.Walks.{judge}
use Rattle.profile_check.proofs.First.{tells_one, first_nil}
use Rattle.profile_check.proofs.walk.Walk.optional_class.Goals as goal

pub returns-in-Some : goal.returns-in-Some
returns-in-Some c =
    let f = judge c.args.self.now.rule c.args.self.now.place in
    subst (λ o. Tells c.class_name.result (first f (map ClassName (option_to_list o)))) (sym c.in-Some.is) (tells_one f _ _ c.class_name.ensures)

pub returns-in-None : goal.returns-in-None
returns-in-None c =
    let f = judge c.args.self.now.rule c.args.self.now.place in
    ap (λ o. first f (map ClassName (option_to_list o))) c.in-None.is ∙ first_nil f
