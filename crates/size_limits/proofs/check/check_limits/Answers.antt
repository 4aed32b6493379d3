use Rattle.std.proofs.Common.{◌∙◌, sym, ap}
use Rattle.std.specs.Prelude.{option_map}
use Rattle.class_model.specs.declared.class.ClassDef.{ClassDef}
use Rattle.std.proofs.Common.{ℕ}
use Rattle.size_limits.specs.Limits.{first_limit, in_class, class_limit}
use Rattle.size_limits.proofs.First.{found_here}
use Rattle.size_limits.proofs.check.check_limits.Goals as goal

pub returns-in-Some-clause-tells : goal.returns-in-Some-clause-tells
unfolding first_limit
returns-in-Some-clause-tells c =
    found_here (λ (at : ℕ) (class : ClassDef). option_map (in_class at) (class_limit c.args.config.now class)) _ _ _ _ c.loop-at.invariant c.loop-at-test.true c.index-classes-at.is (ap (option_map (in_class c.loop-at.at)) (ap (λ lists. class_limit lists c.index-classes-at.result) (sym c.in_ok-lists.ensures) ∙ sym c.in_ok-limit.ensures ∙ c.in-Some.is))
