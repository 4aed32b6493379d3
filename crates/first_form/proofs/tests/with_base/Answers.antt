use Rattle.std.proofs.Common.{◌∙◌, sym, ap, subst, List, ◌++◌}
use Rattle.class_model.specs.declared.class.ClassDef.{ClassDef}
use Rattle.first_form.specs.FirstSet.{HasObject}
use Rattle.first_form.proofs.FirstSets.{ends_with_object}
use Rattle.first_form.proofs.tests.with_base.Goals as goal

pub returns : goal.returns
returns c = subst HasObject (sym (c.in_ok-append.ensures.items ∙ ap (λ (xs : List ClassDef). c.args.classes.items ++ xs) c.in_ok-small_base.ensures)) (ends_with_object c.args.classes.items)
