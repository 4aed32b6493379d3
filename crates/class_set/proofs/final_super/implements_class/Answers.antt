use Rattle.std.proofs.Common.{◌∙◌, ap, not}
use Rattle.set_lookups.specs.Flags as flags
use Rattle.class_model.specs.declared.class.ClassDef.{ClassDef}
use Rattle.class_set.specs.FinalSuper.{classes_at}
use Rattle.std.specs.List.{list_any}
use Rattle.class_set.proofs.Upwards.{any_of_classes}
use Rattle.class_set.proofs.final_super.implements_class.Goals as goal

pub returns : goal.returns
returns c =
    let set = c.args.set.now in
    let test = λ (class : ClassDef). not (flags.is_interface class) in
    c.any_no_interface.ensures ∙ any_of_classes test set c.interfaces.result.now ∙ ap (λ numbers. list_any test (classes_at set numbers)) c.interfaces.ensures
