use Rattle.std.proofs.Common.{◌∙◌, ◌||◌}
use Rattle.set_lookups.specs.Flags as flags
use Rattle.set_lookups.specs.Lookups.{super_at}
use Rattle.class_model.specs.declared.class.ClassDef.{ClassDef}
use Rattle.class_set.proofs.Upwards.{one_of_classes}
use Rattle.class_set.proofs.final_super.extends_final.Goals as goal

pub returns-in-Some : goal.returns-in-Some
returns-in-Some c =
    let set = c.args.set.now in
    let test = λ (class : ClassDef). flags.is_final class.flags || flags.is_interface class in
    c.is_sealed.ensures ∙ one_of_classes test set (super_at set c.args.number) c.in-Some.higher c.in-Some.ensures
