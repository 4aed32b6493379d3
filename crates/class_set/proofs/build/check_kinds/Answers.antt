use Rattle.std.proofs.Common.{◌∙◌, sym, ap, List}
use Rattle.std.specs.Prelude.{option_map}
use Rattle.class_model.specs.declared.class.ClassDef.{ClassDef}
use Rattle.set_lookups.specs.First.{first, first_from}
use Rattle.class_set.specs.References.{class_insns}
use Rattle.class_set.specs.Calls.{wrong_kind, if_wrong_kind}
use Rattle.class_set.specs.declared.fault.SetFault.TheVariants.{WrongKind}
use Rattle.class_set.proofs.build.check_kinds.Goals as goal

pub returns-in-Some : goal.returns-in-Some
unfolding wrong_kind
returns-in-Some c =
    let told = λ (classes : List ClassDef). first_from (λ current class. first (if_wrong_kind c.args.set.now current) (class_insns class)) 0 classes in
    ap (option_map WrongKind) (ap told (sym c.classes.ensures) ∙ sym c.in_ok-text.ensures ∙ c.in-Some.is)

pub returns-in-None : goal.returns-in-None
unfolding wrong_kind
returns-in-None c =
    let told = λ (classes : List ClassDef). first_from (λ current class. first (if_wrong_kind c.args.set.now current) (class_insns class)) 0 classes in
    ap told (sym c.classes.ensures) ∙ sym c.in_ok-text.ensures ∙ c.in-None.is
