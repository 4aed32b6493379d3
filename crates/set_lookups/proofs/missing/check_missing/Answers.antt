use Rattle.std.proofs.Common.{◌∙◌, sym, ap, Some}
use Rattle.std.specs.Prelude.{option_map, option_copied, flat_map}
use Rattle.set_lookups.specs.Needed.{missing, needed}
use Rattle.set_lookups.specs.declared.fault.HierarchyFault.TheVariants.{Missing}
use Rattle.set_lookups.proofs.Names.{missing_of_absent}
use Rattle.set_lookups.proofs.missing.check_missing.Goals as goal

pub returns-in_ok-clone-in-Some : goal.returns-in_ok-clone-in-Some
unfolding missing
returns-in_ok-clone-in-Some c =
    let found = sym (missing_of_absent c.args.classes.now c.args.names.now.keys (flat_map needed c.args.classes.now) c.requires) ∙ sym c.missing.ensures ∙ ap option_copied c.in-Some.is in
    ap (option_map Missing) found ∙ ap (λ name. Some (Missing name)) (sym c.in_ok-clone-in-Some.ensures.cases)

pub returns-in-None : goal.returns-in-None
unfolding missing
returns-in-None c =
    sym (missing_of_absent c.args.classes.now c.args.names.now.keys (flat_map needed c.args.classes.now) c.requires) ∙ sym c.missing.ensures ∙ ap option_copied c.in-None.is
