use Rattle.std.proofs.Common.{◌∙◌, sym, ap, Option}
use Rattle.std.specs.Prelude.{option_map}
use Rattle.set_lookups.specs.declared.ids.ClassId.{ClassId}
use Rattle.program_links.proofs.MainClass.{main_there}
use Rattle.program_links.proofs.mains.find_main.Goals as goal

pub returns-in-Some-place_of_main : goal.returns-in-Some-place_of_main
returns-in-Some-place_of_main c =
    main_there c.args.set.now c.args.name.now c.in-Some.class c.class.result.now _
    (sym c.find_name.ensures ∙ ap (option_map (λ (id : ClassId). id.0)) c.in-Some.is) c.class.ensures
    (sym c.place_of_main.ensures ∙ c.in-Some-place_of_main.is)
