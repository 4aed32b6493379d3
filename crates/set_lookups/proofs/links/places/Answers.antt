use Rattle.std.proofs.Common.{◌∙◌, ◌++◌, [], sym, ap, refl, take}
use Rattle.std.specs.Prelude.{filter_map}
use Rattle.std.specs.List.{cons_option}
use Rattle.set_lookups.specs.Links.{place_of}
use Rattle.set_lookups.proofs.Names.{filter_more}
use Rattle.set_lookups.proofs.links.places.Goals as goal

pub loop-name-preserved : goal.loop-name-preserved
loop-name-preserved c =
    let place = place_of c.args.names.now.keys in
    let more = filter_more place c.args.given.now c.loop-name.name-index c.name-item.result _ c.loop-name-test.true refl in
    c.in_ok-add_place.ensures ∙ ap (λ numbers. numbers ++ cons_option (place c.name-item.result) []) c.loop-name.invariant
    ∙ ap (λ name. filter_map place (take c.loop-name.name-index c.args.given.now) ++ cons_option (place name) []) c.name-item.is ∙ sym more
