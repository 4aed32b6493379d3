use Rattle.std.proofs.Common.{◌∙◌, ap, flat_map}
use Rattle.std.specs.Prelude.{option_to_list}
use Rattle.set_lookups.specs.Lookups.{chain, supers}
use Rattle.class_set.proofs.Upwards.{ways}
use Rattle.class_set.proofs.above.SuperWalk.above_class.Goals as goal

pub returns : goal.returns
returns c =
    let set = c.args.set.now in
    ap (λ left. flat_map (chain left set) (option_to_list c.superclass.result)) c.len.ensures ∙ ways set (option_to_list c.superclass.result) ∙ ap (flat_map (supers set)) c.superclass.ensures
