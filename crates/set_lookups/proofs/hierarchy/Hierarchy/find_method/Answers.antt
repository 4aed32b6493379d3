use Rattle.std.proofs.Common.{◌∙◌, sym, ap}
use Rattle.std.specs.Option.{option_or}
use Rattle.set_lookups.specs.First.{first}
use Rattle.set_lookups.specs.Lookups as look
use Rattle.set_lookups.proofs.Lists.{first_append}
use Rattle.set_lookups.proofs.hierarchy.Hierarchy.find_method.Goals as goal

pub returns-in-Some : goal.returns-in-Some
unfolding look.method_from
returns-in-Some c =
    let set = c.args.self.now in
    let f = look.declared set c.args.name.now c.args.desc.now look.any_method in
    let above = first f (look.superinterfaces set c.args.at) in
    ap (λ b. option_or b above) c.in-Some.ensures ∙ sym (first_append f (look.supers set c.args.at) (look.superinterfaces set c.args.at))

pub returns-in-None : goal.returns-in-None
unfolding look.method_from
returns-in-None c =
    let set = c.args.self.now in
    let f = look.declared set c.args.name.now c.args.desc.now look.any_method in
    c.find_in_interfaces.ensures ∙ ap (λ b. option_or b (first f (look.superinterfaces set c.args.at))) c.in-None.ensures ∙ sym (first_append f (look.supers set c.args.at) (look.superinterfaces set c.args.at))
