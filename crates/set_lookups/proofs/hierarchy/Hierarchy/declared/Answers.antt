use Rattle.std.proofs.Common.{◌≡◌, ◌∙◌, ap, subst, sym}
use Rattle.std.specs.Prelude.{option_map}
use Rattle.set_lookups.specs.Lookups as look
use Rattle.set_lookups.specs.Members.{AreMembers, parts_of}
use Rattle.set_lookups.proofs.Tables.{method_found}
use Rattle.set_lookups.proofs.hierarchy.Hierarchy.declared.Goals as goal

pub returns-in-Some : goal.returns-in-Some
returns-in-Some c =
    let inside = c.index.result.now in
    let members = subst (λ set. AreMembers set inside.members.fields inside.members.methods inside.members.no_types) c.index.ensures.shown c.index.ensures.holds.in_members in
    ap (option_map (look.member_of c.args.at)) (sym c.in-Some.is ∙ c.method.ensures ∙ members.of_methods (parts_of c.args.at c.args.wanted c.args.name.now c.args.desc.now)) ∙ method_found c.args.self.now c.args.name.now c.args.desc.now c.args.wanted c.args.at

pub returns-in-None : goal.returns-in-None
returns-in-None c =
    let inside = c.index.result.now in
    let members = subst (λ set. AreMembers set inside.members.fields inside.members.methods inside.members.no_types) c.index.ensures.shown c.index.ensures.holds.in_members in
    ap (option_map (look.member_of c.args.at)) (sym c.in-None.is ∙ c.method.ensures ∙ members.of_methods (parts_of c.args.at c.args.wanted c.args.name.now c.args.desc.now)) ∙ method_found c.args.self.now c.args.name.now c.args.desc.now c.args.wanted c.args.at
