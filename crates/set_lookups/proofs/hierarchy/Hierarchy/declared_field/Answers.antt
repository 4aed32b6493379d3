use Rattle.std.proofs.Common.{◌≡◌, ◌∙◌, ap, subst, sym}
use Rattle.std.specs.Prelude.{option_map}
use Rattle.set_lookups.specs.Lookups as look
use Rattle.set_lookups.specs.Members.{AreMembers, parts_of_field}
use Rattle.set_lookups.proofs.Tables.{field_found}
use Rattle.set_lookups.proofs.hierarchy.Hierarchy.declared_field.Goals as goal

pub returns-in-Some : goal.returns-in-Some
returns-in-Some c =
    let inside = c.index.result.now in
    let members = subst (λ set. AreMembers set inside.members.fields inside.members.methods inside.members.no_types) c.index.ensures.shown c.index.ensures.holds.in_members in
    ap (option_map (look.member_of c.args.at)) (sym c.in-Some.is ∙ c.field.ensures members.empty ∙ members.of_fields (parts_of_field c.args.at c.args.target.now)) ∙ field_found c.args.self.now c.args.target.now c.args.at

pub returns-in-None : goal.returns-in-None
returns-in-None c =
    let inside = c.index.result.now in
    let members = subst (λ set. AreMembers set inside.members.fields inside.members.methods inside.members.no_types) c.index.ensures.shown c.index.ensures.holds.in_members in
    ap (option_map (look.member_of c.args.at)) (sym c.in-None.is ∙ c.field.ensures members.empty ∙ members.of_fields (parts_of_field c.args.at c.args.target.now)) ∙ field_found c.args.self.now c.args.target.now c.args.at
