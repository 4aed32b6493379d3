use Rattle.std.proofs.Common.{◌≡◌, ◌∙◌}
use Rattle.set_lookups.specs.Members.{place_in}
use Rattle.set_lookups.proofs.Tables.{field_put}
use Rattle.set_lookups.proofs.member_table.FieldDefMember.put.Goals as goal

pub returns : goal.returns
returns c = λ parts.
    c.in_ok-put.ensures parts ∙ field_put c.args.class c.args.self.now c.args.place c.in_ok-name.name c.new-params.result c.in_ok-ty.ty (place_in c.args.table.now parts) parts c.in_ok-name.ensures.cases c.new-params.ensures c.in_ok-ty.ensures
