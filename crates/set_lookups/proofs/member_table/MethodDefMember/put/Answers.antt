use Rattle.std.proofs.Common.{◌≡◌, ◌∙◌, ◌&&◌, ap, cond, eqb, Some}
use Rattle.set_lookups.specs.declared.members.Wanted.TheVariants.{Inherited, Final}
use Rattle.set_lookups.specs.Members.{place_in, is_method_of}
use Rattle.set_lookups.specs.Wanted.{same_wanted}
use Rattle.set_lookups.proofs.Tables.{one_kind}
use Rattle.set_lookups.proofs.member_table.MethodDefMember.put.Goals as goal

pub returns : goal.returns
returns c = λ parts.
    let here = eqb c.args.class parts.class in
    let is = is_method_of c.args.self.now parts in
    let place = Some c.args.place in
    c.in_ok-put_wanted-3.ensures parts ∙ ap (λ y. cond (here && (same_wanted Final parts.wanted && is)) place y) (c.in_ok-put_wanted-2.ensures parts ∙ ap (λ y. cond (here && (same_wanted Inherited parts.wanted && is)) place y) (c.in_ok-put_wanted.ensures parts))
    ∙ one_kind parts.wanted here is place (place_in c.args.table.now parts)
