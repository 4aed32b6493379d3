use Rattle.std.proofs.Common.{◌≡◌, cond, subst, Some}
use Rattle.set_lookups.specs.Members.{place_in, key_parts, same_parts}
use Rattle.set_lookups.proofs.Tables.{key_of, put_at}
use Rattle.set_lookups.proofs.member_table.MemberTable.put.Goals as goal

pub returns : goal.returns
returns c = λ parts.
    subst (λ old. place_in c.insert.new.self.entries parts ≡ cond (same_parts (key_parts c.args.key) parts) (Some c.args.place) (place_in old parts)) c.self.view_is
    (put_at c.self.inside.places.entries c.insert.new.self.entries c.args.key c.args.place parts (c.in_ok-insert.ensures.updates.0 (key_of parts)))
