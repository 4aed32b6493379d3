use Rattle.std.proofs.Common.{◌≡◌, ◌∙◌, sym}
use Rattle.set_lookups.specs.Members.{place_in}
use Rattle.set_lookups.proofs.Tables.{not_taken, taken}
use Rattle.set_lookups.proofs.member_table.MemberTable.put_wanted.Goals as goal

pub returns-then-not-is_wanted : goal.returns-then-not-is_wanted
returns-then-not-is_wanted c = λ parts. not_taken c.args.class c.args.wanted c.args.method.now c.args.place c.args.self.now parts (sym c.is_wanted.ensures ∙ c.if-not-is_wanted.true)

pub returns : goal.returns
returns c = λ parts.
    c.in_ok-put.ensures parts ∙ taken c.args.class c.args.wanted c.args.method.now c.args.place _ _ (place_in c.args.self.now parts) parts c.in_ok-name.ensures.cases c.in_ok-desc.ensures (sym c.is_wanted.ensures ∙ c.if-not-is_wanted.false)
