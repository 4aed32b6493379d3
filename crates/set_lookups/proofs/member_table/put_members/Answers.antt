use Rattle.std.proofs.Common.{◌≡◌, ◌∙◌, ◌-◌, eqb, arith}
use Rattle.set_lookups.specs.Members.{place_in}
use Rattle.set_lookups.proofs.Names.{le_zero}
use Rattle.set_lookups.proofs.Tables.{put_more, put_all, put_none}
use Rattle.set_lookups.proofs.member_table.put_members.Goals as goal

pub loop-at-init : goal.loop-at-init
loop-at-init g c = record {
  within = omega arith;
  placed = λ parts. put_none (λ member. g.T.Member.is_of member parts) (eqb c.args.class parts.class) c.args.members.now (place_in c.args.table.now parts);
}

pub bounds-members-at : goal.bounds-members-at
bounds-members-at g c = omega (arith, c.loop-at.invariant.within, c.loop-at-test.true)

pub loop-at-preserved : goal.loop-at-preserved
loop-at-preserved g c = record {
  within = omega (arith, c.loop-at.invariant.within);
  placed = λ parts.
      put_more (λ member. g.T.Member.is_of member parts) (eqb c.args.class parts.class) c.args.members.now (c.loop-at.at - 1) c.loop-at.at c.index-members-at.result (place_in c.put.new.table parts) (place_in c.loop-at.table parts) (place_in c.args.table.now parts)
      (omega (arith, c.loop-at-test.true)) (omega (arith, c.loop-at.invariant.within, c.loop-at-test.true)) c.index-members-at.is (c.in_ok-put.ensures parts) (c.loop-at.invariant.placed parts);
}

pub returns : goal.returns
returns g c = λ parts. c.loop-at.invariant.placed parts ∙ put_all (λ member. g.T.Member.is_of member parts) (eqb c.args.class parts.class) c.args.members.now c.loop-at.at (place_in c.args.table.now parts) (le_zero c.loop-at-test.false)
