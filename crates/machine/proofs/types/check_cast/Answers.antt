use Rattle.std.proofs.Common.{refl}
use Rattle.machine.proofs.TypeRows.{cast_refused}
use Rattle.machine.proofs.types.check_cast.Goals as goal

pub returns-then-not-refers : goal.returns-then-not-refers
returns-then-not-refers g c = record {
  ok = cast_refused g.T.Tag.none_of g.T.Tag.join_of c.args.program.now c.args.frame.now c.args.areas.now c.args.ty c.holding-held.result (cc) c.in_default.not-Nothing (cc);
  kept = (refl, refl);
}
