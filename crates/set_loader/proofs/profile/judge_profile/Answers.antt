use Rattle.std.proofs.Common.{sym, subst}
use Rattle.std.proofs.lemmas.List.{take_all}
use Rattle.std.proofs.lemmas.List.Elements.{All-more, All-same}
use Rattle.profile_check.specs.Profile.{Profile}
use Rattle.set_loader.proofs.profile.judge_profile.Goals as goal

pub loop-number-preserved : goal.loop-number-preserved
loop-number-preserved c =
    All-more (Profile c.args.names) c.args.classes.now c.loop-number.number c.index-classes-number.result c.loop-number-test.true c.loop-number.invariant
    (subst (Profile c.args.names) c.index-classes-number.is c.in-Ok.ensures.ok)

pub returns : goal.returns
returns c =
    All-same (Profile c.args.names) c.args.classes.now _ (sym (take_all c.loop-number.number c.args.classes.now c.loop-number-test.false)) c.loop-number.invariant
