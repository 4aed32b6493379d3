use Rattle.std.proofs.Common.{map}
use Rattle.std.specs.Prelude.{flat_map}
use Rattle.profile_check.specs.First.{first}
use Rattle.profile_check.specs.Mentions.{UsedClass}
use Rattle.profile_check.specs.Walks.{judge}
use Rattle.profile_check.proofs.First.{tells_err, loop_more, loop_refused, loop_done, first_nil, first_map}
use Rattle.profile_check.proofs.walk.Walk.used_classes.Goals as goal

pub loop-name-preserved : goal.loop-name-preserved
loop-name-preserved c =
    let f = judge c.args.self.now.rule c.args.self.now.place in
    loop_more (λ xs. first f (map UsedClass xs)) c.args.names.now c.loop-name.name-index c.name-item.result (f (UsedClass c.name-item.result)) c.loop-name-test.true c.name-item.is (first_map f UsedClass c.name-item.result) c.loop-name.invariant c.in_ok-used_class.ensures

pub returns-in_err-used_class : goal.returns-in_err-used_class
returns-in_err-used_class c =
    let f = judge c.args.self.now.rule c.args.self.now.place in
    tells_err c.from_residual.result _ _ c.from_residual.ensures.1 (loop_refused (λ xs. first f (map UsedClass xs)) c.args.names.now c.loop-name.name-index c.name-item.result (f (UsedClass c.name-item.result)) _ c.loop-name-test.true c.name-item.is (first_map f UsedClass c.name-item.result) c.loop-name.invariant c.in_err-used_class.ensures)

pub returns : goal.returns
returns c =
    let f = judge c.args.self.now.rule c.args.self.now.place in
    loop_done (λ xs. first f (map UsedClass xs)) c.args.names.now c.loop-name.name-index c.loop-name-test.false c.loop-name.invariant (first_nil f)
