use Rattle.std.proofs.Common.{map}
use Rattle.std.specs.Prelude.{flat_map}
use Rattle.profile_check.specs.First.{first}
use Rattle.profile_check.specs.Mentions.{handler_mentions}
use Rattle.profile_check.specs.Walks.{judge}
use Rattle.profile_check.proofs.First.{tells_err, loop_more, loop_refused, loop_done, first_nil, first_flat}
use Rattle.profile_check.proofs.walk.Walk.handlers.Goals as goal

pub loop-handler-preserved : goal.loop-handler-preserved
loop-handler-preserved c =
    let f = judge c.args.self.now.rule c.args.self.now.place in
    loop_more (λ xs. first f (flat_map handler_mentions xs)) c.args.handlers.now c.loop-handler.handler-index c.handler-item.result (first f (handler_mentions c.handler-item.result)) c.loop-handler-test.true c.handler-item.is (first_flat f handler_mentions c.handler-item.result) c.loop-handler.invariant c.in_ok-handler.ensures

pub returns-in_err-handler : goal.returns-in_err-handler
returns-in_err-handler c =
    let f = judge c.args.self.now.rule c.args.self.now.place in
    tells_err c.from_residual.result _ _ c.from_residual.ensures.1 (loop_refused (λ xs. first f (flat_map handler_mentions xs)) c.args.handlers.now c.loop-handler.handler-index c.handler-item.result (first f (handler_mentions c.handler-item.result)) _ c.loop-handler-test.true c.handler-item.is (first_flat f handler_mentions c.handler-item.result) c.loop-handler.invariant c.in_err-handler.ensures)

pub returns : goal.returns
returns c =
    let f = judge c.args.self.now.rule c.args.self.now.place in
    loop_done (λ xs. first f (flat_map handler_mentions xs)) c.args.handlers.now c.loop-handler.handler-index c.loop-handler-test.false c.loop-handler.invariant (first_nil f)
