use Rattle.std.proofs.Common.{map}
use Rattle.std.specs.Prelude.{flat_map}
use Rattle.profile_check.specs.First.{first}
use Rattle.profile_check.specs.Mentions.{frame_mentions}
use Rattle.profile_check.specs.Walks.{judge}
use Rattle.profile_check.proofs.First.{tells_err, loop_more, loop_refused, loop_done, first_nil, first_flat}
use Rattle.profile_check.proofs.walk.Walk.frames.Goals as goal

pub loop-row-preserved : goal.loop-row-preserved
loop-row-preserved c =
    let f = judge c.args.self.now.rule c.args.self.now.place in
    loop_more (λ xs. first f (flat_map frame_mentions xs)) c.args.frames.now c.loop-row.row-index c.row-item.result (first f (frame_mentions c.row-item.result)) c.loop-row-test.true c.row-item.is (first_flat f frame_mentions c.row-item.result) c.loop-row.invariant c.in_ok-frame.ensures

pub returns-in_err-frame : goal.returns-in_err-frame
returns-in_err-frame c =
    let f = judge c.args.self.now.rule c.args.self.now.place in
    tells_err c.from_residual.result _ _ c.from_residual.ensures.1 (loop_refused (λ xs. first f (flat_map frame_mentions xs)) c.args.frames.now c.loop-row.row-index c.row-item.result (first f (frame_mentions c.row-item.result)) _ c.loop-row-test.true c.row-item.is (first_flat f frame_mentions c.row-item.result) c.loop-row.invariant c.in_err-frame.ensures)

pub returns : goal.returns
returns c =
    let f = judge c.args.self.now.rule c.args.self.now.place in
    loop_done (λ xs. first f (flat_map frame_mentions xs)) c.args.frames.now c.loop-row.row-index c.loop-row-test.false c.loop-row.invariant (first_nil f)
