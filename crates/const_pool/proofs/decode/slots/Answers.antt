use Rattle.std.proofs.Common.{[]}
use Rattle.std.proofs.lemmas.Result.{err_from_is_err_and}
use Rattle.class_input.specs.Reading.{each, seen}
use Rattle.class_input.proofs.Loops.{each_goes_on, each_ends, each_is_done}
use Rattle.const_pool.specs.PoolReading.{more}
use Rattle.const_pool.proofs.decode.slots.Goals as goal

pub returns-in_err-more-clause-gives : goal.returns-in_err-more-clause-gives
returns-in_err-more-clause-gives c =
    let p = err_from_is_err_and c.from_residual.result c.from_residual.ensures.1 in
    rw (p.1, p.2) (each_ends (more c.args.count) c.in_err-more.field-0.0 c.args.count c.loop.counter c.loop.slots.items (seen c.loop.input) (each c.args.count (more c.args.count) [] (seen c.args.input.now)) c.loop-test.true c.in_err-more.ensures.gives c.loop.invariant.0)

pub loop-preserved : goal.loop-preserved
loop-preserved c = (each_goes_on (more c.args.count) c.args.count c.loop.counter c.loop.slots.items c.more.new.slots.items (seen c.loop.input) (seen c.more.new.input) (each c.args.count (more c.args.count) [] (seen c.args.input.now)) c.loop-test.true c.in_ok-more.ensures.gives c.loop.invariant.0, c.in_ok-more.ensures.placed)

pub returns-clause-gives : goal.returns-clause-gives
returns-clause-gives c = each_is_done (more c.args.count) c.args.count c.loop.counter c.loop.slots.items (seen c.loop.input) (each c.args.count (more c.args.count) [] (seen c.args.input.now)) c.loop-test.false c.loop.invariant.0
