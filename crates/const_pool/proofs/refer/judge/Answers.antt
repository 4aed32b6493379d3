use Rattle.std.proofs.lemmas.Result.{err_from_is_err_and}
use Rattle.class_input.specs.Reading.{checked}
use Rattle.class_input.proofs.Loops.{checked_goes_on, checked_ends, checked_is_done}
use Rattle.const_pool.specs.PoolReading.{judged_slot, pool_of}
use Rattle.const_pool.proofs.refer.judge.Goals as goal

pub returns-in_err-judge_slot : goal.returns-in_err-judge_slot
returns-in_err-judge_slot c =
    let p = err_from_is_err_and c.from_residual.result c.from_residual.ensures.1 in
    let xs = c.args.slots.now in
    rw (p.1, p.2) (checked_ends (judged_slot (pool_of xs)) c.in_err-judge_slot.field-0.0 xs c.loop-slot.slot-index c.slot-item.result (checked (judged_slot (pool_of xs)) xs) c.loop-slot-test.true c.slot-item.is c.in_err-judge_slot.ensures c.loop-slot.invariant)

pub loop-slot-preserved : goal.loop-slot-preserved
loop-slot-preserved c =
    let xs = c.args.slots.now in
    checked_goes_on (judged_slot (pool_of xs)) xs c.loop-slot.slot-index c.slot-item.result tt (checked (judged_slot (pool_of xs)) xs) c.loop-slot-test.true c.slot-item.is c.in_ok-judge_slot.ensures c.loop-slot.invariant

pub returns : goal.returns
returns c =
    let xs = c.args.slots.now in
    checked_is_done (judged_slot (pool_of xs)) xs c.loop-slot.slot-index (checked (judged_slot (pool_of xs)) xs) c.loop-slot-test.false c.loop-slot.invariant
