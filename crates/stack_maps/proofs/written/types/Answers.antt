use Rattle.std.proofs.Common.{◌≡◌, ◌++◌, ◌∷◌, [], arith, length-append}
use Rattle.class_input.specs.Reading.{seen}
use Rattle.stack_maps.specs.Reading.{type_info, same_state, types}
use Rattle.stack_maps.proofs.Loops.{each_goes_on}
use Rattle.stack_maps.proofs.written.types.Goals as goal

pub loop-preserved : goal.loop-preserved
loop-preserved c =
    let xs = c.loop.types in
    let x = c.in_ok-one.one in
    let more : c.push.new.self ≡ xs ++ x ∷ [] = c.in_ok-push.ensures.ok in
    rw more (record {
      reads = each_goes_on (λ _. type_info) same_state c.args.count c.loop.counter tt xs x (seen c.loop.input) (seen c.type_info.new.input) (types c.args.count (seen c.args.input.now)) c.loop-test.true c.in_ok-one.ensures c.loop.invariant.reads;
      counted = omega (arith, length-append xs (x ∷ []), c.loop.invariant.counted);
    })
