use Rattle.std.proofs.Common.{◌+◌, ◌≤◌, ◌∷◌, [], arith, length-append, subst, ℕ}
use Rattle.std.proofs.lemmas.List.Elements.{All-push}
use Rattle.class_input.specs.Reading.{seen}
use Rattle.stack_maps.specs.Bounds.{IsSmall}
use Rattle.stack_maps.specs.Grammar.{known_after}
use Rattle.stack_maps.specs.Reading.{frame, known_next, frames}
use Rattle.stack_maps.proofs.Loops.{each_goes_on, each_is_done}
use Rattle.stack_maps.proofs.written.frames.Goals as goal

pub loop-preserved : goal.loop-preserved
loop-preserved c =
    let xs = c.loop.frames.items in
    let x = c.in_ok-one.one in
    rw (c.in_ok-push.ensures.items, c.known_after-known.ensures.value) (record {
      reads = each_goes_on frame known_next c.args.count c.loop.counter c.loop.known xs x (seen c.loop.input) (seen c.frame.new.input) (frames c.args.count c.args.first (seen c.args.input.now)) c.loop-test.true c.in_ok-one.ensures.reads c.loop.invariant.reads;
      small = All-push IsSmall xs x c.loop.invariant.small c.in_ok-one.ensures.small;
      counted = omega (arith, length-append xs (x ∷ []), c.loop.invariant.counted);
      room = let r : known_after c.loop.known x.locals ≤ c.loop.known + 65535 = subst (λ (k : ℕ). k ≤ c.loop.known + 65535) c.known_after-known.ensures.value c.known_after-known.ensures.grows in omega arith;
    })

pub returns-clause-reads : goal.returns-clause-reads
returns-clause-reads c = each_is_done frame known_next c.args.count c.loop.counter c.loop.known c.loop.frames.items (seen c.loop.input) (frames c.args.count c.args.first (seen c.args.input.now)) c.loop-test.false c.loop.invariant.reads
