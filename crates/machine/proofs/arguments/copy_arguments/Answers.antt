use Rattle.std.proofs.Common.{◌+◌, ◌-◌, drop, refl}
use Rattle.machine.proofs.TakenArguments.{places_one}
use Rattle.machine.proofs.arguments.copy_arguments.Goals as goal

pub loop-k-preserved : goal.loop-k-preserved
loop-k-preserved g c =
    let n = c.args.words in
    let k = c.loop-k.k in
    places_one c.args.stack.now c.args.locals.now (drop n c.args.locals.now) c.loop-k.locals c.set.new.self c.word_at.result k (k + 1) n (n - (k + 1)) (n - 1 - k)
    c.word_at.ensures c.requires.fit c.loop-k-test.true refl refl refl c.loop-k.invariant c.set.ensures
