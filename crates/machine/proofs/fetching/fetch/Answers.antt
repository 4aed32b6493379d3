use Rattle.std.proofs.Common.{arith}
use Rattle.std.proofs.lemmas.Option.{slice_get_past}
use Rattle.machine.proofs.LinkedCode.{nothing_at}
use Rattle.machine.proofs.fetching.fetch.Goals as goal

pub returns-then-frame-len-clause-found : goal.returns-then-frame-len-clause-found
returns-then-frame-len-clause-found g c = λ w links.
    nothing_at g.T.Tag.none_of w c.args.program.now c.args.frame.now c.method-method.result.now links c.method-method.ensures
    (slice_get_past c.method-method.result.now.code c.args.frame.now.next (omega arith))
