use Rattle.std.proofs.lemmas.Result.{err_from_is_err_and}
use Rattle.class_input.specs.Reading.{each, seen}
use Rattle.class_input.proofs.Loops.{each_ends}
use Rattle.code_attribute.specs.CodeContentReading as reading
use Rattle.code_attribute.proofs.attributes.attributes.Goals as goal

pub returns-in_err-found : goal.returns-in_err-found
returns-in_err-found c =
    let p = err_from_is_err_and c.from_residual.result c.from_residual.ensures.1 in
    let step = reading.code_attribute c.args.pool.now c.args.code.now c.args.first.now in
    let total = each c.args.count step reading.nothing_found (seen c.args.input.now) in
    rw (p.1, p.2) (each_ends step c.in_err-found.field-0.0 c.args.count c.loop.counter c.loop.found (seen c.loop.input) total c.loop-test.true c.in_err-found.ensures c.loop.invariant)
