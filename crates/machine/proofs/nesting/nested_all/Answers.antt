use Rattle.machine.proofs.NestedArrays.{fits, shortened, grows_same}
use Rattle.machine.proofs.nesting.nested_all.Goals as goal

pub shorten-requires : goal.shorten-requires
shorten-requires g c = fits c.args.heap.now c.nested.new.heap c.len-before.result c.nested.ensures.grown c.len-before.ensures

pub returns-in-Err-clause-err : goal.returns-in-Err-clause-err
returns-in-Err-clause-err g c = shortened c.args.heap.now c.nested.new.heap c.shorten.new.self c.len-before.result c.nested.ensures.grown c.len-before.ensures c.shorten.ensures

pub returns-in-Err-clause-grown : goal.returns-in-Err-clause-grown
returns-in-Err-clause-grown g c = grows_same c.args.heap.now c.shorten.new.self (shortened c.args.heap.now c.nested.new.heap c.shorten.new.self c.len-before.result c.nested.ensures.grown c.len-before.ensures c.shorten.ensures)
