use Rattle.pool_names.specs.Adding.{behind, spell_each}
use Rattle.pool_names.proofs.Lists.{each_goes_on, each_stops, each_is_done}
use Rattle.class_spelling.specs.ClassSpelling.{spell_method}
use Rattle.class_spelling.proofs.method.put_each_method.Goals as goal

pub returns-in_err-put_method : goal.returns-in_err-put_method
returns-in_err-put_method g c =
    let at = c.loop-method in
    let put = c.put_method.new in
    let total = behind c.args.out.now.items (spell_each (spell_method g.C.CodeWriter.spelled) c.args.methods.now c.args.pool.now) in
    each_stops (spell_method g.C.CodeWriter.spelled) c.in_err-put_method.field-0.0 c.from_residual.result c.args.methods.now at.method-index c.method-item.result at.pool put.pool at.out.items put.out.items total c.loop-method-test.true c.method-item.is c.in_err-put_method.ensures at.invariant c.from_residual.ensures.1

pub loop-method-preserved : goal.loop-method-preserved
loop-method-preserved g c =
    let at = c.loop-method in
    let put = c.put_method.new in
    let total = behind c.args.out.now.items (spell_each (spell_method g.C.CodeWriter.spelled) c.args.methods.now c.args.pool.now) in
    each_goes_on (spell_method g.C.CodeWriter.spelled) c.args.methods.now at.method-index c.method-item.result at.pool put.pool at.out.items put.out.items total c.loop-method-test.true c.method-item.is c.in_ok-put_method.ensures at.invariant

pub returns : goal.returns
returns g c =
    let at = c.loop-method in
    each_is_done (spell_method g.C.CodeWriter.spelled) c.args.methods.now at.method-index at.pool at.out.items (behind c.args.out.now.items (spell_each (spell_method g.C.CodeWriter.spelled) c.args.methods.now c.args.pool.now)) c.loop-method-test.false at.invariant
