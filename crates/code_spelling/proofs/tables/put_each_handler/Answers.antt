use Rattle.pool_names.specs.Adding.{behind, spell_each}
use Rattle.pool_names.proofs.Lists.{each_goes_on, each_stops, each_is_done}
use Rattle.code_spelling.specs.Tables.{spell_handler}
use Rattle.code_spelling.proofs.tables.put_each_handler.Goals as goal

pub returns-in_err-put_handler : goal.returns-in_err-put_handler
returns-in_err-put_handler c =
    let at = c.loop-handler in
    let put = c.put_handler.new in
    let total = behind c.args.out.now.items (spell_each (spell_handler c.args.layout.now) c.args.handlers.now c.args.pool.now) in
    each_stops (spell_handler c.args.layout.now) c.in_err-put_handler.field-0.0 c.from_residual.result c.args.handlers.now at.handler-index c.handler-item.result at.pool put.pool at.out.items put.out.items total c.loop-handler-test.true c.handler-item.is c.in_err-put_handler.ensures at.invariant c.from_residual.ensures.1

pub loop-handler-preserved : goal.loop-handler-preserved
loop-handler-preserved c =
    let at = c.loop-handler in
    let put = c.put_handler.new in
    let total = behind c.args.out.now.items (spell_each (spell_handler c.args.layout.now) c.args.handlers.now c.args.pool.now) in
    each_goes_on (spell_handler c.args.layout.now) c.args.handlers.now at.handler-index c.handler-item.result at.pool put.pool at.out.items put.out.items total c.loop-handler-test.true c.handler-item.is c.in_ok-put_handler.ensures at.invariant

pub returns : goal.returns
returns c =
    let at = c.loop-handler in
    each_is_done (spell_handler c.args.layout.now) c.args.handlers.now at.handler-index at.pool at.out.items (behind c.args.out.now.items (spell_each (spell_handler c.args.layout.now) c.args.handlers.now c.args.pool.now)) c.loop-handler-test.false at.invariant
