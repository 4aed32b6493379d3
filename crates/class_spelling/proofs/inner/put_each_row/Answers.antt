use Rattle.pool_names.specs.Adding.{behind, spell_each}
use Rattle.pool_names.proofs.Lists.{each_goes_on, each_stops, each_is_done}
use Rattle.class_spelling.specs.AttributeSpelling.{spell_inner_row}
use Rattle.class_spelling.proofs.inner.put_each_row.Goals as goal

pub returns-in_err-put_row : goal.returns-in_err-put_row
returns-in_err-put_row c =
    let at = c.loop-row in
    let put = c.put_row.new in
    let total = behind c.args.out.now.items (spell_each spell_inner_row c.args.rows.now c.args.pool.now) in
    each_stops spell_inner_row c.in_err-put_row.field-0.0 c.from_residual.result c.args.rows.now at.row-index c.row-item.result at.pool put.pool at.out.items put.out.items total c.loop-row-test.true c.row-item.is c.in_err-put_row.ensures at.invariant c.from_residual.ensures.1

pub loop-row-preserved : goal.loop-row-preserved
loop-row-preserved c =
    let at = c.loop-row in
    let put = c.put_row.new in
    let total = behind c.args.out.now.items (spell_each spell_inner_row c.args.rows.now c.args.pool.now) in
    each_goes_on spell_inner_row c.args.rows.now at.row-index c.row-item.result at.pool put.pool at.out.items put.out.items total c.loop-row-test.true c.row-item.is c.in_ok-put_row.ensures at.invariant

pub returns : goal.returns
returns c =
    let at = c.loop-row in
    each_is_done spell_inner_row c.args.rows.now at.row-index at.pool at.out.items (behind c.args.out.now.items (spell_each spell_inner_row c.args.rows.now c.args.pool.now)) c.loop-row-test.false at.invariant
