use Rattle.pool_names.specs.Adding.{behind, spell_each}
use Rattle.pool_names.proofs.Lists.{each_goes_on, each_stops, each_is_done}
use Rattle.class_spelling.specs.AttributeSpelling.{spell_class_index}
use Rattle.class_spelling.proofs.table.put_class_indices.Goals as goal

pub returns-in_err-put_class_index : goal.returns-in_err-put_class_index
returns-in_err-put_class_index c =
    let at = c.loop-name in
    let put = c.put_class_index.new in
    let total = behind c.args.out.now.items (spell_each spell_class_index c.args.names.now c.args.pool.now) in
    each_stops spell_class_index c.in_err-put_class_index.field-0.0 c.from_residual.result c.args.names.now at.name-index c.name-item.result at.pool put.pool at.out.items put.out.items total c.loop-name-test.true c.name-item.is c.in_err-put_class_index.ensures at.invariant c.from_residual.ensures.1

pub loop-name-preserved : goal.loop-name-preserved
loop-name-preserved c =
    let at = c.loop-name in
    let put = c.put_class_index.new in
    let total = behind c.args.out.now.items (spell_each spell_class_index c.args.names.now c.args.pool.now) in
    each_goes_on spell_class_index c.args.names.now at.name-index c.name-item.result at.pool put.pool at.out.items put.out.items total c.loop-name-test.true c.name-item.is c.in_ok-put_class_index.ensures at.invariant

pub returns : goal.returns
returns c =
    let at = c.loop-name in
    each_is_done spell_class_index c.args.names.now at.name-index at.pool at.out.items (behind c.args.out.now.items (spell_each spell_class_index c.args.names.now c.args.pool.now)) c.loop-name-test.false at.invariant
