use Rattle.pool_names.specs.Adding.{behind, spell_each}
use Rattle.pool_names.proofs.Lists.{each_goes_on, each_stops, each_is_done}
use Rattle.class_spelling.specs.ClassSpelling.{spell_field}
use Rattle.class_spelling.proofs.field.put_each_field.Goals as goal

pub returns-in_err-put_field : goal.returns-in_err-put_field
returns-in_err-put_field c =
    let at = c.loop-field in
    let put = c.put_field.new in
    let total = behind c.args.out.now.items (spell_each spell_field c.args.fields.now c.args.pool.now) in
    each_stops spell_field c.in_err-put_field.field-0.0 c.from_residual.result c.args.fields.now at.field-index c.field-item.result at.pool put.pool at.out.items put.out.items total c.loop-field-test.true c.field-item.is c.in_err-put_field.ensures at.invariant c.from_residual.ensures.1

pub loop-field-preserved : goal.loop-field-preserved
loop-field-preserved c =
    let at = c.loop-field in
    let put = c.put_field.new in
    let total = behind c.args.out.now.items (spell_each spell_field c.args.fields.now c.args.pool.now) in
    each_goes_on spell_field c.args.fields.now at.field-index c.field-item.result at.pool put.pool at.out.items put.out.items total c.loop-field-test.true c.field-item.is c.in_ok-put_field.ensures at.invariant

pub returns : goal.returns
returns c =
    let at = c.loop-field in
    each_is_done spell_field c.args.fields.now at.field-index at.pool at.out.items (behind c.args.out.now.items (spell_each spell_field c.args.fields.now c.args.pool.now)) c.loop-field-test.false at.invariant
