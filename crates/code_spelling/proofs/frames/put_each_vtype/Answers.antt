use Rattle.pool_names.specs.Adding.{behind, spell_each}
use Rattle.pool_names.proofs.Lists.{each_goes_on, each_stops, each_is_done}
use Rattle.code_spelling.specs.Frames.{spell_vtype}
use Rattle.code_spelling.proofs.frames.put_each_vtype.Goals as goal

pub returns-in_err-put_vtype : goal.returns-in_err-put_vtype
returns-in_err-put_vtype c =
    let at = c.loop-ty in
    let put = c.put_vtype.new in
    let total = behind c.args.out.now.items (spell_each (spell_vtype c.args.layout.now) c.args.types.now c.args.pool.now) in
    each_stops (spell_vtype c.args.layout.now) c.in_err-put_vtype.field-0.0 c.from_residual.result c.args.types.now at.ty-index c.ty-item.result at.pool put.pool at.out.items put.out.items total c.loop-ty-test.true c.ty-item.is c.in_err-put_vtype.ensures at.invariant c.from_residual.ensures.1

pub loop-ty-preserved : goal.loop-ty-preserved
loop-ty-preserved c =
    let at = c.loop-ty in
    let put = c.put_vtype.new in
    let total = behind c.args.out.now.items (spell_each (spell_vtype c.args.layout.now) c.args.types.now c.args.pool.now) in
    each_goes_on (spell_vtype c.args.layout.now) c.args.types.now at.ty-index c.ty-item.result at.pool put.pool at.out.items put.out.items total c.loop-ty-test.true c.ty-item.is c.in_ok-put_vtype.ensures at.invariant

pub returns : goal.returns
returns c =
    let at = c.loop-ty in
    each_is_done (spell_vtype c.args.layout.now) c.args.types.now at.ty-index at.pool at.out.items (behind c.args.out.now.items (spell_each (spell_vtype c.args.layout.now) c.args.types.now c.args.pool.now)) c.loop-ty-test.false at.invariant
