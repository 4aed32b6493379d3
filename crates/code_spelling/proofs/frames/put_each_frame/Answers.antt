use Rattle.std.proofs.Common.{ap, ◌+◌}
use Rattle.pool_names.specs.Adding.{behind, spell_each}
use Rattle.code_spelling.specs.Frames.{spell_frame, placed_rows}
use Rattle.code_spelling.proofs.FrameLoops.{frames_go_on, frames_stop, frames_are_done}
use Rattle.code_spelling.proofs.frames.put_each_frame.Goals as goal

pub returns-in_err-put_frame : goal.returns-in_err-put_frame
returns-in_err-put_frame c =
    let at = c.loop-row in
    let put = c.put_frame.new in
    let total = behind c.args.out.now.items (spell_each (spell_frame c.args.layout.now) (placed_rows c.args.layout.now c.args.rows.now) c.args.pool.now) in
    frames_stop c.in_err-put_frame.field-0.0 c.from_residual.result c.args.layout.now c.args.rows.now at.row-index at.next c.row-item.result at.pool put.pool at.out.items put.out.items total
    (record { within = c.loop-row-test.true; is = c.row-item.is }) c.in_err-put_frame.ensures at.invariant c.from_residual.ensures.1

pub loop-row-preserved : goal.loop-row-preserved
loop-row-preserved c =
    let at = c.loop-row in
    let put = c.put_frame.new in
    let total = behind c.args.out.now.items (spell_each (spell_frame c.args.layout.now) (placed_rows c.args.layout.now c.args.rows.now) c.args.pool.now) in
    frames_go_on c.args.layout.now c.args.rows.now at.row-index at.next (c.offset-next.result + 1) c.row-item.result at.pool put.pool at.out.items put.out.items total
    (record { within = c.loop-row-test.true; is = c.row-item.is }) (ap (λ n. n + 1) c.offset-next.ensures) c.in_ok-put_frame.ensures at.invariant

pub returns : goal.returns
returns c =
    let at = c.loop-row in
    frames_are_done c.args.layout.now c.args.rows.now at.row-index at.next at.pool at.out.items
    (behind c.args.out.now.items (spell_each (spell_frame c.args.layout.now) (placed_rows c.args.layout.now c.args.rows.now) c.args.pool.now)) c.loop-row-test.false at.invariant
