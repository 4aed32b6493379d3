use Rattle.class_input.specs.Reading.{seen}
use Rattle.code_tables.proofs.TableLaws.{is_found, is_only}
use Rattle.frame_tables.specs.FrameTable.{AreFrames}
use Rattle.frame_tables.specs.FrameReading.{frames}
use Rattle.frame_tables.proofs.FrameLaws.{frames_exact}
use Rattle.frame_tables.proofs.table.read_frames.Goals as goal

pub returns-clause-found : goal.returns-clause-found
returns-clause-found c =
    let p = c.args.pool.now in
    let code = c.args.code.now in
    let first = c.args.first.now in
    is_found (AreFrames p code first) (frames p code first) (frames_exact p code first) (seen c.args.input.now) c.table.result c.table.new.input c.are_bytes.ensures c.table.ensures

pub returns-clause-only : goal.returns-clause-only
returns-clause-only c =
    let p = c.args.pool.now in
    let code = c.args.code.now in
    let first = c.args.first.now in
    λ text rest found e is. is_only (AreFrames p code first) (frames p code first) (frames_exact p code first) (seen c.args.input.now) c.table.result c.table.new.input text rest found e is c.table.ensures
