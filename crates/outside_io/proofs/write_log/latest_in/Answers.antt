use Rattle.std.proofs.Common.{◌∙◌, sym}
use Rattle.outside_io.specs.WriteLog.{log_of}
use Rattle.outside_io.proofs.Logs.{newest_ends, get-files_of}
use Rattle.outside_io.proofs.write_log.latest_in.Goals as goal

pub returns : goal.returns
returns c =
    newest_ends c.args.sizes.now c.loop-path_len.rest.now c.args.path.now c.loop-path_len.path_len-index _ _ c.loop-path_len-test.false c.loop-path_len.invariant.newest
    ∙ sym (get-files_of (log_of c.args.sizes.now c.args.text.now) c.args.path.now)
