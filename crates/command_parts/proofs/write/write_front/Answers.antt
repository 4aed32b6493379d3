use Rattle.std.proofs.Common.{◌≡◌, false, arith}
use Rattle.std.specs.Result.{is_err}
use Rattle.command_parts.proofs.Fronts.{front_on}
use Rattle.command_parts.proofs.write.write_front.Goals as goal

pub loop-i-preserved : goal.loop-i-preserved
loop-i-preserved g c =
    let ok : is_err c.write.result ≡ false = cc in
    record {
      front = front_on (g.F.Folder.files c.args.folder.now) (g.F.Folder.files c.loop-i.folder) (g.F.Folder.files c.write.new.self) c.args.files.now c.loop-i.i c.index-files-i.result c.write.result c.loop-i-test.true c.index-files-i.is ok c.loop-i.invariant.front (rw (← c.as_str.ensures, ← c.as_slice.ensures) c.write.ensures.files);
      reads = omega (arith, c.write.ensures.reads.later);
      writes = omega (arith, c.write.ensures.cause.later);
    }
