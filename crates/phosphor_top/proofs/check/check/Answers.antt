use Rattle.std.proofs.Common.{◌≡◌}
use Rattle.phosphor_top.proofs.Written.{check_barred}
use Rattle.phosphor_top.proofs.check.check.Goals as goal

pub returns-clause-barred : goal.returns-clause-barred
returns-clause-barred g c = check_barred (c.put.new.out ≡ c.args.out.now) c.args.dir.now (g.F.Folder.files c.args.folder.now) c.in_ok-count.count c.in_ok-count.ensures.gives
