use Rattle.std.proofs.Common.{◌≡◌, ap, subst, List, ℕ}
use Rattle.std.specs.BTreeSet.{keys}
use Rattle.outside_io.specs.Files.{AreBelow}
use Rattle.outside_io.specs.MemoryKinds.{files_of}
use Rattle.outside_io.specs.WriteLog.{LogState, log_of}
use Rattle.outside_io.proofs.Names.{below_in_order}
use Rattle.outside_io.proofs.write_log.WriteLog.below.Goals as goal

pub returns : goal.returns
returns c =
    let same : log_of c.deref.result.now c.deref-2.result.now ≡ c.args.self.now.written = cc (ap (λ (s : LogState). s.written) c.self.view_is) in
    let found = subst (λ (ws : List (List ℕ × List ℕ)). AreBelow c.args.dir.now (files_of ws) (keys c.in_ok-found.found)) same c.in_ok-found.ensures in
    record {
      ascend = c.in_order.ensures.ascend;
      all = below_in_order c.args.dir.now c.args.self.now.written (keys c.in_ok-found.found) c.in_order.result found c.in_order.ensures.all;
    }
