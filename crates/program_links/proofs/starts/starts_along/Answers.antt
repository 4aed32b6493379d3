use Rattle.std.proofs.Common.{◌+◌, refl}
use Rattle.program_links.specs.Starts.{start_of}
use Rattle.program_links.proofs.Gathered.{gathered_more}
use Rattle.program_links.proofs.starts.starts_along.Goals as goal

pub loop-at-preserved : goal.loop-at-preserved
loop-at-preserved c =
    let at = c.loop-at.at in
    gathered_more (start_of c.args.starts.now) c.args.classes.now c.loop-at.numbers c.push_start.new.numbers at (at + 1) c.at.result.now c.loop-at.invariant c.at.ensures c.in_ok-push_start.ensures refl
