use Rattle.std.proofs.Common.{◌+◌, refl}
use Rattle.program_links.specs.Selects.{own_of}
use Rattle.program_links.proofs.Gathered.{gathered_more}
use Rattle.program_links.proofs.selects.selects_along.Goals as goal

pub loop-at-preserved : goal.loop-at-preserved
loop-at-preserved c =
    let at = c.loop-at.at in
    gathered_more (own_of c.args.owns.now) c.args.numbers.now c.loop-at.selects c.push_own.new.selects at (at + 1) c.at.result.now c.loop-at.invariant c.at.ensures c.in_ok-push_own.ensures refl
