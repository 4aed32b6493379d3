use Rattle.std.proofs.Common.{◌∙◌, sym}
use Rattle.stack_maps.proofs.ExpandLoops.{last_at}
use Rattle.stack_maps.proofs.expand.last_locals.Goals as goal

pub returns-in-Some : goal.returns-in-Some
returns-in-Some c = let h = c.in-Some.ensures in c.as_slice.ensures ∙ sym (last_at c.args.first.now c.args.frames.now c.in-Some.frame.now (sym h.value))
