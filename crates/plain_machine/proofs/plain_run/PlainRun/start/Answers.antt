use Rattle.std.proofs.Common.{refl}
use Rattle.plain_machine.proofs.Starts.{stands}
use Rattle.plain_machine.proofs.plain_run.PlainRun.start.Goals as goal

pub returns-clause-stands : goal.returns-clause-stands
returns-clause-stands c = λ input. stands _ input refl (rw (← c.set.ensures.same) c.in_ok-program.ensures.links) (rw (← c.set.ensures.same) c.in_ok-program.ensures.statics) c.in_ok-machine.ensures.shows
