use Rattle.std.proofs.Common.{sym, subst}
use Rattle.first_form.specs.FirstSet.{HasObject}
use Rattle.instrument_set.proofs.Core.{closed_has_object}
use Rattle.instrument_set.proofs.files.instrument.Goals as goal

pub instrument_classes-requires-clause-object : goal.instrument_classes-requires-clause-object
instrument_classes-requires-clause-object c = subst HasObject (sym c.classes.ensures.same) (closed_has_object c.set.result.now c.classes.ensures.closed)
