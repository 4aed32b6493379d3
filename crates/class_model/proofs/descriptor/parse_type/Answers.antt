use Rattle.class_model.proofs.Laws.{type_clauses}
use Rattle.class_model.proofs.descriptor.parse_type.Goals as goal

pub returns-clause-bad : goal.returns-clause-bad
returns-clause-bad c = (type_clauses c.args.text.now c.whole_type.result (rw (c.new.ensures.at, c.new.ensures.rest) at c.whole_type.ensures)).bad
