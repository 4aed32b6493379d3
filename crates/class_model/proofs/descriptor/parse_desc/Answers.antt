use Rattle.class_model.proofs.Laws.{method_clauses}
use Rattle.class_model.proofs.descriptor.parse_desc.Goals as goal

pub returns-clause-bad : goal.returns-clause-bad
returns-clause-bad c = (method_clauses c.args.text.now c.whole_method.result (rw (c.new.ensures.at, c.new.ensures.rest) at c.whole_method.ensures)).bad
