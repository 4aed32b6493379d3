use Rattle.source_sink.proofs.Lists.{two_sinks}
use Rattle.source_sink.proofs.read.sinks.Goals as goal

pub returns-in_default-clause-not_built : goal.returns-in_default-clause-not_built
returns-in_default-clause-not_built c = λ _ sinks are. two_sinks c.args.list.now sinks c.in_default.len_at_least are
