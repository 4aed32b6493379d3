use Rattle.source_sink.proofs.Lists.{two_sources}
use Rattle.source_sink.proofs.read.sources.Goals as goal

pub returns-in_default-clause-not_built : goal.returns-in_default-clause-not_built
returns-in_default-clause-not_built c = λ _ sources are. two_sources c.args.list.now sources c.in_default.len_at_least are
