use Rattle.size_limits.specs.Mentions.{is_source_of}
use Rattle.size_limits.proofs.Mentions.{CountsTo}
use Rattle.size_limits.proofs.lists_by_class.count_sources.Given as goal

abbrev pub invariant-loop-source : goal.invariant-loop-source
invariant-loop-source l = CountsTo is_source_of (λ name. 0) l.sources l.source-index l.found
