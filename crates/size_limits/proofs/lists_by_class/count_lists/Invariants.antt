use Rattle.std.specs.Prelude.{count_by}
use Rattle.size_limits.specs.Mentions.{is_source_of, is_sink_of}
use Rattle.size_limits.proofs.Mentions.{CountsTo}
use Rattle.size_limits.proofs.lists_by_class.count_lists.Given as goal

abbrev pub invariant-loop-sink : goal.invariant-loop-sink
invariant-loop-sink l = CountsTo is_sink_of (λ name. count_by (is_source_of name) l.sources) l.sinks l.sink-index l.found
