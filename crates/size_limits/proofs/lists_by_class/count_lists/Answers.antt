use Rattle.std.proofs.Common.{List, ℕ, arith}
use Rattle.std.specs.Prelude.{count_by}
use Rattle.size_limits.specs.Mentions.{is_source_of, is_sink_of}
use Rattle.size_limits.proofs.Mentions.{counts_more, counts_all}
use Rattle.size_limits.proofs.lists_by_class.count_lists.Goals as goal

pub loop-sink-preserved : goal.loop-sink-preserved
loop-sink-preserved c =
    counts_more is_sink_of (λ (name : List ℕ). count_by (is_source_of name) c.args.sources.now) c.args.sinks.now c.loop-sink.sink-index c.sink-item.result _ _
    c.loop-sink.invariant c.loop-sink-test.true c.sink-item.is c.in_ok-add.ensures

pub returns : goal.returns
returns c =
    counts_all is_sink_of (λ (name : List ℕ). count_by (is_source_of name) c.args.sources.now) c.args.sinks.now c.loop-sink.sink-index _ c.loop-sink.invariant (omega (arith, c.loop-sink-test.false))
