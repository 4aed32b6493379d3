use Rattle.std.proofs.Common.{rules, tests}
use Rattle.std.proofs.lemmas.List.Sorted.{IsPartitionPoint-from_clause}
use Rattle.verifier.proofs.Declared.{is_before, parted, is_place}
use Rattle.verifier.proofs.frames.place.Goals as goal

pub returns : goal.returns
returns c =
    is_place c.args.frames.now c.args.at c.partition_point.result c.requires (IsPartitionPoint-from_clause (is_before c.args.at) c.args.frames.now c.partition_point.result c.partition_point.ensures.partitioned (parted c.args.frames.now c.args.at c.requires) (λ a r f called. search (rules, tests)))
