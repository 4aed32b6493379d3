use Rattle.std.proofs.Common.{subst}
use Rattle.set_lookups.specs.Ranking.{RowsRanked}
use Rattle.set_lookups.proofs.Acyclic.{no_cycle, ranked_rows}
use Rattle.set_lookups.proofs.ranks.rank_classes.Goals as goal

pub returns-then-are_ranks : goal.returns-then-are_ranks
returns-then-are_ranks c =
    let judged = subst (RowsRanked c.args.rows.now) c.as_slice-3.ensures (subst (λ rows. RowsRanked rows c.as_slice-3.result.now) c.as_slice-2.ensures (c.are_ranks.ensures c.if-are_ranks.true)) in
    let ranked = ranked_rows c.args.classes.now c.args.rows.now c.in_ok-ranks.ranks c.requires.rows judged in
    (no_cycle c.args.classes.now c.in_ok-ranks.ranks ranked, ranked)
