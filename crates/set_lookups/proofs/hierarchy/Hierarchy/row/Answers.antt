use Rattle.std.proofs.Common.{subst}
use Rattle.set_lookups.specs.Rows.{Shows}
use Rattle.set_lookups.proofs.Index.{row_shows}
use Rattle.set_lookups.proofs.hierarchy.Hierarchy.row.Goals as goal

pub returns : goal.returns
returns c = subst (λ set. Shows set c.args.at c.get.result) c.index.ensures.shown (row_shows _ _ _ _ c.index.ensures.holds.linked c.get.ensures.value)
