use Rattle.std.proofs.Common.{◌≡◌, ◌<◌, subst, length}
use Rattle.std.specs.Prelude.{IfSome}
use Rattle.set_lookups.specs.Levels.{list_at}
use Rattle.set_lookups.proofs.Placing.{found_node}
use Rattle.set_lookups.proofs.levels.Levels.number.Goals as goal

pub returns-clause-found : goal.returns-clause-found
returns-clause-found c =
    subst (λ nodes. IfSome c.get_index_of.result (λ at. (at < length nodes) × (list_at nodes at ≡ c.args.list.now))) c.self.view_is (found_node c.self.inside.nodes.entries c.args.list.now c.get_index_of.result c.get_index_of.ensures.index)
