use Rattle.std.proofs.Common.{◌∙◌, ap}
use Rattle.std.specs.Prelude.{position}
use Rattle.set_lookups.specs.Above.{same_name, find_class}
use Rattle.set_lookups.proofs.Index.{place_in_names}
use Rattle.set_lookups.proofs.hierarchy.Hierarchy.number.Goals as goal

pub returns : goal.returns
returns c =
    c.number_of.ensures ∙ c.get_index_of.ensures.index ∙ ap (position (same_name c.args.name.now)) c.index.ensures.holds.named ∙ place_in_names c.index.result.now.classes c.args.name.now
    ∙ ap (λ set. find_class set c.args.name.now) c.index.ensures.shown
