use Rattle.std.proofs.Common.{◌∙◌, refl, sym, ap, subst, inl, inr}
use Rattle.std.specs.Prelude.{is_some}
use Rattle.indexmap.proofs.CallerLemmas.{insert_entry-new}
use Rattle.set_lookups.specs.Above.{same_name}
use Rattle.set_lookups.specs.Levels.{Adds}
use Rattle.set_lookups.proofs.Placing.{found_node, found_place}
use Rattle.set_lookups.proofs.UpPieces.{none_of}
use Rattle.set_lookups.proofs.levels.Levels.add.Goals as goal

pub returns-in-Some : goal.returns-in-Some
returns-in-Some c =
    let found = found_place c.get_index_of.result c.in-Some.at _ c.in-Some.is (found_node c.self.inside.nodes.entries c.args.list c.get_index_of.result c.get_index_of.ensures.index) in
    subst (λ nodes. Adds nodes nodes c.args.list c.args.next c.in-Some.at) c.self.view_is (inl (refl, found.0, found.1))

pub returns : goal.returns
returns c =
    let none = none_of _ (sym c.get_index_of.ensures.found ∙ ap is_some c.in_default.is) in
    let added = c.in_ok-insert.ensures.entries ∙ insert_entry-new same_name c.self.inside.nodes c.args.list c.args.next none in
    subst (λ nodes. Adds nodes c.insert.new.self.entries c.args.list c.args.next c.len-at.result) c.self.view_is (inr (added, c.len-at.ensures.len))
