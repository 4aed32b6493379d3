use Rattle.std.proofs.Common.{◌≡◌, ◌∙◌, ap, reverse, arith}
use Rattle.std.proofs.lemmas.List.{with_items_is}
use Rattle.std.specs.Vec.{with_items}
use Rattle.type_rows.specs.Calls.{replaced}
use Rattle.type_rows.specs.contracts.state.Operands.{the_view}
use Rattle.type_rows.proofs.Lists.{replaced_reverse}
use Rattle.type_rows.proofs.state.Operands.replace.Goals as goal

pub returns : goal.returns
returns c =
    let turned : reverse c.replace.new.types ≡ replaced c.args.old.now c.args.new.now c.args.self.now =
    ap reverse c.in_ok-replace.ensures ∙ replaced_reverse c.args.old.now c.args.new.now c.deref_mut.result.now ∙ ap (replaced c.args.old.now c.args.new.now) (ap reverse c.deref_mut.ensures.value ∙ c.self.view_is) in
    let seen : the_view (record { entries = with_items c.self.inside.entries c.replace.new.types }) ≡ reverse c.replace.new.types =
    ap reverse (with_items_is c.self.inside.entries c.replace.new.types (omega arith)) in
    seen ∙ turned
