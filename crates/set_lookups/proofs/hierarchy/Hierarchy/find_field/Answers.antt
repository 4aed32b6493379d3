use Rattle.std.proofs.Common.{◌∙◌, sym, ap, length}
use Rattle.std.specs.Prelude.{option_and_then}
use Rattle.set_lookups.specs.Lookups as look
use Rattle.set_lookups.proofs.Meeting.{own_field, lower}
use Rattle.set_lookups.proofs.hierarchy.Hierarchy.find_field.Goals as goal

pub returns-in-Some : goal.returns-in-Some
returns-in-Some c = sym (c.loop-found.invariant ∙ own_field c.args.self.now c.args.ranks.now c.args.target.now c.loop-found.at c.in-Some.found c.requires (sym c.declared_field.ensures ∙ c.in-Some.is))

pub loop-found-smaller : goal.loop-found-smaller
loop-found-smaller c = lower c.args.self.now c.args.ranks.now c.loop-found.at c.in-Some-find_above.next c.find_above.result c.requires c.in-Some-find_above.is c.find_above.ensures.above

pub loop-found-preserved : goal.loop-found-preserved
loop-found-preserved c =
    let f = look.field_from (length c.args.self.now) c.args.self.now c.args.target.now in
    c.loop-found.invariant ∙ c.find_above.ensures.only (sym c.declared_field.ensures ∙ c.in_default.is) ∙ ap (option_and_then f) c.in-Some-find_above.is

pub returns-in-None : goal.returns-in-None
returns-in-None c =
    let f = look.field_from (length c.args.self.now) c.args.self.now c.args.target.now in
    sym (c.loop-found.invariant ∙ c.find_above.ensures.only (sym c.declared_field.ensures ∙ c.in_default.is) ∙ ap (option_and_then f) c.in-None.is)
