use Rattle.std.proofs.Common.{◌≡◌, ◌∙◌, sym, subst, Some}
use Rattle.std.specs.Prelude.{slice_get}
use Rattle.program_links.specs.Numbers.{Numbers}
use Rattle.program_links.proofs.Growing.{element_missing}
use Rattle.program_links.proofs.tables.Tables.element.Goals as goal

pub unreachable-requires : goal.unreachable-requires
unreachable-requires c =
    element_missing c.self.inside.types.keys c.args._number c.args.ty.now c.in_ok-key.key c.self.invariant
    (subst (λ (v : Numbers). slice_get v.types c.args._number ≡ Some c.args.ty.now) (sym c.self.view_is) c.requires) c.in_ok-key.ensures (sym c.in_ok-number.ensures.found ∙ c.in-None.is)
