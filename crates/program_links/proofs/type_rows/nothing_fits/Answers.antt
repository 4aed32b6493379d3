use Rattle.std.proofs.Common.{◌∙◌, sym, ap, Some}
use Rattle.class_model.specs.declared.types.JType.{JType}
use Rattle.program_links.proofs.Typing.{past_flat}
use Rattle.program_links.proofs.type_rows.nothing_fits.Goals as goal

pub returns-then-ty-eq0 : goal.returns-then-ty-eq0
returns-then-ty-eq0 c =
    let key : JType = record { depth = c.ty.inside.depth; base = c.ty.inside.base } in
    past_flat c.args.set.now c.args.tables.now.types c.args.high key c.is_object_base.result c.requires.closed (c.type_at-ty.ensures ∙ ap Some (sym c.ty.view_is)) c.if-ty-eq0.true c.is_object_base.ensures
