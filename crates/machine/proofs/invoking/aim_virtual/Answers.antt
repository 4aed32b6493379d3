use Rattle.std.proofs.Common.{◌≡◌, sym, ap, ◌∙◌, subst}
use Rattle.linked_code.specs.declared.op.Op.TheVariants as op
use Rattle.linked_code.specs.declared.program.LinkedType.{LinkedType}
use Rattle.machine.specs.declared.invoking.Aim.{Aim}
use Rattle.machine.specs.Aimed.{Aims, entering, selected_by}
use Rattle.machine.proofs.CallRows.{aims_null, aims_nothing, aims_nowhere, aims_virtual, on_virtual}
use Rattle.machine.proofs.invoking.aim_virtual.Goals as goal

pub returns-in-Null : goal.returns-in-Null
returns-in-Null g c = aims_null g.T.Tag.none_of g.T.Tag.join_of c.args.program.now c.args.frame.now c.args.areas.now (op.InvokeVirtual c.args.number) c.in-Some.call.now.words (on_virtual g.T.Tag.none_of g.T.Tag.join_of c.args.program.now c.args.frame.now c.args.areas.now c.args.number c.in-Some.call.now (sym c.in-Some.ensures.value)) (sym c.receiver.ensures ∙ c.in-Null.is)

pub returns-in-Nothing : goal.returns-in-Nothing
returns-in-Nothing g c = aims_nothing g.T.Tag.none_of g.T.Tag.join_of c.args.program.now c.args.frame.now c.args.areas.now (op.InvokeVirtual c.args.number) c.in-Some.call.now.words (on_virtual g.T.Tag.none_of g.T.Tag.join_of c.args.program.now c.args.frame.now c.args.areas.now c.args.number c.in-Some.call.now (sym c.in-Some.ensures.value)) (sym c.receiver.ensures ∙ c.in-Nothing.is)

pub returns-in_default-item : goal.returns-in_default-item
returns-in_default-item g c = aims_nowhere g.T.Tag.none_of g.T.Tag.join_of c.args.program.now c.args.frame.now c.args.areas.now (op.InvokeVirtual c.args.number) c.in-Some.call.now.words c.in-Item.at (on_virtual g.T.Tag.none_of g.T.Tag.join_of c.args.program.now c.args.frame.now c.args.areas.now c.args.number c.in-Some.call.now (sym c.in-Some.ensures.value)) (sym c.receiver.ensures ∙ c.in-Item.is) (sym c.in_default-item.ensures)

pub returns : goal.returns
returns g c =
    let call = c.in-Some.call.now in
    let same : c.entering.result ≡ entering (selected_by c.args.program.now c.ty.result.now.receiver call) call.words = c.entering.ensures ∙ ap (λ m. entering m call.words) c.selected.ensures in
    let ty = ap (λ (t : LinkedType g.row.T.Denot). entering (selected_by c.args.program.now t.receiver call) call.words) c.ty.ensures in
    subst (λ (x : Aim). Aims g.T.Tag.none_of g.T.Tag.join_of c.args.program.now (op.InvokeVirtual c.args.number) c.args.frame.now c.args.areas.now x) (sym (same ∙ ty))
    (aims_virtual g.T.Tag.none_of g.T.Tag.join_of c.args.program.now c.args.frame.now c.args.areas.now c.args.number call (sym c.in-Some.ensures.value) c.in-Item.at (sym c.receiver.ensures ∙ c.in-Item.is) c.in-Some-item.item.now (sym c.in-Some-item.ensures))
