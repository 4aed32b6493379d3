use Rattle.std.proofs.Common.{◌≡◌, sym, ap, ◌∙◌, subst}
use Rattle.linked_code.specs.declared.op.Op.TheVariants as op
use Rattle.linked_code.specs.declared.program.Method.{Method}
use Rattle.machine.specs.declared.invoking.Aim.{Aim}
use Rattle.machine.specs.Aimed.{Aims, entering, special_by}
use Rattle.machine.proofs.CallRows.{aims_null, aims_nothing, aims_nowhere, aims_special, on_special}
use Rattle.machine.proofs.invoking.aim_special.Goals as goal

pub returns-in-Null : goal.returns-in-Null
returns-in-Null g c = aims_null g.T.Tag.none_of g.T.Tag.join_of c.args.program.now c.args.frame.now c.args.areas.now (op.InvokeSpecial c.args.number) c.in-Some.call.now.words (on_special g.T.Tag.none_of g.T.Tag.join_of c.args.program.now c.args.frame.now c.args.areas.now c.args.number c.in-Some.call.now (sym c.in-Some.ensures.value)) (sym c.receiver.ensures ∙ c.in-Null.is)

pub returns-in-Nothing : goal.returns-in-Nothing
returns-in-Nothing g c = aims_nothing g.T.Tag.none_of g.T.Tag.join_of c.args.program.now c.args.frame.now c.args.areas.now (op.InvokeSpecial c.args.number) c.in-Some.call.now.words (on_special g.T.Tag.none_of g.T.Tag.join_of c.args.program.now c.args.frame.now c.args.areas.now c.args.number c.in-Some.call.now (sym c.in-Some.ensures.value)) (sym c.receiver.ensures ∙ c.in-Nothing.is)

pub returns-in-None : goal.returns-in-None
returns-in-None g c = aims_nowhere g.T.Tag.none_of g.T.Tag.join_of c.args.program.now c.args.frame.now c.args.areas.now (op.InvokeSpecial c.args.number) c.in-Some.call.now.words c.in-Item.at (on_special g.T.Tag.none_of g.T.Tag.join_of c.args.program.now c.args.frame.now c.args.areas.now c.args.number c.in-Some.call.now (sym c.in-Some.ensures.value)) (sym c.receiver.ensures ∙ c.in-Item.is) (sym c.in-None.ensures)

pub returns-in-Some-item : goal.returns-in-Some-item
returns-in-Some-item g c =
    let call = c.in-Some.call.now in
    let same : c.entering.result ≡ entering (special_by c.args.program.now c.method.result.now.class call call.resolved) call.words = c.entering.ensures ∙ ap (λ m. entering m call.words) c.special.ensures in
    let class = ap (λ (m : Method). entering (special_by c.args.program.now m.class call call.resolved) call.words) c.method.ensures in
    subst (λ (x : Aim). Aims g.T.Tag.none_of g.T.Tag.join_of c.args.program.now (op.InvokeSpecial c.args.number) c.args.frame.now c.args.areas.now x) (sym (same ∙ class))
    (aims_special g.T.Tag.none_of g.T.Tag.join_of c.args.program.now c.args.frame.now c.args.areas.now c.args.number call (sym c.in-Some.ensures.value) c.in-Item.at (sym c.receiver.ensures ∙ c.in-Item.is) c.in-Some-item.field-0.now (sym c.in-Some-item.ensures))
