use Rattle.std.proofs.Common.{◌∙◌, ap, sym}
use Rattle.machine.specs.declared.requests.Plan.TheVariants as plan
use Rattle.machine.specs.declared.state.Machine.{Machine}
use Rattle.machine.specs.Shown.{shown}
use Rattle.machine.proofs.CopyWrites.{copy_planned}
use Rattle.machine.proofs.Steps.{on_ok}
use Rattle.machine.proofs.copying.copy.Goals as goal

pub returns-in-Copies-clause-ok : goal.returns-in-Copies-clause-ok
returns-in-Copies-clause-ok g c = on_ok c.carry.result c.carry.ensures.ok (λ h w more n links.
    h w more links
    ∙ copy_planned g.T.Tag.none_of g.T.Tag.join_of w c.args.program.now links c.args.machine.now more c.args.words n c.requires.there (plan.Copies c.in-Copies.span) (sym c.in-Copies.is ∙ c.planned.ensures))

pub returns-in-Throws-clause-ok : goal.returns-in-Throws-clause-ok
returns-in-Throws-clause-ok g c = on_ok c.raise.result c.raise.ensures.ok (λ h w more n links.
    h w more links
    ∙ copy_planned g.T.Tag.none_of g.T.Tag.join_of w c.args.program.now links c.args.machine.now more c.args.words n c.requires.there (plan.Throws c.in-Throws.fault) (sym c.in-Throws.is ∙ c.planned.ensures))

pub returns-in-Nowhere-clause-ok : goal.returns-in-Nowhere-clause-ok
returns-in-Nowhere-clause-ok g c = λ w more n links.
    ap (λ (q : Machine g.row.T.Denot). shown w q more) c.stop.ensures
    ∙ copy_planned g.T.Tag.none_of g.T.Tag.join_of w c.args.program.now links c.args.machine.now more c.args.words n c.requires.there plan.Nowhere (sym c.in-Nowhere.is ∙ c.planned.ensures)
