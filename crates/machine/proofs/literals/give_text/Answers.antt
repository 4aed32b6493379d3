use Rattle.std.proofs.Common.{◌+◌, ◌∷◌, List, sym, ap, ◌∙◌}
use Rattle.run_state.specs.Words.{Word}
use Rattle.machine.specs.Placed.{placed_by}
use Rattle.machine.proofs.LiteralRows.{gives_placed}
use Rattle.machine.proofs.literals.give_text.Goals as goal

pub returns-clause-ok : goal.returns-clause-ok
returns-clause-ok g c =
    let f = c.args.frame.now in
    gives_placed g.T.Tag.none_of g.T.Tag.join_of c.args.program.now c.args.text c.args.frame.now c.args.areas.now c.in-Some.place _ (ap (λ ls. placed_by ls c.args.text) (sym c.as_slice.ensures) ∙ sym c.in-Some.ensures)
    (ap (λ (st : List (Word g.row.T.Denot)). record f { next = f.next + 1; stack = st }) (c.in_ok-push.ensures.ok ∙ ap (λ (x : Word g.row.T.Denot). x ∷ f.stack) c.reference.ensures))
