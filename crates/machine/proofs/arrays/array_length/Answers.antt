use Rattle.std.proofs.Common.{◌≡◌, ◌+◌, ◌∷◌, List, drop, sym, ap, ◌∙◌, pos, to_z, of_z, to_z-of_z, w32, arith}
use Rattle.run_state.specs.Words.{Word, Num}
use Rattle.machine.specs.Held.{held_by}
use Rattle.machine.proofs.ArrayRows.{measure_nowhere, measure}
use Rattle.machine.proofs.arrays.array_length.Goals as goal

pub returns-in_default-clause-ok : goal.returns-in_default-clause-ok
returns-in_default-clause-ok g c = λ p. measure_nowhere g.T.Tag.none_of g.T.Tag.join_of p c.args.frame.now c.args.areas.now c.in-Item.at (ap held_by (sym c.peek.ensures) ∙ sym c.holding.ensures ∙ c.in-Item.is) (sym c.in_default.ensures)

pub returns-clause-ok : goal.returns-clause-ok
returns-clause-ok g c = λ p.
    let f = c.args.frame.now in
    let n = c.in-Ok.length in
    let back : to_z w32 (of_z w32 n) ≡ n = grind (arith, to_z-of_z) in
    measure g.T.Tag.none_of g.T.Tag.join_of p c.args.frame.now c.args.areas.now c.in-Item.at c.in-Some.item.now n _ (ap held_by (sym c.peek.ensures) ∙ sym c.holding.ensures ∙ c.in-Item.is) (sym c.in-Some.ensures) (c.in-Ok.ensures.1 ∙ ap pos c.len.ensures)
    (ap (λ (st : List (Word g.row.T.Denot)). record f { next = f.next + 1; stack = st })
    (c.replace.ensures ∙ ap (λ (x : Word g.row.T.Denot). x ∷ drop 1 f.stack) (c.num.ensures ∙ ap (λ z. Num z c.none.result) back ∙ ap (Num n) c.none.ensures)))
