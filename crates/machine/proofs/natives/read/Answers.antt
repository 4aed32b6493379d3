use Rattle.std.proofs.Common.{◌≡◌, ◌+◌, ◌∷◌, List, drop, refl, sym, ap, ◌∙◌, to_z, of_z, to_z-of_z, w32, arith}
use Rattle.run_state.specs.Words.{Word, Num}
use Rattle.machine.proofs.NativeRows.{read_known, read_waits, not_fed}
use Rattle.machine.proofs.natives.read.Goals as goal

pub returns-in_default-clause-ok : goal.returns-in_default-clause-ok
returns-in_default-clause-ok g c = λ w more n links behind.
    (refl, read_waits g.T.Tag.none_of g.T.Tag.join_of w c.args.machine.now more n c.args.words c.requires.there (not_fed c.args.machine.now.fed c.args.closed (sym c.in_default.ensures)))

pub returns-clause-ok : goal.returns-clause-ok
returns-clause-ok g c = λ w more n links behind.
    let m = c.args.machine.now in
    let v = c.in-Some.value in
    let back : to_z w32 (of_z w32 v) ≡ v = grind (arith, to_z-of_z) in
    read_known g.T.Tag.none_of g.T.Tag.join_of w c.args.machine.now more n c.args.words c.requires.there c.requires.framed c.requires.running c.args.program.now c.args.closed m.fed v _ links behind refl (sym c.in-Some.ensures) refl
    (ap (λ (st : List (Word g.row.T.Denot)). record m.top { next = m.top.next + 1; stack = st })
    (c.in_ok-put_for.ensures.ok ∙ ap (λ (x : Word g.row.T.Denot). x ∷ drop c.args.words m.top.stack) (c.num.ensures ∙ ap (λ z. Num z c.none.result) back ∙ ap (Num v) c.none.ensures)))
