use Rattle.std.proofs.Common.{◌≡◌, ◌+◌, List, ℕ, sym, ap, ◌∙◌, to_z, of_z, to_z-of_z, w32, arith}
use Rattle.run_state.specs.Numbers.{low_byte}
use Rattle.run_state.specs.Words.{Word}
use Rattle.machine.proofs.NativeRows.{wrote, write_stuck}
use Rattle.machine.proofs.natives.write.Goals as goal

pub returns-in_default-clause-ok : goal.returns-in_default-clause-ok
returns-in_default-clause-ok g c = λ w more n. write_stuck g.T.Tag.none_of g.T.Tag.join_of w c.args.machine.now more n c.args.words c.requires.there c.stop.new.machine (sym c.in_default.ensures) c.stop.ensures

pub returns-clause-ok : goal.returns-clause-ok
returns-clause-ok g c = λ w more n.
    let m = c.args.machine.now in
    let v = c.in-Some.v in
    let back : to_z w32 (of_z w32 v) ≡ v = grind (arith, to_z-of_z) in
    wrote g.T.Tag.none_of g.T.Tag.join_of w c.args.machine.now more n c.args.words c.requires.there c.requires.framed c.requires.running v c.in-Some.field-0-1 c.lowest_byte.result _ (sym c.in-Some.ensures) (c.lowest_byte.ensures ∙ ap low_byte back)
    (ap (λ (k : List ℕ). record m { top = record m.top { next = m.top.next + 1; stack = c.drop_tops.new.self }; console = k }) c.in_ok-push.ensures.ok)
    (ap (λ (st : List (Word g.row.T.Denot)). record m.top { next = m.top.next + 1; stack = st }) c.drop_tops.ensures)
