use Rattle.std.proofs.Common.{◌≡◌, ◌+◌, ◌++◌, [], ◌∷◌, List, sym, ap, ◌∙◌, to_z, of_z, to_z-of_z, w32, arith}
use Rattle.run_state.specs.declared.report.Report.{Report}
use Rattle.run_state.specs.Calls.{report_of}
use Rattle.run_state.specs.Words.{Word}
use Rattle.machine.proofs.NativeRows.{reported, report_stuck, report_stuck_second, report_stuck_third}
use Rattle.machine.proofs.natives.report.Goals as goal

pub returns-in_default-clause-ok : goal.returns-in_default-clause-ok
returns-in_default-clause-ok g c = λ w more n. report_stuck g.T.Tag.none_of g.T.Tag.join_of w c.args.machine.now more n c.args.words c.requires.there c.stop.new.machine (sym c.in_default.ensures) c.stop.ensures

pub returns-in_default-int_argument-clause-ok : goal.returns-in_default-int_argument-clause-ok
returns-in_default-int_argument-clause-ok g c = λ w more n.
    report_stuck_second g.T.Tag.none_of g.T.Tag.join_of w c.args.machine.now more n c.args.words c.requires.there c.in-Some.sink c.in-Some.field-0-1 (sym c.in-Some.ensures) c.stop-in_default-int_argument.new.machine (sym c.in_default-int_argument.ensures) c.stop-in_default-int_argument.ensures

pub returns-in_default-int_argument-2-clause-ok : goal.returns-in_default-int_argument-2-clause-ok
returns-in_default-int_argument-2-clause-ok g c = λ w more n.
    report_stuck_third g.T.Tag.none_of g.T.Tag.join_of w c.args.machine.now more n c.args.words c.requires.there c.in-Some.sink c.in-Some.field-0-1 (sym c.in-Some.ensures) c.in-Some-int_argument.argument c.in-Some-int_argument.field-0-1 (sym c.in-Some-int_argument.ensures)
    c.stop-in_default-int_argument-2.new.machine (sym c.in_default-int_argument-2.ensures) c.stop-in_default-int_argument-2.ensures

pub returns-clause-ok : goal.returns-clause-ok
returns-clause-ok g c = λ w more n.
    let m = c.args.machine.now in
    let a = c.in-Some.sink in
    let b = c.in-Some-int_argument.argument in
    let d = c.in-Some-int_argument-2.tag in
    let back : to_z w32 (of_z w32 a) ≡ a = grind (arith, to_z-of_z) in
    let also : to_z w32 (of_z w32 b) ≡ b = grind (arith, to_z-of_z) in
    let last : to_z w32 (of_z w32 d) ≡ d = grind (arith, to_z-of_z) in
    reported g.T.Tag.none_of g.T.Tag.join_of w c.args.machine.now more n c.args.words c.requires.there a c.in-Some.field-0-1 (sym c.in-Some.ensures) b c.in-Some-int_argument.field-0-1 (sym c.in-Some-int_argument.ensures) d c.in-Some-int_argument-2.field-0-1 _ c.requires.framed c.requires.running (sym c.in-Some-int_argument-2.ensures)
    (ap (λ (k : List Report). record m { top = record m.top { next = m.top.next + 1; stack = c.drop_tops.new.self }; reports = k })
    (c.in_ok-push.ensures.ok
    ∙ ap (λ x. m.reports ++ report_of x (to_z w32 (of_z w32 b)) (to_z w32 (of_z w32 d)) ∷ []) back
    ∙ ap (λ x. m.reports ++ report_of a x (to_z w32 (of_z w32 d)) ∷ []) also
    ∙ ap (λ x. m.reports ++ report_of a b x ∷ []) last))
    (ap (λ (st : List (Word g.row.T.Denot)). record m.top { next = m.top.next + 1; stack = st }) c.drop_tops.ensures)
