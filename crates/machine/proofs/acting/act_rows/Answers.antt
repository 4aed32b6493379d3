use Rattle.std.proofs.Common.{sym, subst, List, ℕ, ℤ}
use Rattle.class_model.specs.declared.insn.Insn.TheVariants as insn
use Rattle.machine_frames.specs.Acts.{Does}
use Rattle.machine.proofs.SwitchRows.{rows_act}
use Rattle.machine.proofs.acting.act_rows.Goals as goal

pub returns-in-Some-clause-ok : goal.returns-in-Some-clause-ok
returns-in-Some-clause-ok g c =
    let t = c.in-Some.rows.now in
    rows_act g.T.Tag.none_of g.T.Tag.join_of c.args.program.now c.args.frame.now c.args.areas.now c.args.rows t c.lookup_switch.new.frame c.lookup_switch.result (sym c.in-Some.ensures.value)
    (subst (λ (rs : List (ℤ × ℕ)). Does g.T.Tag.none_of g.T.Tag.join_of (insn.LookupSwitch t.default rs) c.args.frame.now c.lookup_switch.new.frame c.lookup_switch.result) c.as_slice.ensures c.lookup_switch.ensures)
