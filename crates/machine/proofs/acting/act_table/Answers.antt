use Rattle.std.proofs.Common.{sym, subst, List, ℕ, ℤ, ◌≡◌, to_z, of_z, to_z-of_z, w32, arith}
use Rattle.class_model.specs.declared.insn.Insn.TheVariants as insn
use Rattle.machine_frames.specs.Acts.{Does}
use Rattle.machine.proofs.SwitchRows.{table_acts}
use Rattle.machine.proofs.acting.act_table.Goals as goal

pub returns-in-Some-clause-ok : goal.returns-in-Some-clause-ok
returns-in-Some-clause-ok g c =
    let t = c.in-Some.table.now in
    let back : to_z w32 (of_z w32 t.low) ≡ t.low = grind (arith, to_z-of_z) in
    table_acts g.T.Tag.none_of g.T.Tag.join_of c.args.program.now c.args.frame.now c.args.areas.now c.args.table t c.table_switch.new.frame c.table_switch.result (sym c.in-Some.ensures.value)
    (subst (λ (ts : List ℕ). Does g.T.Tag.none_of g.T.Tag.join_of (insn.TableSwitch t.low t.default ts) c.args.frame.now c.table_switch.new.frame c.table_switch.result) c.as_slice.ensures
    (subst (λ (l : ℤ). Does g.T.Tag.none_of g.T.Tag.join_of (insn.TableSwitch l t.default c.as_slice.result.now) c.args.frame.now c.table_switch.new.frame c.table_switch.result) back c.table_switch.ensures))
