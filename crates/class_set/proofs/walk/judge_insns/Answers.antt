use Rattle.std.proofs.Common.{◌∙◌, sym}
use Rattle.class_set.proofs.Firsts.{item_found, item_passed, items_over}
use Rattle.class_set.proofs.walk.judge_insns.Goals as goal

pub returns-in-Some : goal.returns-in-Some
returns-in-Some g c =
    sym (c.loop-insn.invariant ∙ item_found (g.R.InsnRule.told c.args.rule.now c.args.current) c.args.insns.now c.loop-insn.insn-index _ _ c.loop-insn-test.true c.insn-item.is (sym c.in-Some.is ∙ c.in_ok-text.ensures))

pub loop-insn-preserved : goal.loop-insn-preserved
loop-insn-preserved g c =
    c.loop-insn.invariant ∙ item_passed (g.R.InsnRule.told c.args.rule.now c.args.current) c.args.insns.now c.loop-insn.insn-index _ c.loop-insn-test.true c.insn-item.is (sym c.in_default.is ∙ c.in_ok-text.ensures)

pub returns : goal.returns
returns g c = sym (c.loop-insn.invariant ∙ items_over (g.R.InsnRule.told c.args.rule.now c.args.current) c.args.insns.now c.loop-insn.insn-index c.loop-insn-test.false)
