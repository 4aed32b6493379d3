use Rattle.std.proofs.Common.{◌∙◌, sym}
use Rattle.set_lookups.proofs.Pieces.{found_in, passed_by, none_further}
use Rattle.class_set.specs.References as table
use Rattle.class_set.proofs.walk.judge_methods.Goals as goal

pub returns-in-Some : goal.returns-in-Some
returns-in-Some g c =
    sym (c.loop-method.invariant ∙ found_in (g.R.InsnRule.told c.args.rule.now c.args.current) table.code_insns c.args.methods.now c.loop-method.method-index _ _ c.loop-method-test.true c.method-item.is (sym c.in-Some.is ∙ c.in_ok-text.ensures))

pub loop-method-preserved : goal.loop-method-preserved
loop-method-preserved g c =
    c.loop-method.invariant ∙ passed_by (g.R.InsnRule.told c.args.rule.now c.args.current) table.code_insns c.args.methods.now c.loop-method.method-index _ c.loop-method-test.true c.method-item.is (sym c.in_default.is ∙ c.in_ok-text.ensures)

pub returns : goal.returns
returns g c = sym (c.loop-method.invariant ∙ none_further (g.R.InsnRule.told c.args.rule.now c.args.current) table.code_insns c.args.methods.now c.loop-method.method-index c.loop-method-test.false)
