use Rattle.std.proofs.Common.{◌∙◌, sym, ap}
use Rattle.std.specs.Prelude.{flat_map, option_to_list}
use Rattle.class_model.specs.declared.class.CodeDef.{CodeDef}
use Rattle.set_lookups.specs.First.{first}
use Rattle.class_set.proofs.Firsts.{no_piece}
use Rattle.class_set.proofs.walk.judge_method.Goals as goal

pub returns-in-None : goal.returns-in-None
returns-in-None g c =
    let f = g.R.InsnRule.told c.args.rule.now c.args.current in
    sym (ap (λ code. first f (flat_map (λ (def : CodeDef). def.insns) (option_to_list code))) c.in-None.is ∙ no_piece f)
