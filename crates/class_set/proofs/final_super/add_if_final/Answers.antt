use Rattle.std.proofs.Common.{◌∙◌, sym}
use Rattle.class_set.proofs.Kept.{added_final}
use Rattle.class_set.proofs.final_super.add_if_final.Goals as goal

pub returns-in_ok-insert : goal.returns-in_ok-insert
returns-in_ok-insert c = λ name.
    added_final c.args.names.now.keys _ _ name c.args.method.now c.in_ok-insert.ensures.keys c.in_ok-clone.ensures.cases (sym c.is_final.ensures ∙ c.if-is_final.true) (sym c.is_inherited.ensures ∙ c.if-is_inherited.true)
