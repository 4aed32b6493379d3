use Rattle.std.proofs.Common.{◌≡◌, ◌≤◌, ◌++◌, List, [], ◌∷◌, ◌∙◌, ap, sym, subst, pos}
use Rattle.class_model.specs.declared.class.CodeDef.{CodeDef}
use Rattle.class_model.specs.declared.insn.Insn.{Insn}
use Rattle.class_model.specs.declared.insn.Insn.TheVariants.{Iinc, Goto}
use Rattle.class_limits.specs.Sizes.{code_size, layout_of}
use Rattle.insn_spelling.specs.Conditions.{WritableInsns}
use Rattle.insn_spelling.proofs.Samples.{loop, looped_size, looped_writable, is_looped}
use Rattle.insn_spelling.proofs.tests.looped.Goals as goal

pub returns-clause-size : goal.returns-clause-size
returns-clause-size c =
    let insns : c.push-2.new.self ≡ loop = c.in_ok-push-2.ensures.ok ∙ ap (λ (xs : List Insn). xs ++ Goto 0 ∷ []) (c.in_ok-push.ensures.ok ∙ ap (λ (xs : List Insn). xs ++ Iinc 0 (pos 1) ∷ []) c.new-insns.ensures) in
    subst (λ (code : CodeDef). code_size code ≤ 65535) (sym (is_looped c.push-2.new.self c.new.result c.new-2.result c.new-3.result insns c.new.ensures c.new-2.ensures c.new-3.ensures)) looped_size

pub returns-clause-writable : goal.returns-clause-writable
returns-clause-writable c =
    let insns : c.push-2.new.self ≡ loop = c.in_ok-push-2.ensures.ok ∙ ap (λ (xs : List Insn). xs ++ Goto 0 ∷ []) (c.in_ok-push.ensures.ok ∙ ap (λ (xs : List Insn). xs ++ Iinc 0 (pos 1) ∷ []) c.new-insns.ensures) in
    subst (λ (code : CodeDef). WritableInsns (layout_of code) code.insns) (sym (is_looped c.push-2.new.self c.new.result c.new-2.result c.new-3.result insns c.new.ensures c.new-2.ensures c.new-3.ensures)) looped_writable
