use Rattle.std.proofs.Common.{◌≡◌, ◌++◌, ℕ, List, [], ◌∷◌, ◌∙◌, ap, pos}
use Rattle.class_model.specs.declared.class.Frame.{Frame}
use Rattle.class_model.specs.declared.class.VType.{VType}
use Rattle.class_model.specs.declared.class.VType.TheVariants as types
use Rattle.class_model.specs.declared.insn.Insn.{Insn}
use Rattle.class_model.specs.declared.insn.Insn.TheVariants.{Iinc, Goto}
use Rattle.code_spelling.proofs.Samples.{loop, at_start, line_five, made_writable, is_start}
use Rattle.code_spelling.proofs.tests.looped.Goals as goal

pub returns : goal.returns
returns c =
    let insns : c.push-2.new.self ≡ loop = c.in_ok-push-2.ensures.ok ∙ ap (λ (xs : List Insn). xs ++ Goto 0 ∷ []) (c.in_ok-push.ensures.ok ∙ ap (λ (xs : List Insn). xs ++ Iinc 0 (pos 1) ∷ []) c.new-insns.ensures) in
    let locals : c.push-3.new.self ≡ types.Int ∷ [] = c.in_ok-push-3.ensures.ok ∙ ap (λ (xs : List VType). xs ++ types.Int ∷ []) c.new-locals.ensures in
    let row : ℕ × Frame = (0, record { locals = c.push-3.new.self; stack = c.new-stack.result }) in
    let frames : c.push-4.new.self ≡ at_start ∷ [] = c.in_ok-push-4.ensures.ok ∙ ap (λ (xs : List (ℕ × Frame)). xs ++ row ∷ []) c.new-frames.ensures ∙ is_start c.push-3.new.self c.new-stack.result locals c.new-stack.ensures in
    let lines : c.push-5.new.self ≡ line_five ∷ [] = c.in_ok-push-5.ensures.ok ∙ ap (λ (xs : List (ℕ × ℕ)). xs ++ line_five ∷ []) c.new-lines.ensures in
    made_writable c.push-2.new.self c.new-handlers.result c.push-4.new.self c.push-5.new.self insns c.new-handlers.ensures frames lines
