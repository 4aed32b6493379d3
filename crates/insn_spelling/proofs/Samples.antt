-- Code that tests write.
use Rattle.std.proofs.Common.{◌≡◌, ℕ, ◌≤◌, List, [], ◌∷◌, refl, ap, ◌∙◌, lit<, lit≤, pos}
use Rattle.std.proofs.lemmas.List.Elements.{All-nil, All-cons}
use Rattle.class_model.specs.declared.class.CodeDef.{CodeDef}
use Rattle.class_model.specs.declared.class.Handler.{Handler}
use Rattle.class_model.specs.declared.class.Frame.{Frame}
use Rattle.class_model.specs.declared.insn.Insn.{Insn}
use Rattle.class_model.specs.declared.insn.Insn.TheVariants.{Iinc, Goto}
use Rattle.class_shape.specs.ShapedInsn.{ShapedInsn}
use Rattle.class_limits.specs.Sizes.{size_at, end_from, offsets_from, uses_wide_goto, code_size, offsets_of, layout_of}
use Rattle.class_limits.specs.Limits.{first}
use Rattle.insn_spelling.specs.Conditions.{FitsTexts, WritableInsns}

abbrev pub loop : List Insn
loop = Iinc 0 (pos 1) ∷ Goto 0 ∷ []

-- adds one to a local without end
abbrev pub looped : CodeDef
looped = record { max_stack = 0; max_locals = 1; insns = loop; handlers = []; frames = []; lines = [] }

pub looped_size : code_size looped ≤ 65535
unfolding code_size uses_wide_goto end_from size_at
looped_size = lit≤ tt

pub looped_writable : WritableInsns (layout_of looped) loop
unfolding layout_of code_size offsets_of uses_wide_goto end_from offsets_from size_at first
looped_writable = record {
  laid = record { starts_are = refl; size_is = refl };
  small = lit≤ tt;
  near = record { near = refl; gotos = λ narrow. lit≤ tt };
  shaped = All-cons (ShapedInsn 2) (Iinc 0 (pos 1)) (Goto 0 ∷ []) tt (All-cons (ShapedInsn 2) (Goto 0) [] (lit< tt) (All-nil (ShapedInsn 2)));
  texts = All-cons FitsTexts (Iinc 0 (pos 1)) (Goto 0 ∷ []) tt (All-cons FitsTexts (Goto 0) [] tt (All-nil FitsTexts));
}

made : List Insn → List Handler → List (ℕ × Frame) → List (ℕ × ℕ) → CodeDef
made insns handlers frames lines = record { max_stack = 0; max_locals = 1; insns = insns; handlers = handlers; frames = frames; lines = lines }

-- what a test makes piece by piece
pub is_looped : (insns : List Insn) (handlers : List Handler) (frames : List (ℕ × Frame)) (lines : List (ℕ × ℕ)) → insns ≡ loop → handlers ≡ [] → frames ≡ [] → lines ≡ []
    → (let code : CodeDef = record { max_stack = 0; max_locals = 1; insns = insns; handlers = handlers; frames = frames; lines = lines } in code) ≡ looped
unfolding made
is_looped insns handlers frames lines a b c d =
    ap (λ (z : List Insn). made z handlers frames lines) a ∙ ap (λ (z : List Handler). made loop z frames lines) b
    ∙ ap (λ (z : List (ℕ × Frame)). made loop [] z lines) c ∙ ap (λ (z : List (ℕ × ℕ)). made loop [] [] z) d
