-- Code that tests write.
use Rattle.std.proofs.Common.{◌≡◌, ◌∙◌, ℕ, List, [], ◌∷◌, refl, ap, sym, subst, lit<, pos}
use Rattle.std.proofs.lemmas.List.Elements.{All-nil, All-cons}
use Rattle.class_model.specs.declared.class.CodeDef.{CodeDef}
use Rattle.class_model.specs.declared.class.Frame.{Frame}
use Rattle.class_model.specs.declared.class.Handler.{Handler}
use Rattle.class_model.specs.declared.class.VType.{VType}
use Rattle.class_model.specs.declared.class.VType.TheVariants as types
use Rattle.class_model.specs.declared.insn.Insn.{Insn}
use Rattle.class_model.specs.declared.insn.Insn.TheVariants.{Iinc, Goto}
use Rattle.class_shape.specs.ShapedInsn.{ShapedInsn, IsTarget}
use Rattle.class_shape.specs.Shaped.{ShapedHandler, ShapedType, ShapedFrame}
use Rattle.class_limits.specs.Sizes.{size_at, end_from, offsets_from, uses_wide_goto, code_size, offsets_of}
use Rattle.class_limits.specs.Counts.{count_of}
use Rattle.class_limits.specs.Lengths.{code_length, length_of, lengths_if}
use Rattle.class_limits.specs.Limits.{first, first_over, long_text, far_in_code}
use Rattle.code_spelling.specs.Writable.{WritableCode}

abbrev pub loop : List Insn
loop = Iinc 0 (pos 1) ∷ Goto 0 ∷ []

abbrev pub int_local : Frame
int_local = record { locals = types.Int ∷ []; stack = [] }

abbrev pub at_start : ℕ × Frame
at_start = (0, int_local)

abbrev pub line_five : ℕ × ℕ
line_five = (0, 5)

-- adds one to a local without end, at line 5
abbrev pub looped : CodeDef
looped = record { max_stack = 0; max_locals = 1; insns = loop; handlers = []; frames = at_start ∷ []; lines = line_five ∷ [] }

looped_writable : WritableCode looped
unfolding code_size uses_wide_goto end_from size_at offsets_from offsets_of count_of code_length length_of lengths_if first first_over long_text far_in_code
looped_writable = record {
  shaped = record {
    insns = All-cons (ShapedInsn 2) (Iinc 0 (pos 1)) (Goto 0 ∷ []) tt (All-cons (ShapedInsn 2) (Goto 0) [] (lit< tt) (All-nil (ShapedInsn 2)));
    handlers = All-nil (ShapedHandler 2);
    frames = All-cons (ShapedFrame loop) at_start [] (record { at = lit< tt; locals = All-cons (ShapedType loop) types.Int [] tt (All-nil (ShapedType loop)); stack = All-nil (ShapedType loop) }) (All-nil (ShapedFrame loop));
    ascend = tt;
    lines = All-cons (λ (row : ℕ × ℕ). IsTarget 2 row.0) line_five [] (lit< tt) (All-nil (λ (row : ℕ × ℕ). IsTarget 2 row.0));
  };
  texts = refl;
  counts = refl;
  size = refl;
  branches = refl;
  lengths = refl;
}

made : List Insn → List Handler → List (ℕ × Frame) → List (ℕ × ℕ) → CodeDef
made insns handlers frames lines = record { max_stack = 0; max_locals = 1; insns = insns; handlers = handlers; frames = frames; lines = lines }

-- what a test makes piece by piece
pub made_writable : (insns : List Insn) (handlers : List Handler) (frames : List (ℕ × Frame)) (lines : List (ℕ × ℕ)) → insns ≡ loop → handlers ≡ [] → frames ≡ at_start ∷ [] → lines ≡ line_five ∷ []
    → WritableCode (record { max_stack = 0; max_locals = 1; insns = insns; handlers = handlers; frames = frames; lines = lines })
unfolding made
made_writable insns handlers frames lines a b c d =
    let same : made insns handlers frames lines ≡ looped =
    ap (λ (z : List Insn). made z handlers frames lines) a ∙ ap (λ (z : List Handler). made loop z frames lines) b
    ∙ ap (λ (z : List (ℕ × Frame)). made loop [] z lines) c ∙ ap (λ (z : List (ℕ × ℕ)). made loop [] (at_start ∷ []) z) d in
    subst (λ (code : CodeDef). WritableCode code) (sym same) looped_writable

row_of : List VType → List VType → ℕ × Frame
row_of locals stack = (0, record { locals = locals; stack = stack })

pub is_start : (locals stack : List VType) → locals ≡ types.Int ∷ [] → stack ≡ [] → (let rows : List (ℕ × Frame) = (0, record { locals = locals; stack = stack }) ∷ [] in rows) ≡ at_start ∷ []
unfolding row_of
is_start locals stack a b = ap (λ (z : List VType). row_of z stack ∷ []) a ∙ ap (λ (z : List VType). row_of (types.Int ∷ []) z ∷ []) b
