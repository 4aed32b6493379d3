-- What is written for handlers and lines is these.
use Rattle.std.proofs.Common.{◌≡◌, ℕ, ◌<◌, ◌≤◌, Bool, true, false, List, [], ◌∷◌, ◌++◌, length, Some, refl, sym, ap, arith}
use Rattle.std.specs.Prelude.{◌==◌, nat_lt, All}
use Rattle.std.proofs.lemmas.Bool.{ltb-true, ltb-false, eqb-true}
use Rattle.std.proofs.lemmas.Bool.Decides.{nat_tests}
use Rattle.std.proofs.lemmas.List.Elements.{All-weaker}
use Rattle.class_input.specs.Grammar.{IsU16}
use Rattle.class_model.specs.declared.class.Handler.{Handler}
use Rattle.class_model.specs.declared.insn.Insn.{Insn}
use Rattle.class_shape.specs.ShapedInsn.{IsTarget}
use Rattle.class_shape.specs.Shaped.{ShapedHandler}
use Rattle.class_limits.specs.Sizes.{CodeLayout, offset_at}
use Rattle.class_names.specs.Names.{NamesClass, MayName}
use Rattle.class_names.specs.Pieces.{joined, AtIndex}
use Rattle.code_tables.specs.CodeTables.{Begins, EndsBefore, IsHandler, AreHandlers, IsLine, AreLines}
use Rattle.insn_code.specs.Offsets.{start_number}
use Rattle.pool_names.specs.Adding.{spell_u16}
use Rattle.pool_names.specs.Spelling.{spell_class}
use Rattle.pool_names.specs.Claims.{Claims}
use Rattle.pool_names.proofs.Claiming.{claims_as, done_claims, Then, then_claims}
use Rattle.pool_names.proofs.Naming.{class_claims}
use Rattle.pool_names.proofs.Lists.{u16_claims}
use Rattle.class_spelling.specs.Forms.{spell_index, spell_optional}
use Rattle.class_spelling.proofs.Forms.{index_claims, optional_claims, table_claims}
use Rattle.insn_spelling.specs.Conditions.{LaysOut, offsets}
use Rattle.insn_spelling.proofs.LayoutLaws.{lays_found, lays_length, offset_before, lays_end}
use Rattle.code_spelling.specs.Tables.{spell_offset, spell_handler, spell_handlers, spell_line, spell_lines}

-- ---- offsets

pub begins_claims : (layout : CodeLayout) (insns : List Insn) (number : ℕ) → LaysOut layout insns → number < length insns → Claims (λ r text. AtIndex (Begins (offsets layout)) text number) (spell_offset layout number)
begins_claims layout insns number lays within =
    claims_as (λ r text. IsU16 text (offset_at layout number)) (λ r text. AtIndex (Begins (offsets layout)) text number) (spell_offset layout number)
    (λ r text h. (offset_at layout number, h, lays_found layout insns lays number (omega (arith, lays_length layout insns lays))))
    (u16_claims (offset_at layout number))

end_by : (layout : CodeLayout) (offset number : ℕ) (b : Bool) → (offset == layout.size) ≡ b → (b ≡ true → length layout.starts ≡ number) → (b ≡ false → start_number layout.starts offset ≡ Some number) → EndsBefore (offsets layout) offset number
end_by layout offset number true is whole inner = rw is (ap (λ (n : ℕ). Some n) (whole refl))
end_by layout offset number false is whole inner = rw is (inner refl)

at_end : (layout : CodeLayout) (insns : List Insn) (number : ℕ) → LaysOut layout insns → number ≤ length insns → (offset_at layout number == layout.size) ≡ true → length layout.starts ≡ number
at_end layout insns number lays within is = by (nat_lt number (length insns)) refl
  where
    same : offset_at layout number ≡ layout.size
    same = eqb-true (offset_at layout number) layout.size is

    by : (b : Bool) → nat_lt number (length insns) ≡ b → length layout.starts ≡ number
    by true low = absurd (omega (arith, same, offset_before layout insns number lays (ltb-true number (length insns) low)))
    by false high = omega (arith, lays_length layout insns lays, ltb-false number (length insns) high)

before_end : (layout : CodeLayout) (insns : List Insn) (number : ℕ) → LaysOut layout insns → number ≤ length insns → (offset_at layout number == layout.size) ≡ false → number < length insns
before_end layout insns number lays within is = by (nat_lt number (length insns)) refl
  where
    same_test : (a b : ℕ) → a ≡ b → (a == b) ≡ true
    same_test a b e = grind (arith, nat_tests)

    by : (b : Bool) → nat_lt number (length insns) ≡ b → number < length insns
    by true low = ltb-true number (length insns) low
    by false high = absurd (let yes = same_test (offset_at layout number) layout.size (lays_end layout insns number lays (ltb-false number (length insns) high)) in cc)

ends_claims : (layout : CodeLayout) (insns : List Insn) (number : ℕ) → LaysOut layout insns → number ≤ length insns → Claims (λ r text. AtIndex (EndsBefore (offsets layout)) text number) (spell_offset layout number)
ends_claims layout insns number lays within =
    let offset : ℕ = offset_at layout number in
    claims_as (λ r text. IsU16 text offset) (λ r text. AtIndex (EndsBefore (offsets layout)) text number) (spell_offset layout number)
    (λ r text h. (offset, h, end_by layout offset number (offset == layout.size) refl (at_end layout insns number lays within) (λ is. lays_found layout insns lays number (let low = before_end layout insns number lays within is in omega (arith, low, lays_length layout insns lays)))))
    (u16_claims offset)

-- ---- handlers

handler_claims : (layout : CodeLayout) (insns : List Insn) (handler : Handler) → LaysOut layout insns → ShapedHandler (length insns) handler → Claims (λ r text. IsHandler r (offsets layout) text handler) (spell_handler layout handler)
unfolding spell_handler
handler_claims layout insns handler lays shaped =
    let code = offsets layout in
    claims_as
    (Then (λ r start. AtIndex (Begins code) start handler.start) (λ start.
    Then (λ r end. AtIndex (EndsBefore code) end handler.end) (λ end.
    Then (λ r target. AtIndex (Begins code) target handler.target) (λ target.
    Then (λ r caught. AtIndex (MayName (NamesClass r)) caught handler.caught) (λ caught r text. joined (start ∷ end ∷ target ∷ caught ∷ []) ≡ text)))))
    (λ r text. IsHandler r code text handler) (spell_handler layout handler)
    (λ r text h. record {
      start_text = h.0;
      end_text = h.2.0;
      target_text = h.2.2.0;
      caught_text = h.2.2.2.0;
      spelled = sym h.2.2.2.2;
      start_is = h.1;
      end_is = h.2.1;
      ordered = shaped.ordered;
      target_is = h.2.2.1;
      caught_is = h.2.2.2.1;
    })
    (then_claims _ _ (spell_offset layout handler.start) _ (begins_claims layout insns handler.start lays (let low = shaped.ordered in let high = shaped.within in omega arith))
    (λ start. then_claims _ _ (spell_offset layout handler.end) _ (ends_claims layout insns handler.end lays shaped.within)
    (λ end. then_claims _ _ (spell_offset layout handler.target) _ (begins_claims layout insns handler.target lays shaped.target)
    (λ target. then_claims _ _ (spell_index (spell_optional spell_class handler.caught)) _
    (index_claims (λ r. MayName (NamesClass r)) handler.caught (spell_optional spell_class handler.caught) (optional_claims NamesClass spell_class handler.caught class_claims))
    (λ caught. done_claims (joined (start ∷ end ∷ target ∷ caught ∷ [])))))))

pub handlers_claims : (layout : CodeLayout) (insns : List Insn) (handlers : List Handler) → LaysOut layout insns → All (ShapedHandler (length insns)) handlers → Claims (λ r text. AreHandlers r (offsets layout) text handlers) (spell_handlers layout handlers)
handlers_claims layout insns handlers lays shaped =
    table_claims (λ r. IsHandler r (offsets layout)) (spell_handler layout) handlers
    (All-weaker (ShapedHandler (length insns)) (λ (h : Handler). Claims (λ r text. IsHandler r (offsets layout) text h) (spell_handler layout h)) (λ h s. handler_claims layout insns h lays s) handlers shaped)

-- ---- lines

line_claims : (layout : CodeLayout) (insns : List Insn) (row : ℕ × ℕ) → LaysOut layout insns → row.0 < length insns → Claims (λ r text. IsLine (offsets layout) text row) (spell_line layout row)
unfolding spell_line
line_claims layout insns row lays within =
    claims_as
    (Then (λ r start. AtIndex (Begins (offsets layout)) start row.0) (λ start. Then (λ r line. IsU16 line row.1) (λ line r text. (start ++ line) ≡ text)))
    (λ r text. IsLine (offsets layout) text row) (spell_line layout row)
    (λ r text h. (h.0, h.2.0, sym h.2.2, h.1, h.2.1))
    (then_claims _ _ (spell_offset layout row.0) _ (begins_claims layout insns row.0 lays within)
    (λ start. then_claims _ _ (spell_u16 row.1) _ (u16_claims row.1)
    (λ line. done_claims (start ++ line))))

pub lines_claims : (layout : CodeLayout) (insns : List Insn) (lines : List (ℕ × ℕ)) → LaysOut layout insns → All (λ row. IsTarget (length insns) row.0) lines → Claims (λ r text. AreLines (offsets layout) text lines) (spell_lines layout lines)
lines_claims layout insns lines lays within =
    table_claims (λ r. IsLine (offsets layout)) (spell_line layout) lines
    (All-weaker (λ (row : ℕ × ℕ). IsTarget (length insns) row.0) (λ (row : ℕ × ℕ). Claims (λ r text. IsLine (offsets layout) text row) (spell_line layout row)) (λ row h. line_claims layout insns row lays h) lines within)
