-- Instructions that are written one after the other are the code.
use Rattle.std.proofs.Common.{◌≡◌, ◌∙◌, ℕ, ◌+◌, List, [], ◌∷◌, length, map, Some, refl, sym, ap, subst, arith, length-append}
use Rattle.std.specs.Prelude.{zip, All}
use Rattle.std.proofs.lemmas.List.Elements.{All-head, All-tail, All-weaker}
use Rattle.class_input.specs.Grammar.{Each}
use Rattle.class_model.specs.declared.insn.Insn.{Insn}
use Rattle.class_shape.specs.ShapedInsn.{ShapedInsn}
use Rattle.class_limits.specs.Sizes.{CodeLayout, size_at, end_from, offsets_from}
use Rattle.const_pool.specs.Pool.{Pool}
use Rattle.insn_code.specs.Linking.{Placed, ArePlaced, IsCode, offset_of, all_of, link_placed}
use Rattle.pool_names.specs.Adding.{spell_each}
use Rattle.pool_names.specs.Claims.{Claims}
use Rattle.pool_names.proofs.Claiming.{claims_as}
use Rattle.pool_names.proofs.Lists.{each_claims}
use Rattle.insn_spelling.specs.Spelling.{spell_placed, spell_insns}
use Rattle.insn_spelling.proofs.OneInsn.{unlinked_of, links}
use Rattle.insn_spelling.proofs.Jumps.{Found}
use Rattle.insn_spelling.proofs.Claiming.{IsWritten, insn_claims}
use Rattle.insn_spelling.specs.Conditions.{LaysOut, Writable, WritableInsns, offsets}
use Rattle.insn_spelling.proofs.LayoutLaws.{lays_found, lays_length, lays_writable}

-- an instruction at its offset, up to where its branches lead
abbrev place : CodeLayout → ℕ × Insn → Placed
place layout x = (x.0, unlinked_of layout x.0 x.1)

-- what is claimed of each
abbrev Holds : CodeLayout → Pool → List ℕ → ℕ × Insn → Type 0
Holds layout r text x = IsWritten layout x.0 x.1 r text

are_placed : (layout : CodeLayout) (r : Pool) (pc : ℕ) (insns : List Insn) (text : List ℕ) → Each (Holds layout r) text (zip (offsets_from layout.wide_goto pc insns) insns)
    → ArePlaced r pc text (map (place layout) (zip (offsets_from layout.wide_goto pc insns) insns)) × (pc + length text ≡ end_from layout.wide_goto pc insns)
unfolding offsets_from end_from
are_placed layout r pc [] text h = (h, omega (arith, ap length h))
are_placed layout r pc (insn ∷ insns) text h =
    let rest = are_placed layout r (pc + size_at layout.wide_goto pc insn) insns h.1 h.4 in
    let size : length h.0 ≡ size_at layout.wide_goto pc insn = h.3.1 in
    let placed : List Placed = map (place layout) (zip (offsets_from layout.wide_goto (pc + size_at layout.wide_goto pc insn) insns) insns) in (
      (h.0, h.1, h.2, (refl, h.3.0), subst (λ (n : ℕ). ArePlaced r (pc + n) h.1 placed) (sym size) rest.0),
      omega (arith, rest.1, ap length h.2, length-append h.0 h.1),
    )

starts_of : (layout : CodeLayout) (pc : ℕ) (insns : List Insn) → map offset_of (map (place layout) (zip (offsets_from layout.wide_goto pc insns) insns)) ≡ offsets_from layout.wide_goto pc insns
unfolding offsets_from
starts_of layout pc [] = refl
starts_of layout pc (insn ∷ insns) = ap (λ (xs : List ℕ). pc ∷ xs) (starts_of layout (pc + size_at layout.wide_goto pc insn) insns)

all_linked : (layout : CodeLayout) (pc : ℕ) (insns : List Insn) → Found layout → All (ShapedInsn (length layout.starts)) insns → all_of (link_placed layout.starts) (map (place layout) (zip (offsets_from layout.wide_goto pc insns) insns)) ≡ Some insns
unfolding offsets_from all_of
all_linked layout pc [] found shaped = refl
all_linked layout pc (insn ∷ insns) found shaped =
    let One : Insn → Type 0 = ShapedInsn (length layout.starts) in
    rw (links layout pc insn found (All-head One insn insns shaped), all_linked layout (pc + size_at layout.wide_goto pc insn) insns found (All-tail One insn insns shaped)) refl

is_code : (layout : CodeLayout) (r : Pool) (insns : List Insn) (text : List ℕ) → LaysOut layout insns → All (ShapedInsn (length insns)) insns → Each (Holds layout r) text (zip layout.starts insns) → IsCode r layout.size text (insns, offsets layout)
is_code layout r insns text lays shaped h =
    let each = subst (λ (xs : List ℕ). Each (Holds layout r) text (zip xs insns)) lays.starts_are h in
    let placed = are_placed layout r 0 insns text each in
    record {
      long = omega (arith, placed.1, lays.size_is);
      insns_are = record {
        placed = map (place layout) (zip (offsets_from layout.wide_goto 0 insns) insns);
        placed_are = placed.0;
        starts_are = starts_of layout 0 insns ∙ sym lays.starts_are;
        linked = all_linked layout 0 insns (lays_found layout insns lays) (subst (λ (n : ℕ). All (ShapedInsn n) insns) (sym (lays_length layout insns lays)) shaped);
      };
      size_is = refl;
    }

-- what is written for the instructions of code is that code
pub insns_claims : (layout : CodeLayout) (insns : List Insn) → WritableInsns layout insns → Claims (λ r text. IsCode r layout.size text (insns, offsets layout)) (spell_insns layout insns)
unfolding spell_insns
insns_claims layout insns w =
    let placed : List (ℕ × Insn) = zip layout.starts insns in
    let n : ℕ = length layout.starts in
    claims_as
    (λ r text. Each (Holds layout r) text placed) (λ r text. IsCode r layout.size text (insns, offsets layout)) (spell_each (spell_placed layout) placed)
    (λ r text h. is_code layout r insns text w.laid w.shaped h)
    (each_claims (Holds layout) (spell_placed layout) placed
    (All-weaker (λ (x : ℕ × Insn). Writable layout n x.0 x.1) (λ (x : ℕ × Insn). Claims (λ r text. Holds layout r text x) (spell_placed layout x))
    (λ x one. insn_claims layout n x.0 x.1 one) placed (lays_writable layout insns w.laid w.small w.near w.shaped)))
