-- Tests of texts: a text of the characters 1 to 127 is its bytes, and units are numbers of 16 bits.
use Rattle.std.proofs.Common.{◌≡◌, ◌∙◌, ℕ, ◌<◌, ◌^◌, Bool, true, false, cond, List, [], ◌∷◌, ◌++◌, length, refl, ap, sym, arith, ltb}
use Rattle.std.specs.Prelude.{◌&&◌, ◌/◌, ◌+◌, ◌%◌}
use Rattle.const_pool.specs.Pool.{Pool}
use Rattle.pool_names.specs.Adding.{add_entry}
use Rattle.pool_names.specs.Spelling.{is_unit, spell_text}
use Rattle.std.specs.List.{list_all}
use Rattle.std.proofs.lemmas.Grind.{common_steps}
use Rattle.std.proofs.lemmas.List.Elements.{All-nil, All-cons, All-head, All-tail}
use Rattle.modified_utf8.specs.Text.{AreUnits, IsText, unit_bytes, text_bytes}
use Rattle.const_pool.specs.Pool.{HasText}
use Rattle.const_pool.specs.declared.entry.Entry.TheVariants.{Utf8}
use Rattle.pool_names.specs.Fits.{is_ascii, is_short_ascii}

pub both_true : (a b : Bool) → (a && b) ≡ true → (a ≡ true) × (b ≡ true)
both_true true true h = (refl, refl)
both_true true false h = absurd cc
both_true false b h = absurd cc

one_byte : (unit : ℕ) → is_ascii unit ≡ true → unit_bytes unit ≡ unit ∷ []
one_byte unit h = ap (λ (b : Bool). cond b (unit ∷ []) (cond (ltb unit 2048) ((192 + unit / 64) ∷ (128 + unit % 64) ∷ []) ((224 + unit / 4096) ∷ (128 + unit / 64 % 64) ∷ (128 + unit % 64) ∷ []))) h

small : (unit : ℕ) → is_ascii unit ≡ true → unit < 2 ^ 16
small unit h = let below : ltb unit 128 ≡ true = (both_true (ltb 0 unit) (ltb unit 128) h).1 in grind (arith, common_steps)

pub ascii_text : (text : List ℕ) → list_all is_ascii text ≡ true → IsText text text
ascii_text [] h = record { in_range = All-nil (λ u. u < 2 ^ 16); spelled = refl }
ascii_text (unit ∷ text) h =
    let parts = both_true (is_ascii unit) (list_all is_ascii text) h in
    let rest = ascii_text text parts.1 in
    record {
      in_range = All-cons (λ u. u < 2 ^ 16) unit text (small unit parts.0) rest.in_range;
      spelled = ap (λ (z : List ℕ). unit ∷ z) rest.spelled ∙ sym (ap (λ (z : List ℕ). z ++ text_bytes text) (one_byte unit parts.0));
    }

pub ascii_entry : (text : List ℕ) → is_short_ascii text ≡ true → HasText (Utf8 text)
ascii_entry text h =
    let parts = both_true (ltb (length text) 65536) (list_all is_ascii text) h in
    (grind (arith, common_steps, parts.0), (text, ascii_text text parts.1))

-- units that are numbers of 16 bits
units_pass : (units : List ℕ) → AreUnits units → list_all is_unit units ≡ true
units_pass [] h = refl
units_pass (unit ∷ units) h =
    let small : unit < 2 ^ 16 = All-head (λ u. u < 2 ^ 16) unit units h in
    let first : is_unit unit ≡ true = grind (arith, common_steps, small) in
    rw first (units_pass units (All-tail (λ u. u < 2 ^ 16) unit units h))

pub text_spelled : (units : List ℕ) (p : Pool) → AreUnits units → spell_text units p ≡ add_entry (Utf8 (text_bytes units)) p
unfolding spell_text
text_spelled units p h = rw (units_pass units h) refl
