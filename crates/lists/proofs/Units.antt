-- A text and its UTF-16 units, character by character.
use Rattle.std.proofs.Common.{◌≡◌, ◌∙◌, ℕ, ◌+◌, List, [], ◌++◌, length, take, drop, flat_map, Option, Some, None, Bool, true, false, refl, sym, ap, nat_eq, Bor}
use Rattle.std.specs.Prelude.{MatchOption, IsTrue, ◌↔◌, ◌==◌}
use Rattle.std.specs.Char.Escape.{encode_utf16}
use Rattle.std.specs.Str.{IsUtf8, chars}
use Rattle.std.specs.Cmp.Lexicographic.{pointwise, same_text}
use Rattle.std.proofs.Math.Utf8.{encode}
use Rattle.std.proofs.lemmas.List.{take-append-drop, take_at, append_cancel_left, nil_from_length}
use Rattle.std.proofs.lemmas.Str.{chars_past_char}
use Rattle.std.proofs.lemmas.Bool.{eqb-true}
use Rattle.std.proofs.lemmas.Cmp.{nat_list_eq_equiv}
use Rattle.lists.specs.Texts.{units_of}

pub pointwise_self : (xs : List ℕ) → pointwise nat_eq xs xs ≡ true
pointwise_self xs = nat_list_eq_equiv.refl xs

-- what a test of a front says
pub behind_is : (units front : List ℕ) (r : Option (Bor (List ℕ)))
    → MatchOption r (pointwise nat_eq (take (length front) units) front ≡ false) (λ x. (pointwise nat_eq (take (length front) units) front ≡ true) × (x.now ≡ drop (length front) units) × (length x.now + length front ≡ length units))
    → MatchOption r ((rest : List ℕ) → units ≡ front ++ rest → ⊥) (λ x. units ≡ front ++ x.now)
behind_is units front None h = λ rest e.
    let front_is : take (length front) units ≡ front = ap (take (length front)) e ∙ take_at front rest (length front) refl in
    let same : pointwise nat_eq (take (length front) units) front ≡ true = ap (λ (xs : List ℕ). pointwise nat_eq xs front) front_is ∙ pointwise_self front in
    cc
behind_is units front (Some x) h =
    sym (take-append-drop (length front) units)
    ∙ ap (λ (xs : List ℕ). xs ++ drop (length front) units) (same_text (take (length front) units) front (sym h.0))
    ∙ ap (λ (xs : List ℕ). front ++ xs) (sym h.1)

-- the units of a text are those of its first character, and then those of the rest
pub units_past_char : (bytes rest : List ℕ) (c : ℕ) → IsUtf8 bytes → bytes ≡ encode c ++ rest → units_of bytes ≡ encode_utf16 c ++ units_of rest
units_past_char bytes rest c text e = ap (flat_map encode_utf16) (chars_past_char bytes rest c text e)

-- units that go on as the first character does are those of the text exactly where what is behind goes on likewise
pub goes_on : (bytes rest units after front : List ℕ) (c : ℕ) → IsUtf8 bytes → bytes ≡ encode c ++ rest → front ≡ encode_utf16 c → units ≡ front ++ after
    → (units ≡ units_of bytes) ↔ (after ≡ units_of rest)
goes_on bytes rest units after front c text e front_is units_is =
    let past : units_of bytes ≡ front ++ units_of rest = units_past_char bytes rest c text e ∙ ap (λ (xs : List ℕ). xs ++ units_of rest) (sym front_is) in
    (λ h. append_cancel_left front after (units_of rest) (sym units_is ∙ h ∙ past), λ h. units_is ∙ ap (λ (xs : List ℕ). front ++ xs) h ∙ sym past)

pub units_of-nil : (bytes : List ℕ) → length bytes ≡ 0 → units_of bytes ≡ []
unfolding chars
units_of-nil bytes e = rw (nil_from_length bytes e) refl

-- a test of a length is one of the list
pub empty_is : (xs : List ℕ) (b : Bool) → b ≡ (length xs == 0) → IsTrue b ↔ (xs ≡ [])
empty_is xs b e = (λ yes. nil_from_length xs (eqb-true (length xs) 0 (sym e ∙ yes)), λ is. e ∙ ap (λ (ys : List ℕ). length ys == 0) is)
