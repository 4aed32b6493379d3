-- Reading a text unit by unit, and what is read is the text.
use Rattle.std.proofs.Common.{◌≡◌, ◌≢◌, ℕ, zero, suc, ◌+◌, ◌-◌, ◌^◌, ◌<◌, ◌≤◌, Bool, true, false, ltb, List, [], ◌∷◌, ◌++◌, length, drop, Option, Some, None, Result, Ok, Err, refl, sym, ap, subst, ◌∙◌, arith, append_assoc, add-zero}
use Rattle.std.specs.Prelude.{◌&&◌}
use Rattle.std.proofs.lemmas.Bool.{ltb-false, ltb-true, and_parts}
use Rattle.std.proofs.lemmas.List.{append-nil, length-append}
use Rattle.std.proofs.lemmas.List.Concat.{flat_map-append}
use Rattle.std.proofs.lemmas.List.Elements.{All-push, All-nil, All-cons, All-head, All-tail}
use Rattle.modified_utf8.specs.Text.{unit_bytes, text_bytes, AreUnits, IsText, IsWrongAt, BeginsWithNone}
use Rattle.std.specs.List.{list_all}
use Rattle.modified_utf8.specs.TextReading.{is_plain, first_unit, behind, unit_then, read_on, read_text}
use Rattle.modified_utf8.proofs.Units.{bytes_one, bytes_two, bytes_three, again_one, again_two, again_three, unit_is, none_read}

-- ---- a loop over the units

-- bytes that are the text of these units with something behind it
pub record IsRead (bytes units rest : List ℕ) : Type 0 where
  pub in_range : AreUnits units
  pub parts : bytes ≡ text_bytes units ++ rest

pub read_none : (bytes : List ℕ) → IsRead bytes [] bytes
read_none bytes = record { in_range = All-nil _; parts = refl }

pub read_more : (bytes units rest : List ℕ) (u : ℕ) (after : List ℕ) → IsRead bytes units rest → u < 2 ^ 16 → rest ≡ unit_bytes u ++ after → IsRead bytes (units ++ u ∷ []) after
read_more bytes units rest u after r low is =
    let last : text_bytes (u ∷ []) ≡ unit_bytes u = append-nil (unit_bytes u) in
    let longer : text_bytes (units ++ u ∷ []) ≡ text_bytes units ++ unit_bytes u = flat_map-append unit_bytes units (u ∷ []) ∙ ap (λ (z : List ℕ). text_bytes units ++ z) last in
    record {
      in_range = All-push (λ u. u < 2 ^ 16) units u r.in_range low;
      parts = r.parts ∙ ap (λ (z : List ℕ). text_bytes units ++ z) is ∙ sym (append_assoc (text_bytes units) (unit_bytes u) after) ∙ ap (λ (z : List ℕ). z ++ after) (sym longer);
    }

pub read_all : (bytes units rest : List ℕ) → IsRead bytes units rest → rest ≡ [] → IsText bytes units
read_all bytes units rest r none = record { in_range = r.in_range; spelled = r.parts ∙ ap (λ (z : List ℕ). text_bytes units ++ z) none ∙ append-nil (text_bytes units) }

pub read_wrong : (bytes units rest : List ℕ) → IsRead bytes units rest → rest ≢ [] → BeginsWithNone rest → IsWrongAt bytes (length bytes - length rest)
read_wrong bytes units rest r some none = record {
  units = units;
  rest = rest;
  in_range = r.in_range;
  parts = r.parts;
  stands = omega (arith, ap length r.parts, length-append (text_bytes units) rest);
  some = some;
  wrong = none;
}

pub read_within : (bytes units rest : List ℕ) → IsRead bytes units rest → length rest ≤ length bytes
read_within bytes units rest r = omega (arith, ap length r.parts, length-append (text_bytes units) rest)

-- ---- the reading of a text

unit_read : (at u : ℕ) (rest : List ℕ) → u < 2 ^ 16 → read_on at 0 (unit_bytes u ++ rest) ≡ behind u (read_on (at + length (unit_bytes u)) 0 rest)
unfolding read_on
unit_read at u rest low = by (ltb 0 u && ltb u 128) refl (ltb u 2048) refl
  where
    by : (a : Bool) → ltb 0 u && ltb u 128 ≡ a → (b : Bool) → ltb u 2048 ≡ b → read_on at 0 (unit_bytes u ++ rest) ≡ behind u (read_on (at + length (unit_bytes u)) 0 rest)
    by true e b f = let p = and_parts (ltb 0 u) (ltb u 128) e in rw (bytes_one u (ltb-true 0 u p.0) (ltb-true u 128 p.1), again_one u rest e) refl
    by false e true f =
        let lt = ltb-true u 2048 f in
        let two : at + 2 ≡ at + 1 + 1 = omega arith in
        rw (bytes_two u e lt, again_two u rest e lt, two) refl
    by false e false f =
        let le = ltb-false u 2048 f in
        let three : at + 3 ≡ at + 1 + 1 + 1 = omega arith in
        rw (bytes_three u le, again_three u rest le low, three) refl

abbrev prefix : List ℕ → Result (List ℕ) ℕ → Result (List ℕ) ℕ
prefix [] r = r
prefix (u ∷ us) r = behind u (prefix us r)

units_read : (us : List ℕ) (at : ℕ) (rest : List ℕ) → AreUnits us → read_on at 0 (text_bytes us ++ rest) ≡ prefix us (read_on (at + length (text_bytes us)) 0 rest)
units_read [] at rest all = ap (λ (k : ℕ). read_on k 0 rest) (sym (add-zero at))
units_read (u ∷ us) at rest all =
    let n = length (unit_bytes u) in
    let one = unit_read at u (text_bytes us ++ rest) (All-head (λ u. u < 2 ^ 16) u us all) in
    let more = units_read us (at + n) rest (All-tail (λ u. u < 2 ^ 16) u us all) in
    let parts : text_bytes (u ∷ us) ++ rest ≡ unit_bytes u ++ (text_bytes us ++ rest) = append_assoc (unit_bytes u) (text_bytes us) rest in
    let long : at + n + length (text_bytes us) ≡ at + length (text_bytes (u ∷ us)) = omega (arith, length-append (unit_bytes u) (text_bytes us)) in
    ap (read_on at 0) parts ∙ one ∙ ap (behind u) (more ∙ ap (λ (k : ℕ). prefix us (read_on k 0 rest)) long)

prefix_ok : (us vs : List ℕ) → prefix us (Ok vs) ≡ Ok (us ++ vs)
prefix_ok [] vs = refl
prefix_ok (u ∷ us) vs = ap (behind u) (prefix_ok us vs)

prefix_err : (us : List ℕ) (place : ℕ) → prefix us (Err place) ≡ Err place
prefix_err [] place = refl
prefix_err (u ∷ us) place = ap (behind u) (prefix_err us place)

abbrev pub all_read : List ℕ → Result (List ℕ) ℕ
all_read us = Ok us

abbrev pub wrong_read : ℕ → Result (List ℕ) ℕ
wrong_read place = Err place

-- a text is read as its units
pub text_read : (at : ℕ) (bytes us : List ℕ) → IsText bytes us → read_on at 0 bytes ≡ all_read us
unfolding read_on
text_read at bytes us is =
    let ends : bytes ≡ text_bytes us ++ [] = is.spelled ∙ sym (append-nil (text_bytes us)) in
    ap (read_on at 0) ends ∙ units_read us at [] is.in_range ∙ prefix_ok us [] ∙ ap all_read (append-nil us)

rest_wrong : (at : ℕ) (rest : List ℕ) → rest ≢ [] → BeginsWithNone rest → read_on at 0 rest ≡ wrong_read at
unfolding read_on
rest_wrong at [] some none = absurd (some refl)
rest_wrong at (b ∷ bs) some none = rw (none_read (b ∷ bs) none) refl

-- and what is no text up to its first wrong character
pub wrong_is_read : (at : ℕ) (bytes : List ℕ) (place : ℕ) → IsWrongAt bytes place → read_on at 0 bytes ≡ wrong_read (at + place)
wrong_is_read at bytes place is =
    let k = length (text_bytes is.units) in
    ap (read_on at 0) is.parts ∙ units_read is.units at is.rest is.in_range ∙ ap (prefix is.units) (rest_wrong (at + k) is.rest is.some is.wrong) ∙ prefix_err is.units (at + k) ∙ ap (λ (j : ℕ). wrong_read (at + j)) (sym is.stands)

behind_is : (u : ℕ) (r : Result (List ℕ) ℕ) (us : List ℕ) → behind u r ≡ all_read us → (vs : List ℕ) × (r ≡ all_read vs) × (u ∷ vs ≡ us)
behind_is u (Ok vs) us h = (vs, refl, cc)
behind_is u (Err place) us h = absurd cc

unit_and_rest : (at b : ℕ) (bs us : List ℕ) → ((left : ℕ) (vs : List ℕ) → read_on (at + 1) left bs ≡ all_read vs → IsText (drop left bs) vs)
    → (r : Option (ℕ × ℕ)) → first_unit (b ∷ bs) ≡ r → unit_then at r (λ left. read_on (at + 1) left bs) ≡ all_read us → IsText (b ∷ bs) us
unit_and_rest at b bs us rest None is h = absurd cc
unit_and_rest at b bs us rest (Some (u, n)) is h =
    let begins = unit_is (b ∷ bs) u n is in
    let p = behind_is u (read_on (at + 1) (n - 1) bs) us h in
    let t = rest (n - 1) p.0 p.1 in
    let count : n ≡ suc (n - 1) = omega (arith, begins.some) in
    let left : drop n (b ∷ bs) ≡ drop (n - 1) bs = ap (λ (k : ℕ). drop k (b ∷ bs)) count in
    let made : IsText (b ∷ bs) (u ∷ p.0) = record {
      in_range = All-cons (λ u. u < 2 ^ 16) u p.0 begins.in_range t.in_range;
      spelled = begins.parts ∙ ap (λ (z : List ℕ). unit_bytes u ++ z) (left ∙ t.spelled);
    } in
    subst (λ (z : List ℕ). IsText (b ∷ bs) z) p.2 made

reads_text : (bytes : List ℕ) (at left : ℕ) (us : List ℕ) → read_on at left bytes ≡ all_read us → IsText (drop left bytes) us
unfolding read_on
reads_text [] at zero us h = let none : [] ≡ us = cc in subst (λ (z : List ℕ). IsText [] z) none (record { in_range = All-nil _; spelled = refl })
reads_text [] at (suc left) us h = let none : [] ≡ us = cc in subst (λ (z : List ℕ). IsText [] z) none (record { in_range = All-nil _; spelled = refl })
reads_text (b ∷ bs) at (suc left) us h = reads_text bs (at + 1) left us h
reads_text (b ∷ bs) at zero us h = unit_and_rest at b bs us (λ left vs g. reads_text bs (at + 1) left vs g) (first_unit (b ∷ bs)) refl h

-- what is read as units is their text
pub read_is_text : (at : ℕ) (bytes us : List ℕ) → read_on at 0 bytes ≡ all_read us → IsText bytes us
read_is_text at bytes us h = reads_text bytes at 0 us h

-- a text has one list of units
pub text_once : (bytes us vs : List ℕ) → IsText bytes us → IsText bytes vs → us ≡ vs
text_once bytes us vs a b =
    let p : all_read us ≡ all_read vs = sym (text_read 0 bytes us a) ∙ text_read 0 bytes vs b in
    cc

-- and no wrong character
pub text_not_wrong : (bytes us : List ℕ) (place : ℕ) → IsText bytes us → IsWrongAt bytes place → ⊥
text_not_wrong bytes us place a b =
    let p : all_read us ≡ wrong_read (0 + place) = sym (text_read 0 bytes us a) ∙ wrong_is_read 0 bytes place b in
    absurd cc

-- ---- texts whose bytes are their units

pub plain_text : (bytes : List ℕ) → list_all is_plain bytes ≡ true → IsText bytes bytes
plain_text [] h = record { in_range = All-nil _; spelled = refl }
plain_text (b ∷ bs) h =
    let p = and_parts (is_plain b) (list_all is_plain bs) h in
    let q = and_parts (ltb 0 b) (ltb b 128) p.0 in
    let low = ltb-true b 128 q.1 in
    let more = plain_text bs p.1 in
    record {
      in_range = All-cons (λ u. u < 2 ^ 16) b bs (omega (arith, low)) more.in_range;
      spelled = ap (λ (z : List ℕ). b ∷ z) more.spelled ∙ ap (λ (z : List ℕ). z ++ text_bytes bs) (sym (bytes_one b (ltb-true 0 b q.0) low));
    }

pub plain_once : (bytes us : List ℕ) → list_all is_plain bytes ≡ true → IsText bytes us → bytes ≡ us
plain_once bytes us h is = text_once bytes bytes us (plain_text bytes h) is

pub plain_read : (bytes : List ℕ) → list_all is_plain bytes ≡ true → read_text 0 bytes ≡ all_read bytes
plain_read bytes h = text_read 0 bytes bytes (plain_text bytes h)
