-- Reading an entry is exact for what its bytes are.
use Rattle.std.proofs.Common.{◌≡◌, ◌⊎◌, inl, inr, ℕ, ◌^◌, ◌<◌, ◌≤◌, Bool, true, false, ltb, eqb, List, [], ◌∷◌, ◌++◌, length, Result, Ok, Err, refl, sym, ap, subst, ◌∙◌, lit<, arith, take, drop, length-drop}
use Rattle.std.specs.Prelude.{MatchBool, ◌%◌}
use Rattle.std.specs.Int.{w8, w16, w32, w64, to_be_bytes, from_be_bytes, cast_signed, cast_unsigned}
use Rattle.std.proofs.Math.Facts.{Fits-lt-pow, Fits-of_lt, Fits-of_z, sfits_to_z}
use Rattle.std.proofs.lemmas.Int.{to_z-of_z, of_z-to_z}
use Rattle.std.proofs.lemmas.Nat.{be_bytes_8, from_be_bytes-to_be_bytes_8}
use Rattle.std.proofs.lemmas.Bool.{eqb-true, ltb-false, le-ltb}
use Rattle.std.proofs.lemmas.List.{append-nil, length-append, length-take, take-append-drop}
use Rattle.class_input.specs.declared.bad_class.BadKind.TheVariants as bad
use Rattle.class_input.specs.Reading.{Fault, Reading, ◌>>=◌, done, refused, here, lifted, bytes, number}
use Rattle.class_input.specs.Grammar.{IsBytes, IsU8, IsU16, IsU32}
use Rattle.class_input.proofs.Laws.{IsText as IsField, Then, IsAnswer, Exact, Exact-same, refused_exact, then_exact, mapped_exact, here_exact, if_exact, lifted_exact, bytes_exact, u8_exact, u16_exact, u32_exact, IsBytes-take, IsBytes-drop}
use Rattle.modified_utf8.specs.Text.{IsText}
use Rattle.modified_utf8.specs.TextReading.{read_on}
use Rattle.modified_utf8.proofs.Texts.{text_read, read_is_text}
use Rattle.const_pool.specs.declared.entry.Entry.{Entry}
use Rattle.const_pool.specs.declared.entry.Entry.TheVariants.{Utf8, Integer, Float, Long, Double, Class, Text, Field, Method, InterfaceMethod, NameAndType, Handle, MethodType, Dynamic}
use Rattle.const_pool.specs.Pool.{tag_of, body_of, entry_bytes, InRange, HasText, slots_of}
use Rattle.const_pool.specs.PoolReading.{text_judgement, judged_text, utf8_body, integer_body, float_body, eight, long_body, double_body, one, two_numbers, two, handle_body, references, wide, body, entry}
use Rattle.const_pool.proofs.Bytes.{eight_are_bytes, eight_below, append_bytes}

-- ---- what stands behind a tag

abbrev HasUnits : List ℕ → Type 0
HasUnits text = (units : List ℕ) × IsText text units

abbrev pub fine : {A : Type 0} → A → Result A Fault
fine a = Ok a

judgement_is : (r : Result (List ℕ) ℕ) → text_judgement r ≡ fine tt → (units : List ℕ) × (r ≡ Ok units)
judgement_is (Ok units) h = (units, refl)
judgement_is (Err place) h = absurd cc

judged_units : (at : ℕ) (text : List ℕ) → judged_text at text ≡ fine tt → HasUnits text
unfolding judged_text
judged_units at text h = let r = judgement_is (read_on at 0 text) h in (r.0, read_is_text at text r.0 r.1)

units_judged : (at : ℕ) (text : List ℕ) → HasUnits text → judged_text at text ≡ fine tt
unfolding judged_text
units_judged at text h = ap text_judgement (text_read at text h.0 h.1)

abbrev JudgedR : ℕ → List ℕ → Entry → Type 0
JudgedR len text e = (t : List ℕ) × IsField len text t × HasUnits t × (Utf8 t ≡ e)

abbrev Utf8R : List ℕ → Entry → Type 0
Utf8R = Then IsU16 JudgedR

judged_exact : (len at : ℕ) → Exact (JudgedR len) (bytes len >>= λ t. lifted (judged_text at t) >>= λ _. done (Utf8 t))
judged_exact len at =
    let S : List ℕ → List ℕ → Entry → Type 0 = λ t text e. (u : Unit {0}) × IsAnswer (judged_text at t) text u × (Utf8 t ≡ e) in
    Exact-same (Then (IsField len) S) (JudgedR len) (bytes len >>= λ t. lifted (judged_text at t) >>= λ _. done (Utf8 t))
    (λ text e h.
    let whole : text ≡ h.1 = h.3 ∙ ap (λ (z : List ℕ). h.1 ++ z) h.5.1.0 ∙ append-nil h.1 in
    (h.0, subst (λ (z : List ℕ). IsField len z h.0) (sym whole) h.4, judged_units at h.0 h.5.1.1, h.5.2))
    (λ text e h. (h.0, text, [], sym (append-nil text), h.1, (tt, (refl, units_judged at h.0 h.2), h.3)))
    (then_exact (IsField len) S (bytes len) (λ t. lifted (judged_text at t) >>= λ _. done (Utf8 t)) (bytes_exact len) (λ t. mapped_exact (IsAnswer (judged_text at t)) (lifted (judged_text at t)) (λ _. Utf8 t) (lifted_exact (judged_text at t))))

utf8_exact : Exact Utf8R utf8_body
unfolding utf8_body
utf8_exact =
    then_exact IsU16 JudgedR (number w16) (λ len. here >>= λ at. bytes len >>= λ t. lifted (judged_text at t) >>= λ _. done (Utf8 t)) u16_exact
    (λ len. here_exact (JudgedR len) (λ at. bytes len >>= λ t. lifted (judged_text at t) >>= λ _. done (Utf8 t)) (judged_exact len))

abbrev IntegerR : List ℕ → Entry → Type 0
IntegerR text e = (n : ℕ) × IsU32 text n × (Integer (cast_signed w32 n) ≡ e)

integer_exact : Exact IntegerR integer_body
unfolding integer_body
integer_exact = mapped_exact IsU32 (number w32) (λ n. Integer (cast_signed w32 n)) u32_exact

abbrev FloatR : List ℕ → Entry → Type 0
FloatR text e = (bits : List ℕ) × IsField 4 text bits × (Float bits ≡ e)

float_exact : Exact FloatR float_body
unfolding float_body
float_exact = mapped_exact (IsField 4) (bytes 4) (λ bits. Float bits) (bytes_exact 4)

eight_exact : Exact (IsField 8) eight
unfolding eight
eight_exact =
    let S : List ℕ → List ℕ → List ℕ → Type 0 = λ high text x. (low : List ℕ) × IsField 4 text low × (high ++ low ≡ x) in
    Exact-same (Then (IsField 4) S) (IsField 8) (bytes 4 >>= λ high. bytes 4 >>= λ low. done (high ++ low))
    (λ text x h.
    let a = h.4 in
    let b = h.5.1 in
    let joined : text ≡ x = h.3 ∙ ap (λ (z : List ℕ). z ++ h.2) a.1 ∙ ap (λ (z : List ℕ). h.0 ++ z) b.1 ∙ h.5.2 in
    (omega (arith, ap length h.3, length-append h.1 h.2, a.0, b.0), joined, subst (λ (z : List ℕ). IsBytes z) (sym h.3) (append_bytes h.1 h.2 a.2 b.2)))
    (λ text x h.
    let high = take 4 text in
    let low = drop 4 text in
    let parts : text ≡ high ++ low = sym (take-append-drop 4 text) in
    (high, high, low, parts, (omega (arith, h.0, length-take 4 text), refl, IsBytes-take 4 text h.2), (low, (omega (arith, h.0, length-drop 4 text), refl, IsBytes-drop 4 text h.2), sym parts ∙ h.1)))
    (then_exact (IsField 4) S (bytes 4) (λ high. bytes 4 >>= λ low. done (high ++ low)) (bytes_exact 4) (λ high. mapped_exact (IsField 4) (bytes 4) (λ low. high ++ low) (bytes_exact 4)))

abbrev LongR : List ℕ → Entry → Type 0
LongR text e = (t : List ℕ) × IsField 8 text t × (Long (cast_signed w64 (from_be_bytes w64 t)) ≡ e)

long_exact : Exact LongR long_body
unfolding long_body
long_exact = mapped_exact (IsField 8) eight (λ t. Long (cast_signed w64 (from_be_bytes w64 t))) eight_exact

abbrev DoubleR : List ℕ → Entry → Type 0
DoubleR text e = (bits : List ℕ) × IsField 8 text bits × (Double bits ≡ e)

double_exact : Exact DoubleR double_body
unfolding double_body
double_exact = mapped_exact (IsField 8) eight (λ bits. Double bits) eight_exact

abbrev OneR : (ℕ → Entry) → List ℕ → Entry → Type 0
OneR f text e = (k : ℕ) × IsU16 text k × (f k ≡ e)

one_exact : (f : ℕ → Entry) → Exact (OneR f) (one f)
one_exact f = mapped_exact IsU16 (number w16) f u16_exact

abbrev pair : ℕ → ℕ → ℕ × ℕ
pair k m = (k, m)

abbrev PairR : List ℕ → ℕ × ℕ → Type 0
PairR = Then IsU16 (λ k text p. (m : ℕ) × IsU16 text m × (pair k m ≡ p))

pair_exact : Exact PairR two_numbers
unfolding two_numbers
pair_exact = then_exact IsU16 (λ k text p. (m : ℕ) × IsU16 text m × (pair k m ≡ p)) (number w16) (λ k. number w16 >>= λ m. done (pair k m)) u16_exact (λ k. mapped_exact IsU16 (number w16) (pair k) u16_exact)

abbrev TwoR : (ℕ → ℕ → Entry) → List ℕ → Entry → Type 0
TwoR f text e = (p : ℕ × ℕ) × PairR text p × (f p.0 p.1 ≡ e)

two_exact : (f : ℕ → ℕ → Entry) → Exact (TwoR f) (two f)
two_exact f = mapped_exact PairR two_numbers (λ p. f p.0 p.1) pair_exact

abbrev HandleR : List ℕ → Entry → Type 0
HandleR = Then IsU8 (λ k text e. (m : ℕ) × IsU16 text m × (Handle k m ≡ e))

handle_exact : Exact HandleR handle_body
unfolding handle_body
handle_exact = then_exact IsU8 (λ k text e. (m : ℕ) × IsU16 text m × (Handle k m ≡ e)) (number w8) (λ k. number w16 >>= λ m. done (Handle k m)) u8_exact (λ k. mapped_exact IsU16 (number w16) (Handle k) u16_exact)

abbrev Never : List ℕ → Entry → Type 0
Never text e = ⊥

never : (place tag : ℕ) → Exact Never (refused place (bad.PoolTag tag))
never place tag = refused_exact Never place (bad.PoolTag tag) (λ text x h. h)

abbrev ReferencesR : ℕ → List ℕ → Entry → Type 0
ReferencesR tag text e =
    MatchBool (eqb tag 7) (OneR Class text e) (
    MatchBool (eqb tag 8) (OneR Text text e) (
    MatchBool (eqb tag 9) (TwoR Field text e) (
    MatchBool (eqb tag 10) (TwoR Method text e) (
    MatchBool (eqb tag 11) (TwoR InterfaceMethod text e) (
    MatchBool (eqb tag 12) (TwoR NameAndType text e) (
    MatchBool (eqb tag 15) (HandleR text e) (
    MatchBool (eqb tag 16) (OneR MethodType text e) (
    MatchBool (eqb tag 18) (TwoR Dynamic text e) ⊥))))))))

references_exact : (at tag : ℕ) → Exact (ReferencesR tag) (references at tag)
unfolding references
references_exact at tag =
    let r18 = if_exact (eqb tag 18) (TwoR Dynamic) Never _ _ (two_exact Dynamic) (never at tag) in
    let r16 = if_exact (eqb tag 16) (OneR MethodType) _ _ _ (one_exact MethodType) r18 in
    let r15 = if_exact (eqb tag 15) HandleR _ _ _ handle_exact r16 in
    let r12 = if_exact (eqb tag 12) (TwoR NameAndType) _ _ _ (two_exact NameAndType) r15 in
    let r11 = if_exact (eqb tag 11) (TwoR InterfaceMethod) _ _ _ (two_exact InterfaceMethod) r12 in
    let r10 = if_exact (eqb tag 10) (TwoR Method) _ _ _ (two_exact Method) r11 in
    let r9 = if_exact (eqb tag 9) (TwoR Field) _ _ _ (two_exact Field) r10 in
    let r8 = if_exact (eqb tag 8) (OneR Text) _ _ _ (one_exact Text) r9 in
    if_exact (eqb tag 7) (OneR Class) _ _ _ (one_exact Class) r8

abbrev WideR : ℕ → (List ℕ → Entry → Type 0) → List ℕ → Entry → Type 0
WideR room R text e = MatchBool (ltb room 2) ⊥ (R text e)

wide_exact : (at room tag : ℕ) (R : List ℕ → Entry → Type 0) (r : Reading Entry) → Exact R r → Exact (WideR room R) (wide at room tag r)
wide_exact at room tag R r exact = if_exact (ltb room 2) Never R (refused at (bad.PoolTag tag)) r (never at tag) exact

abbrev BodyR : ℕ → ℕ → List ℕ → Entry → Type 0
BodyR room tag text e =
    MatchBool (eqb tag 1) (Utf8R text e) (
    MatchBool (eqb tag 3) (IntegerR text e) (
    MatchBool (eqb tag 4) (FloatR text e) (
    MatchBool (eqb tag 5) (WideR room LongR text e) (
    MatchBool (eqb tag 6) (WideR room DoubleR text e) (
    ReferencesR tag text e)))))

body_exact : (at room tag : ℕ) → Exact (BodyR room tag) (body at room tag)
unfolding body
body_exact at room tag =
    let r6 = if_exact (eqb tag 6) (WideR room DoubleR) (ReferencesR tag) _ _ (wide_exact at room 6 DoubleR double_body double_exact) (references_exact at tag) in
    let r5 = if_exact (eqb tag 5) (WideR room LongR) _ _ _ (wide_exact at room 5 LongR long_body long_exact) r6 in
    let r4 = if_exact (eqb tag 4) FloatR _ _ _ float_exact r5 in
    let r3 = if_exact (eqb tag 3) IntegerR _ _ _ integer_exact r4 in
    if_exact (eqb tag 1) Utf8R _ _ _ utf8_exact r3

-- ---- the same by the entry

-- what stands behind the tag of an entry
record IsBody (room tag : ℕ) (text : List ℕ) (e : Entry) : Type 0 where
  tag_is : tag_of e ≡ tag
  spelled : text ≡ body_of e
  in_range : InRange e
  has_text : HasText e
  fits : length (slots_of e) ≤ room

-- the text of an entry
pub record IsEntry (text : List ℕ) (e : Entry) : Type 0 where
  pub spelled : text ≡ entry_bytes e
  pub in_range : InRange e
  pub has_text : HasText e

-- an entry, where so many indices are left
pub record FitsRoom (room : ℕ) (text : List ℕ) (e : Entry) : Type 0 where
  pub stands : IsEntry text e
  pub fits : length (slots_of e) ≤ room

pub split : {P Q : Type 0} (b : Bool) → MatchBool b P Q → ((b ≡ true) × P) ⊎ ((b ≡ false) × Q)
split true h = inl (refl, h)
split false h = inr (refl, h)

one_is : (f : ℕ → Entry) (room tag : ℕ) (text : List ℕ) (e : Entry) → ((k : ℕ) → IsU16 text k → IsBody room tag text (f k)) → OneR f text e → IsBody room tag text e
one_is f room tag text e make h = subst (λ (z : Entry). IsBody room tag text z) h.2 (make h.0 h.1)

abbrev IsPair : List ℕ → ℕ → ℕ → Type 0
IsPair text k m = (text ≡ to_be_bytes w16 k ++ to_be_bytes w16 m) × (k < 2 ^ 16) × (m < 2 ^ 16)

two_is : (f : ℕ → ℕ → Entry) (room tag : ℕ) (text : List ℕ) (e : Entry) → ((k m : ℕ) → IsPair text k m → IsBody room tag text (f k m)) → TwoR f text e → IsBody room tag text e
two_is f room tag text e make h =
    let p = h.1 in
    let k = p.0 in
    let m = p.5.0 in
    let spelled : text ≡ to_be_bytes w16 k ++ to_be_bytes w16 m = p.3 ∙ ap (λ (z : List ℕ). z ++ p.2) p.4.1 ∙ ap (λ (z : List ℕ). to_be_bytes w16 k ++ z) p.5.1.1 in
    let same : f k m ≡ e = ap (λ (q : ℕ × ℕ). f q.0 q.1) p.5.2 ∙ h.2 in
    subst (λ (z : Entry). IsBody room tag text z) same (make k m (spelled, p.4.0, p.5.1.0))

handle_is : (room : ℕ) (text : List ℕ) (e : Entry) → 1 ≤ room → HandleR text e → IsBody room 15 text e
handle_is room text e some h =
    let k = h.0 in
    let m = h.5.0 in
    let spelled : text ≡ to_be_bytes w8 k ++ to_be_bytes w16 m = h.3 ∙ ap (λ (z : List ℕ). z ++ h.2) h.4.1 ∙ ap (λ (z : List ℕ). to_be_bytes w8 k ++ z) h.5.1.1 in
    subst (λ (z : Entry). IsBody room 15 text z) h.5.2 (record { tag_is = refl; spelled = spelled; in_range = (h.4.0, h.5.1.0); has_text = tt; fits = some })

utf8_is : (room : ℕ) (text : List ℕ) (e : Entry) → 1 ≤ room → Utf8R text e → IsBody room 1 text e
utf8_is room text e some h =
    let len = h.0 in
    let t = h.5.0 in
    let field = h.5.1 in
    let long : len ≡ length t = sym field.0 ∙ ap length field.1 in
    let count : h.1 ≡ to_be_bytes w16 (length t) = h.4.1 ∙ ap (to_be_bytes w16) long in
    subst (λ (z : Entry). IsBody room 1 text z) h.5.3 (record {
      tag_is = refl;
      spelled = h.3 ∙ ap (λ (z : List ℕ). z ++ h.2) count ∙ ap (λ (z : List ℕ). to_be_bytes w16 (length t) ++ z) field.1;
      in_range = subst (λ (z : List ℕ). IsBytes z) field.1 field.2;
      has_text = (subst (λ (k : ℕ). k < 2 ^ 16) long h.4.0, h.5.2);
      fits = some;
    })

integer_is : (room : ℕ) (text : List ℕ) (e : Entry) → 1 ≤ room → IntegerR text e → IsBody room 3 text e
integer_is room text e some h =
    let n = h.0 in
    subst (λ (z : Entry). IsBody room 3 text z) h.2 (record {
      tag_is = refl;
      spelled = h.1.1 ∙ ap (to_be_bytes w32) (sym (of_z-to_z w32 n h.1.0));
      in_range = sfits_to_z {w = w32} {n = n} (Fits-of_lt {w = w32} {n = n} h.1.0);
      has_text = tt;
      fits = some;
    })

float_is : (room : ℕ) (text : List ℕ) (e : Entry) → 1 ≤ room → FloatR text e → IsBody room 4 text e
float_is room text e some h =
    subst (λ (z : Entry). IsBody room 4 text z) (ap (λ (z : List ℕ). Float z) h.1.1 ∙ h.2) (record { tag_is = refl; spelled = refl; in_range = (h.1.0, h.1.2); has_text = tt; fits = some })

long_is : (room : ℕ) (text : List ℕ) (e : Entry) → WideR room LongR text e → IsBody room 5 text e
long_is room text e h =
    elim (split (ltb room 2) h) [
      | inl b ↦ absurd b.1
      | inr b ↦
          let g = b.1 in
          let n = from_be_bytes w64 text in
          let below : n < 2 ^ 64 = eight_below text g.1.2 in
          let same : Long (cast_signed w64 n) ≡ e = ap (λ (z : List ℕ). Long (cast_signed w64 (from_be_bytes w64 z))) g.1.1 ∙ g.2 in
          let back : to_be_bytes w64 n ≡ text = be_bytes_8 text n g.1.0 g.1.2 refl in
          subst (λ (z : Entry). IsBody room 5 text z) same (record {
            tag_is = refl;
            spelled = sym back ∙ ap (to_be_bytes w64) (sym (of_z-to_z w64 n below));
            in_range = sfits_to_z {w = w64} {n = n} (Fits-of_lt {w = w64} {n = n} below);
            has_text = tt;
            fits = ltb-false _ _ b.0;
          })
    ]

double_is : (room : ℕ) (text : List ℕ) (e : Entry) → WideR room DoubleR text e → IsBody room 6 text e
double_is room text e h =
    elim (split (ltb room 2) h) [
      | inl b ↦ absurd b.1
      | inr b ↦
          let g = b.1 in
          subst (λ (z : Entry). IsBody room 6 text z) (ap (λ (z : List ℕ). Double z) g.1.1 ∙ g.2) (record { tag_is = refl; spelled = refl; in_range = (g.1.0, g.1.2); has_text = tt; fits = ltb-false _ _ b.0 })
    ]

-- the tag of a body by the test that was true
of_tag : (room tag n : ℕ) (text : List ℕ) (e : Entry) → eqb tag n ≡ true → IsBody room n text e → IsBody room tag text e
of_tag room tag n text e is b = record { tag_is = b.tag_is ∙ sym (eqb-true tag n is); spelled = b.spelled; in_range = b.in_range; has_text = b.has_text; fits = b.fits }

references_is : (room tag : ℕ) (text : List ℕ) (e : Entry) → 1 ≤ room → ReferencesR tag text e → IsBody room tag text e
references_is room tag text e some h =
    elim (split (eqb tag 7) h) [
      | inl a ↦ of_tag room tag 7 text e a.0 (one_is Class room 7 text e (λ k is. record { tag_is = refl; spelled = is.1; in_range = is.0; has_text = tt; fits = some }) a.1)
      | inr h ↦ elim (split (eqb tag 8) h.1) [
        | inl a ↦ of_tag room tag 8 text e a.0 (one_is Text room 8 text e (λ k is. record { tag_is = refl; spelled = is.1; in_range = is.0; has_text = tt; fits = some }) a.1)
        | inr h ↦ elim (split (eqb tag 9) h.1) [
          | inl a ↦ of_tag room tag 9 text e a.0 (two_is Field room 9 text e (λ k m is. record { tag_is = refl; spelled = is.0; in_range = (is.1, is.2); has_text = tt; fits = some }) a.1)
          | inr h ↦ elim (split (eqb tag 10) h.1) [
            | inl a ↦ of_tag room tag 10 text e a.0 (two_is Method room 10 text e (λ k m is. record { tag_is = refl; spelled = is.0; in_range = (is.1, is.2); has_text = tt; fits = some }) a.1)
            | inr h ↦ elim (split (eqb tag 11) h.1) [
              | inl a ↦ of_tag room tag 11 text e a.0 (two_is InterfaceMethod room 11 text e (λ k m is. record { tag_is = refl; spelled = is.0; in_range = (is.1, is.2); has_text = tt; fits = some }) a.1)
              | inr h ↦ elim (split (eqb tag 12) h.1) [
                | inl a ↦ of_tag room tag 12 text e a.0 (two_is NameAndType room 12 text e (λ k m is. record { tag_is = refl; spelled = is.0; in_range = (is.1, is.2); has_text = tt; fits = some }) a.1)
                | inr h ↦ elim (split (eqb tag 15) h.1) [
                  | inl a ↦ of_tag room tag 15 text e a.0 (handle_is room text e some a.1)
                  | inr h ↦ elim (split (eqb tag 16) h.1) [
                    | inl a ↦ of_tag room tag 16 text e a.0 (one_is MethodType room 16 text e (λ k is. record { tag_is = refl; spelled = is.1; in_range = is.0; has_text = tt; fits = some }) a.1)
                    | inr h ↦ elim (split (eqb tag 18) h.1) [
                      | inl a ↦ of_tag room tag 18 text e a.0 (two_is Dynamic room 18 text e (λ k m is. record { tag_is = refl; spelled = is.0; in_range = (is.1, is.2); has_text = tt; fits = some }) a.1)
                      | inr h ↦ absurd h.1
                    ]
                  ]
                ]
              ]
            ]
          ]
        ]
      ]
    ]

body_is : (room tag : ℕ) (text : List ℕ) (e : Entry) → 1 ≤ room → BodyR room tag text e → IsBody room tag text e
body_is room tag text e some h =
    elim (split (eqb tag 1) h) [
      | inl a ↦ of_tag room tag 1 text e a.0 (utf8_is room text e some a.1)
      | inr h ↦ elim (split (eqb tag 3) h.1) [
        | inl a ↦ of_tag room tag 3 text e a.0 (integer_is room text e some a.1)
        | inr h ↦ elim (split (eqb tag 4) h.1) [
          | inl a ↦ of_tag room tag 4 text e a.0 (float_is room text e some a.1)
          | inr h ↦ elim (split (eqb tag 5) h.1) [
            | inl a ↦ of_tag room tag 5 text e a.0 (long_is room text e a.1)
            | inr h ↦ elim (split (eqb tag 6) h.1) [
              | inl a ↦ of_tag room tag 6 text e a.0 (double_is room text e a.1)
              | inr h ↦ references_is room tag text e some h.1
            ]
          ]
        ]
      ]
    ]

is_two : (f : ℕ → ℕ → Entry) (text : List ℕ) (k m : ℕ) → IsPair text k m → TwoR f text (f k m)
is_two f text k m h = (pair k m, (k, to_be_bytes w16 k, to_be_bytes w16 m, h.0, (h.1, refl), (m, (h.2, refl), refl)), refl)

is_body : (room : ℕ) (text : List ℕ) (e : Entry) → text ≡ body_of e → InRange e → HasText e → length (slots_of e) ≤ room → BodyR room (tag_of e) text e
is_body room text (Utf8 t) is low has fits = (length t, to_be_bytes w16 (length t), t, is, (has.0, refl), (t, (refl, refl, low), has.1, refl))
is_body room text (Integer n) is low has fits = (cast_unsigned w32 n, (Fits-lt-pow {w = w32} {n = cast_unsigned w32 n} (Fits-of_z {w = w32} {z = n} low), is), ap (λ (z : _). Integer z) (to_z-of_z w32 n low))
is_body room text (Float bits) is low has fits = (text, (ap length is ∙ low.0, refl, subst (λ (z : List ℕ). IsBytes z) (sym is) low.1), ap (λ (z : List ℕ). Float z) is)
is_body room text (Long n) is low has fits =
    let room_left : ltb room 2 ≡ false = le-ltb _ _ fits in
    let u = cast_unsigned w64 n in
    let below : u < 2 ^ 64 = Fits-lt-pow {w = w64} {n = u} (Fits-of_z {w = w64} {z = n} low) in
    let value : cast_signed w64 (from_be_bytes w64 text) ≡ n = ap (λ (z : List ℕ). cast_signed w64 (from_be_bytes w64 z)) is ∙ ap (cast_signed w64) (from_be_bytes-to_be_bytes_8 u below) ∙ to_z-of_z w64 n low in
    rw room_left (text, (ap length is, refl, subst (λ (z : List ℕ). IsBytes z) (sym is) (eight_are_bytes u)), ap (λ (z : _). Long z) value)
is_body room text (Double bits) is low has fits =
    let room_left : ltb room 2 ≡ false = le-ltb _ _ fits in
    rw room_left (text, (ap length is ∙ low.0, refl, subst (λ (z : List ℕ). IsBytes z) (sym is) low.1), ap (λ (z : List ℕ). Double z) is)
is_body room text (Class k) is low has fits = (k, (low, is), refl)
is_body room text (Text k) is low has fits = (k, (low, is), refl)
is_body room text (Field k m) is low has fits = is_two Field text k m (is, low.0, low.1)
is_body room text (Method k m) is low has fits = is_two Method text k m (is, low.0, low.1)
is_body room text (InterfaceMethod k m) is low has fits = is_two InterfaceMethod text k m (is, low.0, low.1)
is_body room text (NameAndType k m) is low has fits = is_two NameAndType text k m (is, low.0, low.1)
is_body room text (Handle k m) is low has fits = (k, to_be_bytes w8 k, to_be_bytes w16 m, is, (low.0, refl), (m, (low.1, refl), refl))
is_body room text (MethodType k) is low has fits = (k, (low, is), refl)
is_body room text (Dynamic k m) is low has fits = is_two Dynamic text k m (is, low.0, low.1)

tag_is_byte : (e : Entry) → IsU8 (tag_of e ∷ []) (tag_of e)
tag_is_byte (Utf8 t) = (lit< tt, refl)
tag_is_byte (Integer n) = (lit< tt, refl)
tag_is_byte (Float n) = (lit< tt, refl)
tag_is_byte (Long n) = (lit< tt, refl)
tag_is_byte (Double n) = (lit< tt, refl)
tag_is_byte (Class k) = (lit< tt, refl)
tag_is_byte (Text k) = (lit< tt, refl)
tag_is_byte (Field k m) = (lit< tt, refl)
tag_is_byte (Method k m) = (lit< tt, refl)
tag_is_byte (InterfaceMethod k m) = (lit< tt, refl)
tag_is_byte (NameAndType k m) = (lit< tt, refl)
tag_is_byte (Handle k m) = (lit< tt, refl)
tag_is_byte (MethodType k) = (lit< tt, refl)
tag_is_byte (Dynamic k m) = (lit< tt, refl)

pub entry_exact : (room : ℕ) → 1 ≤ room → Exact (FitsRoom room) (entry room)
unfolding entry
entry_exact room some =
    Exact-same (Then IsU8 (BodyR room)) (FitsRoom room) (here >>= λ at. number w8 >>= λ tag. body at room tag)
    (λ text e h.
    let b = body_is room h.0 h.2 e some h.5 in
    let low : h.0 % 256 ≡ h.0 = omega (arith, h.4.0) in
    let spelled : text ≡ entry_bytes e = h.3 ∙ ap (λ (z : List ℕ). z ++ h.2) h.4.1 ∙ ap (λ (k : ℕ). k ∷ h.2) (low ∙ sym b.tag_is) ∙ ap (λ (z : List ℕ). tag_of e ∷ z) b.spelled in
    record { stands = record { spelled = spelled; in_range = b.in_range; has_text = b.has_text }; fits = b.fits })
    (λ text e h. let is = h.stands in (tag_of e, tag_of e ∷ [], body_of e, is.spelled, tag_is_byte e, is_body room (body_of e) e refl is.in_range is.has_text h.fits))
    (here_exact (Then IsU8 (BodyR room)) (λ at. number w8 >>= λ tag. body at room tag) (λ at. then_exact IsU8 (BodyR room) (number w8) (body at room) u8_exact (body_exact at room)))
