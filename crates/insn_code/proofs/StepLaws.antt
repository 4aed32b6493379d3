-- The steps that several operands share are exact for the fields that they read.
use Rattle.std.proofs.Common.{◌≡◌, ℕ, zero, suc, ◌<◌, Bool, true, false, eqb, eq-eqb, List, [], ◌∷◌, ◌++◌, length, Result, refl, sym, ap, subst, ◌∙◌, arith}
use Rattle.std.specs.Prelude.{◌%◌, ◌==◌}
use Rattle.std.specs.Int.{w8, w32, cast_signed}
use Rattle.std.proofs.lemmas.Bool.{eqb-true}
use Rattle.std.proofs.lemmas.List.{nil_from_length}
use Rattle.class_input.specs.declared.bad_class.BadKind.{BadKind}
use Rattle.class_input.specs.declared.bad_class.BadKind.TheVariants.{Operand}
use Rattle.class_input.specs.Reading.{Fault, Reading, ◌>>=◌, done, here, lifted, number}
use Rattle.class_input.specs.Grammar.{IsBytes, IsU8, IsU32}
use Rattle.class_input.proofs.Laws.{Then, Walk, IsAnswer, Exact, Exact-same, then_exact, mapped_exact, lifted_exact, each_exact, u8_exact, u32_exact}
use Rattle.class_names.proofs.StepLaws.{Judges, judged_exact}
use Rattle.opcode_table.specs.Fields.{padding}
use Rattle.insn_code.specs.InsnBytes.{Two, IsI32, IsPadding}
use Rattle.insn_code.specs.InsnReading.{demanded, two, signed, exactly, at_byte, any_byte, pad}

-- ---- demands

abbrev pub Holds : Bool → Unit {0} → Type 0
Holds test u = test ≡ true

pub demanded_judges : (place : ℕ) (kind : BadKind) (test : Bool) → Judges (Holds test) (demanded place kind test)
demanded_judges place kind true = record { is = λ u h. refl; again = λ u h. refl }
demanded_judges place kind false = record { is = λ u h. absurd cc; again = λ u h. absurd cc }

abbrev pub Judged : {A : Type 0} → (A → Type 0) → List ℕ → A → Type 0
Judged R text a = (text ≡ []) × R a

pub lifted_judges : {A : Type 0} (R : A → Type 0) (r : Result A Fault) → Judges R r → Exact (Judged R) (lifted r)
lifted_judges R r j = Exact-same (IsAnswer r) (Judged R) (lifted r) (λ text a h. (h.0, j.is a h.1)) (λ text a h. (h.0, j.again a h.1)) (lifted_exact r)

pub demand_exact : (place : ℕ) (kind : BadKind) (test : Bool) → Exact (Judged (Holds test)) (lifted (demanded place kind test))
demand_exact place kind test = lifted_judges (Holds test) (demanded place kind test) (demanded_judges place kind test)

-- ---- fields

pub signed_exact : Exact IsI32 signed
unfolding signed
signed_exact = mapped_exact IsU32 (number w32) (cast_signed w32) u32_exact

pub two_exact : {A B : Type 0} (R : List ℕ → A → Type 0) (S : List ℕ → B → Type 0) (r : Reading A) (s : Reading B) → Exact R r → Exact S s → Exact (Two R S) (two r s)
two_exact {A} {B} R S r s p q =
    let pair : A → B → A × B = λ x y. (x, y) in
    let Second : A → List ℕ → A × B → Type 0 = λ x text out. (y : B) × S text y × (pair x y ≡ out) in
    Exact-same (Then R Second) (Two R S) (two r s)
    (λ text out h. subst (λ (z : A × B). Two R S text z) h.5.2 (h.1, h.2, h.3, h.4, h.5.1))
    (λ text out h. (out.0, h.0, h.1, h.2, h.3, (out.1, h.4, refl)))
    (then_exact R Second r (λ x. s >>= λ y. done (pair x y)) p (λ x. mapped_exact S s (pair x) q))

pub at_byte_exact : {A : Type 0} (Names : ℕ → A → Type 0) (judge : ℕ → ℕ → Result A Fault) → ((place k : ℕ) → Judges (Names k) (judge place k)) → Exact (λ text a. (k : ℕ) × IsU8 text k × Names k a) (at_byte judge)
unfolding at_byte
at_byte_exact Names judge judges = judged_exact IsU8 (number w8) Names judge u8_exact judges

pub exactly_exact : (n : ℕ) → Exact (λ text u. IsU8 text n) (exactly n)
unfolding exactly
exactly_exact n =
    Exact-same (λ text u. (k : ℕ) × IsU8 text k × Holds (eqb k n) u) (λ text u. IsU8 text n) (here >>= λ at. number w8 >>= λ k. lifted (demanded at Operand (k == n)))
    (λ text u h. subst (λ (k : ℕ). IsU8 text k) (eqb-true h.0 n h.2) h.1)
    (λ text u h. (n, h, eq-eqb n n refl))
    (judged_exact IsU8 (number w8) (λ k. Holds (eqb k n)) (λ at k. demanded at Operand (k == n)) u8_exact (λ at k. demanded_judges at Operand (k == n)))

-- ---- padding

IsBytes-cons : (b : ℕ) (bs : List ℕ) → b < 256 → IsBytes bs → IsBytes (b ∷ bs)
IsBytes-cons b bs h g zero = h
IsBytes-cons b bs h g (suc i) = g i

IsBytes-nil : IsBytes []
IsBytes-nil i = omega arith

abbrev AnyR : Unit {0} → List ℕ → Unit {0} → Type 0
AnyR u text v = (k : ℕ) × IsU8 text k × (u ≡ v)

one_byte : (first others text : List ℕ) (k : ℕ) → text ≡ first ++ others → IsU8 first k → text ≡ k ∷ others
one_byte first others text k spelled is =
    let low : k % 256 ≡ k = omega (arith, is.0) in
    spelled ∙ ap (λ (z : List ℕ). z ++ others) is.1 ∙ ap (λ (z : ℕ). z ∷ others) low

walk_padding : (n : ℕ) (u v : Unit {0}) (text : List ℕ) → Walk AnyR n u text v → (length text ≡ n) × IsBytes text
walk_padding zero u v text h = (ap length h.0, subst (λ (z : List ℕ). IsBytes z) (sym h.0) IsBytes-nil)
walk_padding (suc n) u v text h =
    let more = walk_padding n h.0 v h.2 h.5 in
    let whole = one_byte h.1 h.2 text h.4.0 h.3 h.4.1 in
    (ap length whole ∙ ap suc more.0, subst (λ (z : List ℕ). IsBytes z) (sym whole) (IsBytes-cons h.4.0 h.2 h.4.1.0 more.1))

padding_walk : (n : ℕ) (text : List ℕ) → length text ≡ n → IsBytes text → Walk AnyR n tt text tt
padding_walk zero text len bytes = (nil_from_length text len, refl)
padding_walk (suc n) [] len bytes = absurd (omega (arith, len))
padding_walk (suc n) (b ∷ bs) len bytes =
    let byte : b < 256 = bytes 0 in
    let low : b ≡ b % 256 = omega arith in
    (tt, b ∷ [], bs, refl, (b, (byte, ap (λ (k : ℕ). k ∷ []) low), refl), padding_walk n bs (omega (arith, len)) (λ i. bytes (suc i)))

pub pad_exact : (pc : ℕ) → Exact (λ text u. IsPadding pc text) (pad pc)
pad_exact pc =
    Exact-same (Walk AnyR (padding pc) tt) (λ text u. IsPadding pc text) (pad pc)
    (λ text u h. walk_padding (padding pc) tt u text h)
    (λ text u h. padding_walk (padding pc) text h.0 h.1)
    (each_exact AnyR any_byte (λ u. mapped_exact IsU8 (number w8) (λ _. u) u8_exact) (padding pc) tt)
