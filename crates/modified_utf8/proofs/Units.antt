-- The bytes of a unit are those that are read for it, and no others.
use Rattle.std.proofs.Common.{◌≡◌, ◌⊎◌, inl, inr, ℕ, ◌+◌, ◌^◌, ◌<◌, ◌≤◌, Bool, true, false, cond, ltb, leb, eqb, List, [], ◌∷◌, ◌++◌, length, drop, Option, Some, None, refl, sym, ap, subst, ◌∙◌, arith, lit≤}
use Rattle.std.specs.Prelude.{◌/◌, ◌%◌, ◌&&◌, ◌||◌}
use Rattle.std.proofs.lemmas.Bool.{leb-true, le-leb, ltb-false, ltb-true, le-ltb, lt-ltb, and_parts}
use Rattle.std.proofs.lemmas.Bool.Decides.{nat_tests}
use Rattle.modified_utf8.specs.Text.{unit_bytes}
use Rattle.modified_utf8.specs.TextReading.{is_later, value_two, value_three, two, three, first_unit}

pub bytes_one : (u : ℕ) → 0 < u → u < 128 → unit_bytes u ≡ u ∷ []
bytes_one u some low = let a : ltb 0 u ≡ true = lt-ltb 0 u some in let b : ltb u 128 ≡ true = lt-ltb u 128 low in rw (a, b) refl

pub bytes_two : (u : ℕ) → ltb 0 u && ltb u 128 ≡ false → u < 2048 → unit_bytes u ≡ (192 + u / 64) ∷ (128 + u % 64) ∷ []
bytes_two u a low = let b : ltb u 2048 ≡ true = lt-ltb u 2048 low in rw (a, b) refl

pub bytes_three : (u : ℕ) → 2048 ≤ u → unit_bytes u ≡ (224 + u / 4096) ∷ (128 + u / 64 % 64) ∷ (128 + u % 64) ∷ []
bytes_three u high =
    let a : ltb 0 u ≡ true = lt-ltb 0 u (omega arith) in
    let b : ltb u 128 ≡ false = le-ltb u 128 (omega arith) in
    let c : ltb u 2048 ≡ false = le-ltb u 2048 high in
    rw (a, b, c) refl

-- a text that begins with the bytes of a unit
pub record Begins (bytes : List ℕ) (u n : ℕ) : Type 0 where
  pub in_range : u < 2 ^ 16
  pub parts : bytes ≡ unit_bytes u ++ drop n bytes
  pub long : n ≡ length (unit_bytes u)
  pub some : 1 ≤ n
  pub within : n ≤ length bytes

chosen : {A : Type 0} (b : Bool) (x y z : A) → cond b x y ≡ z → ((b ≡ true) × (x ≡ z)) ⊎ ((b ≡ false) × (y ≡ z))
chosen true x y z h = inl (refl, h)
chosen false x y z h = inr (refl, h)

later_is : (c : ℕ) → is_later c ≡ true → (128 ≤ c) × (c < 192)
later_is c h = let p = and_parts (leb 128 c) (ltb c 192) h in (leb-true _ _ p.0, ltb-true _ _ p.1)

abbrev pub pair : ℕ → ℕ → ℕ × ℕ
pair u n = (u, n)

abbrev pub unit_of : ℕ → ℕ → Option (ℕ × ℕ)
unit_of u n = Some (pair u n)

pair_is : (u n v m : ℕ) → unit_of u n ≡ unit_of v m → (u ≡ v) × (n ≡ m)
pair_is u n v m h = let p : pair u n ≡ pair v m = cc in (ap (λ (x : ℕ × ℕ). x.0) p, ap (λ (x : ℕ × ℕ). x.1) p)

one_is : (b : ℕ) (bs : List ℕ) (u n : ℕ) → 0 < b → b < 128 → unit_of b 1 ≡ unit_of u n → Begins (b ∷ bs) u n
one_is b bs u n h1 h2 h =
    let p = pair_is b 1 u n h in
    let made : Begins (b ∷ bs) b 1 = record { in_range = omega arith; parts = rw (bytes_one b h1 h2) refl; long = rw (bytes_one b h1 h2) refl; some = lit≤ tt; within = omega arith } in
    rw (← p.0, ← p.1) made

-- a value of two bytes, and its bytes again
two_low : (b c : ℕ) → 192 ≤ b → b < 224 → 128 ≤ c → c < 192 → (192 + value_two b c / 64 ≡ b) × (128 + value_two b c % 64 ≡ c) × (value_two b c < 2048)
two_low b c h1 h2 h3 h4 = (omega arith, omega arith, omega arith)

three_low : (b c d : ℕ) → 224 ≤ b → b < 240 → 128 ≤ c → c < 192 → 128 ≤ d → d < 192 → (224 + value_three b c d / 4096 ≡ b) × (128 + value_three b c d / 64 % 64 ≡ c) × (128 + value_three b c d % 64 ≡ d) × (value_three b c d < 2 ^ 16)
three_low b c d h1 h2 h3 h4 h5 h6 = (omega arith, omega arith, omega arith, omega arith)

-- what has no shorter form is not one byte
not_one : (u : ℕ) → eqb u 0 || leb 128 u ≡ true → ltb 0 u && ltb u 128 ≡ false
not_one u h = grind (arith, nat_tests)

is_not_one : (u : ℕ) → ltb 0 u && ltb u 128 ≡ false → eqb u 0 || leb 128 u ≡ true
is_not_one u h = grind (arith, nat_tests)

absent : {A : Type 0} (b : Bool) (x y : A) → cond b (Some x) None ≡ Some y → (b ≡ true) × (Some x ≡ Some y)
absent true x y h = (refl, h)
absent false x y h = absurd cc

two_is : (b : ℕ) (bs : List ℕ) (u n : ℕ) → 192 ≤ b → b < 224 → two b bs ≡ Some (u, n) → Begins (b ∷ bs) u n
two_is b [] u n h1 h2 h = absurd cc
two_is b (c ∷ cs) u n h1 h2 h =
    let v = value_two b c in
    let t = absent (is_later c && (eqb v 0 || leb 128 v)) (v, 2) (u, n) h in
    let q = and_parts (is_later c) (eqb v 0 || leb 128 v) t.0 in
    let l = later_is c q.0 in
    let w = two_low b c h1 h2 l.0 l.1 in
    let is : unit_bytes v ≡ b ∷ c ∷ [] = bytes_two v (not_one v q.1) w.2 ∙ rw (w.0, w.1) refl in
    let made : Begins (b ∷ c ∷ cs) v 2 = record { in_range = omega (arith, w.2); parts = rw is refl; long = rw is refl; some = lit≤ tt; within = omega arith } in
    let p = pair_is v 2 u n t.1 in
    subst (λ (m : ℕ). Begins (b ∷ c ∷ cs) u m) p.1 (subst (λ (k : ℕ). Begins (b ∷ c ∷ cs) k 2) p.0 made)

three_is : (b : ℕ) (bs : List ℕ) (u n : ℕ) → 224 ≤ b → b < 240 → three b bs ≡ Some (u, n) → Begins (b ∷ bs) u n
three_is b [] u n h1 h2 h = absurd cc
three_is b (c ∷ []) u n h1 h2 h = absurd cc
three_is b (c ∷ d ∷ ds) u n h1 h2 h =
    let v = value_three b c d in
    let t = absent (is_later c && is_later d && leb 2048 v) (v, 3) (u, n) h in
    let q = and_parts (is_later c && is_later d) (leb 2048 v) t.0 in
    let r = and_parts (is_later c) (is_later d) q.0 in
    let l = later_is c r.0 in
    let m = later_is d r.1 in
    let w = three_low b c d h1 h2 l.0 l.1 m.0 m.1 in
    let is : unit_bytes v ≡ b ∷ c ∷ d ∷ [] = bytes_three v (leb-true 2048 v q.1) ∙ rw (w.0, w.1, w.2) refl in
    let made : Begins (b ∷ c ∷ d ∷ ds) v 3 = record { in_range = w.3; parts = rw is refl; long = rw is refl; some = lit≤ tt; within = omega arith } in
    let p = pair_is v 3 u n t.1 in
    subst (λ (k : ℕ). Begins (b ∷ c ∷ d ∷ ds) u k) p.1 (subst (λ (k : ℕ). Begins (b ∷ c ∷ d ∷ ds) k 3) p.0 made)

pub unit_is : (bytes : List ℕ) (u n : ℕ) → first_unit bytes ≡ unit_of u n → Begins bytes u n
unfolding first_unit
unit_is [] u n h = absurd cc
unit_is (b ∷ bs) u n h =
    elim (chosen (ltb 0 b && ltb b 128) (Some (b, 1)) _ (Some (u, n)) h) [
      | inl a ↦ let p = and_parts (ltb 0 b) (ltb b 128) a.0 in one_is b bs u n (ltb-true 0 b p.0) (ltb-true b 128 p.1) a.1
      | inr a ↦ elim (chosen (leb 192 b && ltb b 224) (two b bs) _ (Some (u, n)) a.1) [
        | inl a ↦ let p = and_parts (leb 192 b) (ltb b 224) a.0 in two_is b bs u n (leb-true 192 b p.0) (ltb-true b 224 p.1) a.1
        | inr a ↦ elim (chosen (leb 224 b && ltb b 240) (three b bs) None (Some (u, n)) a.1) [
          | inl a ↦ let p = and_parts (leb 224 b) (ltb b 240) a.0 in three_is b bs u n (leb-true 224 b p.0) (ltb-true b 240 p.1) a.1
          | inr a ↦ absurd cc
        ]
      ]
    ]

pub unit_within : (bytes : List ℕ) (u n : ℕ) → first_unit bytes ≡ unit_of u n → n ≤ length bytes
unit_within bytes u n h = (unit_is bytes u n h).within

back_two : (u : ℕ) → u < 2048 → (192 + u / 64 < 224) × (128 + u % 64 < 192) × (value_two (192 + u / 64) (128 + u % 64) ≡ u)
back_two u h = (omega arith, omega arith, omega arith)

back_three : (u : ℕ) → u < 2 ^ 16 → (224 + u / 4096 < 240) × (128 + u / 64 % 64 < 192) × (128 + u % 64 < 192) × (value_three (224 + u / 4096) (128 + u / 64 % 64) (128 + u % 64) ≡ u)
back_three u h = (omega arith, omega arith, omega arith, omega arith)

is_later_from : (c : ℕ) → 128 ≤ c → c < 192 → is_later c ≡ true
is_later_from c h1 h2 = grind (arith, nat_tests)

pub again_one : (u : ℕ) (rest : List ℕ) → ltb 0 u && ltb u 128 ≡ true → first_unit (u ∷ rest) ≡ Some (u, 1)
unfolding first_unit
again_one u rest h = rw h refl

pub again_two : (u : ℕ) (rest : List ℕ) → ltb 0 u && ltb u 128 ≡ false → u < 2048 → first_unit ((192 + u / 64) ∷ (128 + u % 64) ∷ rest) ≡ Some (u, 2)
unfolding first_unit
again_two u rest h low =
    let b = back_two u low in
    let k = 192 + u / 64 in
    let c = 128 + u % 64 in
    let first : ltb 0 k && ltb k 128 ≡ false = grind (arith, nat_tests) in
    let second : leb 192 k && ltb k 224 ≡ true = grind (arith, nat_tests, b) in
    let later : is_later c ≡ true = is_later_from c (omega arith) b.1 in
    rw (first, second, later, b.2, is_not_one u h) refl

pub again_three : (u : ℕ) (rest : List ℕ) → 2048 ≤ u → u < 2 ^ 16 → first_unit ((224 + u / 4096) ∷ (128 + u / 64 % 64) ∷ (128 + u % 64) ∷ rest) ≡ Some (u, 3)
unfolding first_unit
again_three u rest high low =
    let b = back_three u low in
    let k = 224 + u / 4096 in
    let c = 128 + u / 64 % 64 in
    let d = 128 + u % 64 in
    let first : ltb 0 k && ltb k 128 ≡ false = grind (arith, nat_tests) in
    let second : leb 192 k && ltb k 224 ≡ false = grind (arith, nat_tests) in
    let third : leb 224 k && ltb k 240 ≡ true = grind (arith, nat_tests, b) in
    let later : is_later c ≡ true = is_later_from c (omega arith) b.1 in
    let last : is_later d ≡ true = is_later_from d (omega arith) b.2 in
    rw (first, second, third, later, last, b.3, le-leb 2048 u high) refl

-- the bytes of a unit are read as that unit, whatever stands behind
pub unit_again : (u : ℕ) (rest : List ℕ) → u < 2 ^ 16 → first_unit (unit_bytes u ++ rest) ≡ Some (u, length (unit_bytes u))
unit_again u rest low = by (ltb 0 u && ltb u 128) refl (ltb u 2048) refl
  where
    by : (a : Bool) → ltb 0 u && ltb u 128 ≡ a → (b : Bool) → ltb u 2048 ≡ b → first_unit (unit_bytes u ++ rest) ≡ Some (u, length (unit_bytes u))
    by true e b f = let p = and_parts (ltb 0 u) (ltb u 128) e in rw (bytes_one u (ltb-true 0 u p.0) (ltb-true u 128 p.1)) (again_one u rest e)
    by false e true f = let lt = ltb-true u 2048 f in rw (bytes_two u e lt) (again_two u rest e lt)
    by false e false f = let le = ltb-false u 2048 f in rw (bytes_three u le) (again_three u rest le low)

-- what is read as no unit begins with the bytes of none
pub none_begins : (bytes : List ℕ) → first_unit bytes ≡ None → (u : ℕ) (rest : List ℕ) → u < 2 ^ 16 → bytes ≡ unit_bytes u ++ rest → ⊥
none_begins bytes none u rest low is =
    let one = unit_again u rest low in
    let two : first_unit (unit_bytes u ++ rest) ≡ None = ap first_unit (sym is) ∙ none in
    absurd cc

pub none_read : (bytes : List ℕ) → ((u : ℕ) (rest : List ℕ) → u < 2 ^ 16 → bytes ≡ unit_bytes u ++ rest → ⊥) → first_unit bytes ≡ None
none_read bytes none = by (first_unit bytes) refl
  where
    by : (r : Option (ℕ × ℕ)) → first_unit bytes ≡ r → first_unit bytes ≡ None
    by None e = e
    by (Some (u, n)) e = let b = unit_is bytes u n e in absurd (none u (drop n bytes) b.in_range b.parts)
