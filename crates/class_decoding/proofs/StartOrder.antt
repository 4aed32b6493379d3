-- The offsets of instructions ascend, and so do the numbers of the instructions at ascending offsets.
use Rattle.std.proofs.Common.{◌≡◌, inl, inr, ℕ, zero, suc, ◌+◌, ◌<◌, ◌≤◌, List, [], ◌∷◌, length, map, get_or, Some, arith}
use Rattle.std.specs.Prelude.{◌==◌}
use Rattle.std.proofs.lemmas.Bool.{eqb-true, cases_lt}
use Rattle.std.proofs.lemmas.List.Quantifiers.{position-Some}
use Rattle.const_pool.specs.Pool.{Pool}
use Rattle.insn_code.specs.Offsets.{start_number}
use Rattle.insn_code.specs.Linking.{Placed, offset_of, ArePlaced}
use Rattle.insn_code.proofs.CodeLaws.{has_bytes}

-- ascending numbers, the first at least `low`
abbrev pub Rises : ℕ → List ℕ → Type 0
Rises low [] = Unit {0}
Rises low (x ∷ xs) = (low ≤ x) × Rises (x + 1) xs

sooner : (low high : ℕ) (xs : List ℕ) → low ≤ high → Rises high xs → Rises low xs
sooner low high [] le h = tt
sooner low high (x ∷ xs) le h = let first = h.0 in (omega (arith, first), h.1)

pub placed_rise : (p : Pool) (pc : ℕ) (text : List ℕ) (xs : List Placed) → ArePlaced p pc text xs → Rises pc (map offset_of xs)
placed_rise p pc text [] h = tt
placed_rise p pc text (x ∷ xs) h =
    let one = has_bytes p pc h.0 x.1 h.3.1 in
    let at : pc ≡ x.0 = h.3.0 in
    (omega (arith, at), sooner (x.0 + 1) (pc + length h.0) (map offset_of xs) (omega (arith, at, one)) (placed_rise p (pc + length h.0) h.1 xs h.4))

at_least : (low : ℕ) (xs : List ℕ) (i d : ℕ) → Rises low xs → i < length xs → low ≤ get_or xs i d
at_least low [] i d h lt = absurd (omega arith)
at_least low (x ∷ xs) zero d h lt = h.0
at_least low (x ∷ xs) (suc i) d h lt = let first = h.0 in let more = at_least (x + 1) xs i d h.1 (omega arith) in omega (arith, first, more)

-- of two places the earlier has no greater number
in_order : (low : ℕ) (xs : List ℕ) (i j d : ℕ) → Rises low xs → i ≤ j → j < length xs → get_or xs i d ≤ get_or xs j d
in_order low [] i j d h le lt = absurd (omega arith)
in_order low (x ∷ xs) zero zero d h le lt = omega arith
in_order low (x ∷ xs) zero (suc j) d h le lt = let more = at_least (x + 1) xs j d h.1 (omega arith) in omega (arith, more)
in_order low (x ∷ xs) (suc i) zero d h le lt = absurd (omega arith)
in_order low (x ∷ xs) (suc i) (suc j) d h le lt = in_order (x + 1) xs i j d h.1 (omega arith) (omega arith)

-- the number of an instruction, and the offset at which it begins
pub record Found (starts : List ℕ) (offset number : ℕ) : Type 0 where
  pub within : number < length starts
  pub stands : get_or starts number 0 ≡ offset

pub found : (starts : List ℕ) (offset number : ℕ) → start_number starts offset ≡ Some number → Found starts offset number
found starts offset number h = let is = position-Some (λ start. start == offset) starts number 0 h in record { within = is.0; stands = eqb-true (get_or starts number 0) offset is.1 }

pub numbers_rise : (starts : List ℕ) (offset later number next : ℕ) → Rises 0 starts → start_number starts offset ≡ Some number → start_number starts later ≡ Some next → offset < later → number < next
numbers_rise starts offset later number next rises h g lt =
    let a = found starts offset number h in
    let b = found starts later next g in
    elim (cases_lt number next) [
      | inl less ↦ less
      | inr more ↦
          let low = in_order 0 starts next number 0 rises more a.within in
          let x = a.stands in
          let y = b.stands in
          absurd (omega (arith, low, x, y, lt))
    ]
