-- Where a class name within a descriptor ends, and what is read up to there.
use Rattle.std.proofs.Common.{◌≡◌, ◌≢◌, ◌∙◌, ◌⊎◌, ℕ, zero, suc, ◌+◌, ◌<◌, Bool, true, cond, not, List, [], ◌∷◌, length, take, drop, get_or, Some, None, Ok, Err, refl, sym, ap, subst, arith, inl, inr, add-one}
use Rattle.std.specs.Prelude.{slice_get, unwrap_or, ◌==◌}
use Rattle.std.specs.List.{position, position_or_len}
use Rattle.std.proofs.lemmas.Bool.{cases_lt, lt-ltb, le-ltb, not-true, not-false, or_cases, eqb-true}
use Rattle.std.proofs.lemmas.List.{take-append-drop, get_or-take, drop_all}
use Rattle.std.proofs.lemmas.List.Sums.{prefix_len-le-length, prefix_len_passes, prefix_len_stops}
use Rattle.std.proofs.lemmas.List.Folds.{length-prefix_len}
use Rattle.class_model.specs.declared.types.BaseType.TheVariants as bases
use Rattle.class_model.specs.declared.types.JType.{JType}
use Rattle.class_model.specs.Reading.{ends_name, InName, Stuck, part_step, front}
use Rattle.class_model.proofs.Fields.{AllUnits, more_name, front_stuck, front_whole, front_end, end_step}

-- the end of the units where no unit is found
pub position_len : (units : List ℕ) → unwrap_or (position ends_name units) (length units) ≡ position_or_len ends_name units
position_len units =
    let n = position_or_len ends_name units in
    elim (cases_lt n (length units)) [
      | inl lt ↦ ap (λ (b : Bool). unwrap_or (cond b (Some n) None) (length units)) (lt-ltb n (length units) lt)
      | inr le ↦
          let last : length units ≡ n = omega (arith, prefix_len-le-length (λ u. not (ends_name u)) units) in
          ap (λ (b : Bool). unwrap_or (cond b (Some n) None) (length units)) (le-ltb n (length units) le) ∙ last
    ]

units_before : (units : List ℕ) → AllUnits (take (position_or_len ends_name units) units)
units_before units k d lt =
    let n = position_or_len ends_name units in
    let below : k < n = omega (arith, length-prefix_len (λ u. not (ends_name u)) units) in
    ap ends_name (get_or-take n units k d below) ∙ not-true (ends_name (get_or units k d)) (prefix_len_passes (λ u. not (ends_name u)) units k d below)

-- what stands at a place: nothing, or a unit
at_place : (units : List ℕ) (i : ℕ) → ((drop i units ≡ []) × (slice_get units i ≡ None)) ⊎ ((unit : ℕ) × (drop i units ≡ unit ∷ drop (i + 1) units) × (slice_get units i ≡ Some unit) × (get_or units i 0 ≡ unit) × (i < length units))
at_place [] i = inl (drop_all i [] (omega arith), refl)
at_place (unit ∷ units) zero = inr (unit, refl, refl, refl, omega arith)
at_place (unit ∷ units) (suc i) =
    elim (at_place units i) [
      | inl none ↦ inl none
      | inr h ↦ inr (h.0, h.1 ∙ ap (λ k. h.0 ∷ drop k units) (add-one i) ∙ ap (λ k. h.0 ∷ drop k (unit ∷ units)) (sym (add-one (suc i))), h.2, h.3, omega arith)
    ]

to_end : (units : List ℕ) (depth at : ℕ) → let n = position_or_len ends_name units in front (InName depth []) at units ≡ front (InName depth (take n units)) (at + n) (drop n units)
to_end units depth at =
    let n = position_or_len ends_name units in
    ap (front (InName depth []) at) (sym (take-append-drop n units))
    ∙ more_name (take n units) depth at [] (drop n units) (units_before units)
    ∙ ap (λ k. front (InName depth (take n units)) (at + k) (drop n units)) (length-prefix_len (λ u. not (ends_name u)) units)

read_at_len : (units : List ℕ) (depth at : ℕ) → let n = position_or_len ends_name units in n ≢ 0 → slice_get units n ≡ Some 59
    → front (InName depth []) at units ≡ Ok (record { depth = depth; base = bases.Class (take n units) }, record { at = at + (n + 1); units = drop (n + 1) units })
read_at_len units depth at some semicolon =
    let n = position_or_len ends_name units in
    let name = take n units in
    let ty : JType = record { depth = depth; base = bases.Class name } in
    let rest = drop (n + 1) units in
    elim (at_place units n) [
      | inl none ↦ absurd (let e : None ≡ Some 59 = sym (none.1) ∙ semicolon in cc)
      | inr h ↦
          let is : h.0 ≡ 59 = let e : Some h.0 ≡ Some 59 = sym (h.2) ∙ semicolon in cc in
          let sum : at + n + 1 ≡ at + (n + 1) = omega arith in
          to_end units depth at
          ∙ ap (front (InName depth name) (at + n)) (h.1 ∙ ap (λ u. u ∷ rest) is)
          ∙ front_whole (InName depth name) ty (at + n) 59 rest (end_step depth name (λ e. some (sym (length-prefix_len (λ u. not (ends_name u)) units) ∙ ap length e)))
          ∙ ap (λ k. Ok (ty, record { at = k; units = rest })) sum
    ]

refused_at_len : (units : List ℕ) (depth at : ℕ) → let n = position_or_len ends_name units in (n ≡ 0) ⊎ (slice_get units n ≢ Some 59) → front (InName depth []) at units ≡ Err (at + n)
refused_at_len units depth at h =
    let n = position_or_len ends_name units in
    let name = take n units in
    elim (at_place units n) [
      | inl none ↦ to_end units depth at ∙ ap (front (InName depth name) (at + n)) none.0 ∙ front_end (InName depth name) (at + n)
      | inr p ↦
          let rest = drop (n + 1) units in
          let ends : ends_name p.0 ≡ true = ap ends_name (sym (p.3)) ∙ not-false (ends_name (get_or units n 0)) (prefix_len_stops (λ u. not (ends_name u)) units 0 p.4) in
          let refused : part_step (InName depth name) p.0 ≡ Stuck =
          elim (or_cases (p.0 == 59) (p.0 == 91) ends) [
            | inl semicolon ↦ elim h [
              | inl empty ↦ ap (λ k. part_step (InName depth (take k units)) p.0) empty ∙ ap (part_step (InName depth [])) (eqb-true p.0 59 semicolon)
              | inr other ↦ absurd (other (p.2 ∙ ap Some (eqb-true p.0 59 semicolon)))
            ]
            | inr bracket ↦ ap (part_step (InName depth name)) (eqb-true p.0 91 bracket)
          ] in
          to_end units depth at
          ∙ ap (front (InName depth name) (at + n)) p.1
          ∙ front_stuck (InName depth name) (at + n) p.0 rest refused
    ]

-- a class name and its ';'
pub name_read : (units : List ℕ) (len depth at : ℕ) → len ≡ position_or_len ends_name units → len ≢ 0 → slice_get units len ≡ Some 59
    → front (InName depth []) at units ≡ Ok (record { depth = depth; base = bases.Class (take len units) }, record { at = at + (len + 1); units = drop (len + 1) units })
name_read units len depth at is some semicolon =
    subst (λ n. n ≢ 0 → slice_get units n ≡ Some 59 → front (InName depth []) at units ≡ Ok (record { depth = depth; base = bases.Class (take n units) }, record { at = at + (n + 1); units = drop (n + 1) units })) (sym is)
    (read_at_len units depth at) some semicolon

-- no unit of a class name, or no ';' behind them
pub name_refused : (units : List ℕ) (len depth at : ℕ) → len ≡ position_or_len ends_name units → (len ≡ 0) ⊎ (slice_get units len ≢ Some 59) → front (InName depth []) at units ≡ Err (at + len)
name_refused units len depth at is h =
    subst (λ n. (n ≡ 0) ⊎ (slice_get units n ≢ Some 59) → front (InName depth []) at units ≡ Err (at + n)) (sym is) (refused_at_len units depth at) h
