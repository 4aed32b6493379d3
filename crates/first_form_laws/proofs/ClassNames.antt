-- A class name is one that the profile takes.
use Rattle.std.proofs.Common.{◌≡◌, ◌∙◌, ℕ, Bool, true, false, cond, not, ◌&&◌, ◌||◌, List, [], ◌∷◌, length, refl, ap, eqb-true}
use Rattle.std.specs.Prelude.{◌==◌, nat_le}
use Rattle.std.specs.List.{list_all, list_any, slice_split, onto_first}
use Rattle.set_lookups.specs.SameTypes.{and_first, and_second}
use Rattle.profile_check.specs.Names.{is_bad_unit, has_bad_unit, is_mark, into_first, parts_of, is_bad_part, is_bad_class}
use Rattle.first_form.specs.Naming.{is_name_unit, is_name_part, is_class_name}
use Rattle.first_form_laws.proofs.Tests.{not_either, neither}

not_true : (b : Bool) → not b ≡ true → b ≡ false
not_true true h = absurd cc
not_true false h = refl

unit_fine : (unit : ℕ) → is_name_unit unit ≡ true → (is_mark unit ≡ false) × (is_bad_unit unit ≡ false)
unit_fine unit h =
    let surrogate : Bool = nat_le 0xD800 unit && nat_le unit 0xDFFF in
    let all = not_either ((unit == 0) || (unit == 46) || (unit == 59) || (unit == 91)) (nat_le 0xD800 unit && nat_le unit 0xDFFF) (not_true ((unit == 0) || (unit == 46) || (unit == 59) || (unit == 91) || (nat_le 0xD800 unit && nat_le unit 0xDFFF)) h) in
    let four = not_either ((unit == 0) || (unit == 46) || (unit == 59)) (unit == 91) all.0 in
    let three = not_either ((unit == 0) || (unit == 46)) (unit == 59) four.0 in
    let two = not_either (unit == 0) (unit == 46) three.0 in
    (neither ((unit == 46) || (unit == 59)) (unit == 91) (neither (unit == 46) (unit == 59) two.1 three.1) four.1, neither (unit == 0) (nat_le 0xD800 unit && nat_le unit 0xDFFF) two.0 all.1)

no_mark : (part : List ℕ) → list_all is_name_unit part ≡ true → list_any is_mark part ≡ false
no_mark [] h = refl
no_mark (unit ∷ units) h =
    neither (is_mark unit) (list_any is_mark units) (unit_fine unit (and_first (is_name_unit unit) (list_all is_name_unit units) h)).0 (no_mark units (and_second (is_name_unit unit) (list_all is_name_unit units) h))

part_fine : (part : List ℕ) → is_name_part part ≡ true → is_bad_part part ≡ false
part_fine [] h = absurd cc
part_fine (unit ∷ units) h = no_mark (unit ∷ units) (and_second (not (length (unit ∷ units) == 0)) (list_all is_name_unit (unit ∷ units)) h)

parts_fine : (parts : List (List ℕ)) → list_all is_name_part parts ≡ true → list_any is_bad_part parts ≡ false
parts_fine [] h = refl
parts_fine (part ∷ parts) h =
    neither (is_bad_part part) (list_any is_bad_part parts) (part_fine part (and_first (is_name_part part) (list_all is_name_part parts) h)) (parts_fine parts (and_second (is_name_part part) (list_all is_name_part parts) h))

abbrev at_slashes : List ℕ → List (List ℕ)
at_slashes name = slice_split (λ unit. unit == 47) name

into_same : (unit : ℕ) (parts : List (List ℕ)) → into_first unit parts ≡ onto_first unit parts
into_same unit [] = refl
into_same unit (part ∷ parts) = refl

parts_same : (name : List ℕ) → parts_of name ≡ at_slashes name
parts_same [] = refl
parts_same (unit ∷ units) =
    (λ i. cond (unit == 47) ([] ∷ parts_same units i) (into_first unit (parts_same units i)))
    ∙ ap (λ parts. cond (unit == 47) ([] ∷ at_slashes units) parts) (into_same unit (at_slashes units))

abbrev all_units : List (List ℕ) → Bool
all_units parts = list_all (list_all is_name_unit) parts

units_of_parts : (parts : List (List ℕ)) → list_all is_name_part parts ≡ true → all_units parts ≡ true
units_of_parts [] h = refl
units_of_parts (part ∷ parts) h =
    (λ i. and_second (not (length part == 0)) (list_all is_name_unit part) (and_first (is_name_part part) (list_all is_name_part parts) h) i && all_units parts)
    ∙ units_of_parts parts (and_second (is_name_part part) (list_all is_name_part parts) h)

units_onto : (unit : ℕ) (parts : List (List ℕ)) → all_units (onto_first unit parts) ≡ true → (is_name_unit unit ≡ true) × (all_units parts ≡ true)
units_onto unit [] h = (and_first (is_name_unit unit) true (and_first (is_name_unit unit && true) true h), refl)
units_onto unit (part ∷ parts) h =
    let first = and_first (is_name_unit unit && list_all is_name_unit part) (all_units parts) h in
    let rest = and_second (is_name_unit unit && list_all is_name_unit part) (all_units parts) h in
    (and_first (is_name_unit unit) (list_all is_name_unit part) first, (λ i. and_second (is_name_unit unit) (list_all is_name_unit part) first i && all_units parts) ∙ rest)

unit_of_parts : (unit : ℕ) (parts : List (List ℕ)) (slash : Bool) → (unit == 47) ≡ slash → all_units (cond slash ([] ∷ parts) (onto_first unit parts)) ≡ true → (is_bad_unit unit ≡ false) × (all_units parts ≡ true)
unit_of_parts unit parts true e h = (ap is_bad_unit (eqb-true unit 47 e), h)
unit_of_parts unit parts false e h = let p = units_onto unit parts h in ((unit_fine unit p.0).1, p.1)

no_bad_unit : (name : List ℕ) → all_units (at_slashes name) ≡ true → has_bad_unit name ≡ false
no_bad_unit [] h = refl
no_bad_unit (unit ∷ units) h =
    let p = unit_of_parts unit (at_slashes units) (unit == 47) refl h in neither (is_bad_unit unit) (has_bad_unit units) p.0 (no_bad_unit units p.1)

pub class_name_fine : (name : List ℕ) → is_class_name name ≡ true → is_bad_class name ≡ false
class_name_fine name h =
    neither (list_any is_bad_part (parts_of name)) (has_bad_unit name) (ap (list_any is_bad_part) (parts_same name) ∙ parts_fine (at_slashes name) h) (no_bad_unit name (units_of_parts (at_slashes name) h))
