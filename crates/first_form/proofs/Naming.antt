-- Texts that stand in names.
use Rattle.std.proofs.Common.{◌≡◌, ◌∙◌, ℕ, ◌-◌, ◌<◌, List, [], ◌∷◌, ◌++◌, length, take, drop, Option, Some, None, Bool, true, false, is_some, refl, sym, ap, arith, ◌↔◌, Bor, inl, inr}
use Rattle.std.proofs.lemmas.Bool.{false≢true}
use Rattle.std.specs.Str.{chars}
use Rattle.std.specs.Prelude.{MatchOption, IsTrue}
use Rattle.std.proofs.lemmas.List.{length-drop, length-append, take_all}
use Rattle.first_form.specs.Naming.{HasAt, reserved_front, reserved_part, IsReserved}

-- what was taken off the front says whether the front is there
pub begins_is : (units front : List ℕ) (r : Option (Bor (List ℕ))) (b : Bool)
    → MatchOption r ((rest : List ℕ) → units ≡ front ++ rest → ⊥) (λ x. units ≡ front ++ x.now)
    → b ≡ is_some r → IsTrue b ↔ ((rest : List ℕ) × (units ≡ front ++ rest))
begins_is units front None b h e = (λ said. absurd (false≢true (sym e ∙ said)), λ is. absurd (h is.0 is.1))
begins_is units front (Some x) b h e = (λ said. (x.now, h), λ is. e)

-- a text that is there begins before the end
pub has_at_within : (text name : List ℕ) (place : ℕ) → 0 < length text → HasAt text name place → place < length name
has_at_within text name place some is =
    omega (arith, ap length is.1, length-drop place name, length-append text is.0)

-- the units of 'phosphor/' and of '$$PHOSPHOR'
pub front_spelled : 112 ∷ 104 ∷ 111 ∷ 115 ∷ 112 ∷ 104 ∷ 111 ∷ 114 ∷ 47 ∷ [] ≡ reserved_front
unfolding chars
front_spelled = refl

pub part_spelled : 36 ∷ 36 ∷ 80 ∷ 72 ∷ 79 ∷ 83 ∷ 80 ∷ 72 ∷ 79 ∷ 82 ∷ [] ≡ reserved_part
unfolding chars
part_spelled = refl

-- a test of both rules
pub reserved_by_front : (name : List ℕ) (b : Bool) → IsTrue b ↔ HasAt reserved_front name 0 → b ≡ true → IsTrue b ↔ IsReserved name
reserved_by_front name b front holds = (λ is. inl (front.0 is), λ reserved. holds)

pub reserved_by_part : (name : List ℕ) (b d : Bool) → IsTrue b ↔ HasAt reserved_front name 0 → b ≡ false
    → IsTrue d ↔ ((place : ℕ) × HasAt reserved_part name place) → IsTrue d ↔ IsReserved name
reserved_by_part name b d front not_front part = (
  λ is. inr (part.0 is),
  λ reserved. elim reserved [ inl begins ↦ absurd (false≢true (sym not_front ∙ front.1 begins)) | inr holds ↦ part.1 holds ],
)

-- the units from a place on
pub rest_is : (name : List ℕ) (place : ℕ) → take (length name - place) (drop place name) ≡ drop place name
rest_is name place = take_all (length name - place) (drop place name) (omega (arith, length-drop place name))
