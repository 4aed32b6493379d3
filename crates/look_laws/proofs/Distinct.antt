-- Where no two classes have one name, each class is the one that its name finds.
use Rattle.std.proofs.Common.{◌≡◌, ◌∙◌, ℕ, ◌+◌, zero, suc, Bool, true, false, cond, List, [], ◌∷◌, map, refl, ap, Option, Some, None, arith}
use Rattle.std.specs.Prelude.{slice_get, option_map}
use Rattle.std.specs.List.{list_any, position_from}
use Rattle.std.proofs.lemmas.Bool.{false_from_ne_true, both_ways}
use Rattle.std.proofs.lemmas.Option.{same_Some, none-some, slice_get-map}
use Rattle.std.proofs.lemmas.Iterator.Adapters.{position_from-zero}
use Rattle.class_model.specs.declared.class.ClassDef.{ClassDef}
use Rattle.set_lookups.specs.Above.{same_name, find_class}
use Rattle.set_lookups.specs.Needed.{first_again, duplicate}
use Rattle.set_lookups.specs.SameTypes.{name_self}
use Rattle.set_lookups.proofs.Subtypes.{any_at}

abbrev pub names_of : List ClassDef → List (List ℕ)
names_of set = map (λ (class : ClassDef). class.name) set

again_by : (b : Bool) (name : List ℕ) (rest : Option (List ℕ)) → cond b (Some name) rest ≡ None → (b ≡ false) × (rest ≡ None)
again_by true name rest h = absurd cc
again_by false name rest h = (refl, h)

-- no name stands again behind the first
pub again_parts : (name : List ℕ) (names : List (List ℕ)) → first_again (name ∷ names) ≡ None → (list_any (same_name name) names ≡ false) × (first_again names ≡ None)
unfolding first_again
again_parts name names h = again_by (list_any (same_name name) names) name (first_again names) h

pub other_name : (set : List ClassDef) (name : List ℕ) (number : ℕ) (c : ClassDef) → list_any (same_name name) (names_of set) ≡ false → slice_get set number ≡ Some c → same_name name c.name ≡ false
other_name set name number c none e =
    false_from_ne_true (same_name name c.name) (λ t.
    both_ways (list_any (same_name name) (names_of set)) none
    (any_at (same_name name) (names_of set) number c.name (slice_get-map (λ (class : ClassDef). class.name) set number ∙ ap (option_map (λ (class : ClassDef). class.name)) e) t))

named_from : (at : ℕ) (set : List ClassDef) (number : ℕ) (c : ClassDef) → first_again (names_of set) ≡ None → slice_get set number ≡ Some c → position_from (λ (class : ClassDef). same_name class.name c.name) at set ≡ Some (at + number)
named_from at [] number c h e = absurd (none-some c e)
named_from at (x ∷ set) zero c h e =
    let z : at ≡ at + 0 = omega arith in
    ap (λ b. cond b (Some at) (position_from (λ (class : ClassDef). same_name class.name c.name) (at + 1) set)) (ap (λ (class : ClassDef). same_name class.name c.name) (same_Some x c e) ∙ name_self c.name) ∙ ap Some z
named_from at (x ∷ set) (suc number) c h e =
    let parts = again_parts x.name (names_of set) h in
    let n : at + 1 + number ≡ at + suc number = omega arith in
    ap (λ b. cond b (Some at) (position_from (λ (class : ClassDef). same_name class.name c.name) (at + 1) set)) (other_name set x.name number c parts.0 e)
    ∙ named_from (at + 1) set number c parts.1 e ∙ ap Some n

pub found_itself : (set : List ClassDef) (number : ℕ) (c : ClassDef) → duplicate set ≡ None → slice_get set number ≡ Some c → find_class set c.name ≡ Some number
unfolding duplicate
found_itself set number c h e =
    let z : 0 + number ≡ number = omega arith in
    position_from-zero (λ (class : ClassDef). same_name class.name c.name) set ∙ named_from 0 set number c h e ∙ ap Some z
