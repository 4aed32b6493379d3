-- Sets that are built, and the first class of another that is not.
use Rattle.std.proofs.Common.{◌≡◌, ◌≢◌, ◌∙◌, ℕ, ◌≤◌, List, [], ◌∷◌, ◌++◌, length, get_or, map, refl, sym, ap, subst, inr, ⊎_elim, lit<, arith, length-append}
use Rattle.std.specs.List.{Contains}
use Rattle.std.proofs.lemmas.List.{map-append}
use Rattle.std.proofs.lemmas.List.Elements.{Contains-append_right}
use Rattle.class_model.specs.declared.class.ClassDef.{ClassDef}
use Rattle.profile_check.specs.declared.profile.Names.TheVariants.{Source}
use Rattle.small_base.specs.Members.{object_name}
use Rattle.small_base.specs.Base.{small_base, base_names}
use Rattle.small_base.proofs.Named.{single_only}
use Rattle.first_form.specs.FormOne.{FormOne}
use Rattle.first_form.specs.FirstSet.{IsFirstSet, HasObject, IsFirstOther}

-- two classes before the small base are too many
pub too_many : (classes : List ClassDef) → 2 ≤ length classes → IsFirstSet (classes ++ small_base) → ⊥
too_many classes two first =
    ⊎_elim
    (λ (e : classes ++ small_base ≡ small_base). let n = ap length e in omega (arith, n, length-append classes small_base))
    (λ (q : (class : ClassDef) × (classes ++ small_base ≡ class ∷ small_base) × FormOne Source class). let n = ap length q.1 in omega (arith, n, length-append classes small_base))
    first

-- a set that does not end with the small base
pub other_end : (set : List ClassDef) → ((classes : List ClassDef) → set ≢ classes ++ small_base) → IsFirstSet set → ⊥
other_end set none first =
    ⊎_elim
    (λ (e : set ≡ small_base). none [] e)
    (λ (q : (class : ClassDef) × (set ≡ class ∷ small_base) × FormOne Source class). none (q.0 ∷ []) q.1)
    first

pub object_in_base : Contains base_names object_name
unfolding small_base
object_in_base = (15, lit< tt, refl)

-- a set that ends with the small base has it
pub ends_with_object : (classes : List ClassDef) → HasObject (classes ++ small_base)
ends_with_object classes =
    subst (λ (names : List (List ℕ)). Contains names object_name) (sym (map-append (λ (class : ClassDef). class.name) classes small_base))
    (Contains-append_right (map (λ (class : ClassDef). class.name) classes) base_names object_name object_in_base)

-- a class of the form is not `java/lang/Object`
not_alone : (class : ClassDef) → FormOne Source class → HasObject (class ∷ []) → ⊥
not_alone class form has = form.kept.named.no_base (subst (λ (name : List ℕ). Contains base_names name) (sym (single_only class.name object_name has)) object_in_base)

-- behind a class of the form, the second is told
pub second_told : (set : List ClassDef) (class : ClassDef) → 1 ≤ length set → class ≡ get_or set 0 class → HasObject set → FormOne Source class → IsFirstOther set 1
second_told [] class some is has form = absurd (omega arith)
second_told (c ∷ cs) class some is has form =
    let first : FormOne Source c = subst (λ (d : ClassDef). FormOne Source d) is form in
    inr (refl, first, λ (none : cs ≡ []). not_alone c first (subst (λ (xs : List ClassDef). HasObject (c ∷ xs)) none has))

-- one class is told
pub told_once : (set : List ClassDef) (m n : ℕ) → IsFirstOther set m → IsFirstOther set n → m ≡ n
told_once [] m n one other = absurd one
told_once (class ∷ classes) m n one other =
    ⊎_elim
    (λ first. ⊎_elim (λ too. first.0 ∙ sym too.0) (λ second. absurd (first.1 second.1)) other)
    (λ second. ⊎_elim (λ first. absurd (first.1 second.1)) (λ too. second.0 ∙ sym too.0) other)
    one
