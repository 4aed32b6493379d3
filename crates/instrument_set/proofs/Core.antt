-- A closed set has `java/lang/Object`, so that no base stands behind it.
use Rattle.std.proofs.Common.{◌≡◌, ◌∙◌, ℕ, zero, suc, ◌<◌, ◌||◌, Bool, true, false, cond, List, [], ◌∷◌, ◌++◌, length, get_or, map, Option, Some, None, refl, sym, ap, arith}
use Rattle.std.specs.Option.{option_or}
use Rattle.std.specs.List.{Contains, list_any}
use Rattle.std.proofs.lemmas.List.{get_or-map, length-map}
use Rattle.std.proofs.lemmas.List.Quantifiers.{position-Some}
use Rattle.class_model.specs.declared.class.ClassDef.{ClassDef}
use Rattle.set_lookups.specs.Above.{same_name, find_class}
use Rattle.set_lookups.specs.First.{holds_of}
use Rattle.set_lookups.specs.SameTypes.{name_true}
use Rattle.class_set.specs.Core.{has_shape, is_object, if_wrong, core}
use Rattle.class_set.specs.Closed.{Closed}
use Rattle.small_base.specs.Members.{object_name}
use Rattle.small_base.specs.Base.{object_class, small_base}
use Rattle.first_form.specs.FirstSet.{HasObject}
use Rattle.set_loader.specs.Loads.{has_object, with_base}

or_first : {A : Type 0} (a b : Option A) → option_or a b ≡ None → a ≡ None
or_first None b h = refl
or_first (Some x) b h = cc

not_wrong : (b : Bool) (name : List ℕ) → cond b None (Some name) ≡ None → b ≡ true
not_wrong true name h = refl
not_wrong false name h = absurd cc

some_holds : {A : Type 0} (test : A → Bool) (o : Option A) → holds_of test o ≡ true → (x : A) × (o ≡ Some x)
some_holds test None h = absurd cc
some_holds test (Some x) h = (x, refl)

-- a class of the name stands at a number
record NamedObject (set : List ClassDef) : Type 0 where
  number : ℕ
  within : number < length set
  named : same_name (get_or set number object_class).name object_name ≡ true

closed_object : (set : List ClassDef) → Closed set → NamedObject set
unfolding core
closed_object set closed =
    let shaped = not_wrong (has_shape set (λ number. is_object) object_name) object_name (or_first (if_wrong set (λ number. is_object) object_name) _ closed.core_classes) in
    let found = some_holds _ (find_class set object_name) shaped in
    let at = position-Some (λ (class : ClassDef). same_name class.name object_name) set found.0 object_class found.1 in
    record { number = found.0; within = omega (arith, at.0); named = at.1 }

pub closed_has_object : (set : List ClassDef) → Closed set → HasObject set
closed_has_object set closed =
    let object : NamedObject set = closed_object set closed in (
      object.number,
      omega (arith, object.within, length-map set (λ (class : ClassDef). class.name)),
      get_or-map (λ (class : ClassDef). class.name) set object.number object_class object_name object.within ∙ name_true (get_or set object.number object_class).name object_name object.named,
    )

or_second : (a b : Bool) → b ≡ true → (a || b) ≡ true
or_second true b h = refl
or_second false b h = h

any_named : (classes : List ClassDef) (number : ℕ) → number < length classes → same_name (get_or classes number object_class).name object_name ≡ true
    → list_any (λ (class : ClassDef). same_name class.name object_name) classes ≡ true
any_named [] number within named = absurd (omega (arith, within))
any_named (class ∷ classes) zero within named = ap (λ (b : Bool). b || list_any (λ (c : ClassDef). same_name c.name object_name) classes) named
any_named (class ∷ classes) (suc number) within named = or_second (same_name class.name object_name) _ (any_named classes number (omega (arith, within)) named)

-- a closed set is whole without the base
pub completed : (set : List ClassDef) → Closed set → set ≡ with_base set
unfolding with_base has_object
completed set closed =
    let object : NamedObject set = closed_object set closed in
    sym (ap (λ (b : Bool). cond b set (set ++ small_base)) (any_named set object.number object.within object.named))
