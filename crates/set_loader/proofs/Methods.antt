-- The method that a refusal names is one of the set, and there is one.
use Rattle.std.proofs.Common.{◌≡◌, ◌∙◌, ℕ, ◌<◌, List, length, Option, Some, None, refl, sym, ap, subst}
use Rattle.std.specs.Prelude.{slice_get, option_and_then}
use Rattle.std.proofs.lemmas.Option.{slice_get_within}
use Rattle.class_model.specs.declared.class.MethodDef.{MethodDef}
use Rattle.class_model.specs.declared.class.ClassDef.{ClassDef}
use Rattle.class_model.specs.Descriptor.{method_descriptor}
use Rattle.set_lookups.specs.declared.ids.MethodId.{MethodId}
use Rattle.type_rows.specs.declared.rule.VerifyRule.{VerifyRule}
use Rattle.verifier.specs.Set.{method_from}
use Rattle.verifier.specs.WholeSet.{FirstInSet, Fails}
use Rattle.verifier.specs.declared.sets.SetVerifyStop.TheVariants as sets
use Rattle.verifier.proofs.Whole.{one_in_set}
use Rattle.set_loader.specs.declared.stop.LoadStop.TheVariants.{Unverified}
use Rattle.set_loader.specs.Loads.{IsNamed, IsFirstFailing}

-- ---- the method is there

class_there : (set : List ClassDef) (id : MethodId) (at : ℕ) (rule : VerifyRule) (o : Option ClassDef) → slice_get set id.class ≡ o → Fails (option_and_then (method_from set id) o) at rule → id.class < length set
class_there set id at rule None is fails = absurd fails
class_there set id at rule (Some class) is fails = slice_get_within set id.class class is

pub class_within : (set : List ClassDef) (id : MethodId) (at : ℕ) (rule : VerifyRule) → FirstInSet set id at rule → id.class < length set
class_within set id at rule first = class_there set id at rule (slice_get set id.class) refl first.fails

-- ---- a set has one first method that does not verify, and it has one text for each of its names

same_some : {A : Type 0} (x y : A) (o : Option A) → o ≡ Some x → o ≡ Some y → x ≡ y
same_some x y o e f = cc

same_owner : (set : List ClassDef) (id : MethodId) (class name desc other_class other_name other_desc : List ℕ)
    → (a : IsNamed set id class name desc) → (b : IsNamed set id other_class other_name other_desc) → a.owner ≡ b.owner
same_owner set id class name desc other_class other_name other_desc a b = same_some a.owner b.owner (slice_get set id.class) a.stands b.stands

same_method : (set : List ClassDef) (id : MethodId) (class name desc other_class other_name other_desc : List ℕ)
    → (a : IsNamed set id class name desc) → (b : IsNamed set id other_class other_name other_desc) → a.method ≡ b.method
same_method set id class name desc other_class other_name other_desc a b =
    let owner : a.owner ≡ b.owner = same_owner set id class name desc other_class other_name other_desc a b in
    same_some a.method b.method (slice_get b.owner.methods id.index)
    (subst (λ (c : ClassDef). slice_get c.methods id.index ≡ Some a.method) owner a.declared) b.declared

told_same : (class name desc other_class other_name other_desc : List ℕ) (at : ℕ) (rule : VerifyRule) → class ≡ other_class → name ≡ other_name → desc ≡ other_desc
    → Unverified class name desc at rule ≡ Unverified other_class other_name other_desc at rule
told_same class name desc other_class other_name other_desc at rule e f g = cc

one_name : (set : List ClassDef) (id : MethodId) (class name desc other_class other_name other_desc : List ℕ) (at : ℕ) (rule : VerifyRule)
    → IsNamed set id class name desc → IsNamed set id other_class other_name other_desc
    → Unverified class name desc at rule ≡ Unverified other_class other_name other_desc at rule
one_name set id class name desc other_class other_name other_desc at rule a b =
    let owner : a.owner ≡ b.owner = same_owner set id class name desc other_class other_name other_desc a b in
    let method : a.method ≡ b.method = same_method set id class name desc other_class other_name other_desc a b in
    told_same class name desc other_class other_name other_desc at rule
    (a.class_is ∙ ap (λ (c : ClassDef). c.name) owner ∙ sym b.class_is)
    (a.name_is ∙ ap (λ (m : MethodDef). m.name) method ∙ sym b.name_is)
    (a.desc_is ∙ ap (λ (m : MethodDef). method_descriptor m.desc) method ∙ sym b.desc_is)

pub one_failing : (set : List ClassDef) (class name desc other_class other_name other_desc : List ℕ) (at beside : ℕ) (rule second : VerifyRule)
    → IsFirstFailing set class name desc at rule → IsFirstFailing set other_class other_name other_desc beside second
    → Unverified class name desc at rule ≡ Unverified other_class other_name other_desc beside second
one_failing set class name desc other_class other_name other_desc at beside rule second a b =
    let same : sets.Unverified set a.id at rule ≡ sets.Unverified set b.id beside second = one_in_set set a.id b.id at beside rule second a.first b.first in
    let id : a.id ≡ b.id = cc in
    let at_same : at ≡ beside = cc in
    let rule_same : rule ≡ second = cc in
    let named : IsNamed set b.id class name desc = subst (λ (i : MethodId). IsNamed set i class name desc) id a.named in
    one_name set b.id class name desc other_class other_name other_desc at rule named b.named
    ∙ ap (λ (n : ℕ). Unverified other_class other_name other_desc n rule) at_same
    ∙ ap (λ (r : VerifyRule). Unverified other_class other_name other_desc beside r) rule_same
