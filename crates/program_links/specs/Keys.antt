-- Types and selectors as keys, compared and hashed.
use Rattle.std.proofs.Common.{◌≡◌, ◌∙◌, ℕ, Bool, true, ◌&&◌, List, ◌++◌, ap, subst, flat_map, option_to_list}
use Rattle.std.specs.Cmp.{IsEquivalence}
use Rattle.std.specs.Hash as fed
use Rattle.std.specs.Hash.{HashWrites}
use Rattle.class_model.specs.declared.types.JType.{JType}
use Rattle.class_model.specs.declared.types.MethodDesc.{MethodDesc}
use Rattle.set_lookups.specs.Above.{same_name}
use Rattle.set_lookups.specs.Same.{same_type, same_desc}
use Rattle.set_lookups.specs.SameTypes.{one_test, and_true, and_first, and_second, name_true, name_self, type_true, type_self, desc_true, desc_self}
use Rattle.set_lookups.specs.MemberKeys.{base_hash, type_hash}
use Rattle.program_links.specs.declared.keys.Selector.{Selector}

pub equal_equiv : {A : Type 0} (test : A → A → Bool) → ((x : A) → test x x ≡ true) → ((x y : A) → test x y ≡ true → x ≡ y) → IsEquivalence test
equal_equiv test self is = record {
  refl = self;
  symm = λ x y. one_test (test x y) (test y x) (λ t. subst (λ z. test z x ≡ true) (is x y t) (self x)) (λ t. subst (λ z. test z y ≡ true) (is y x t) (self y));
  congr = λ x y z h. ap (λ w. test w z) (is x y h);
}

pub type_equiv : IsEquivalence same_type
type_equiv = equal_equiv same_type type_self type_true

abbrev pub key_hash : JType → HashWrites
key_hash ty = fed.u32 ty.depth ++ base_hash ty.base

pub type_respects : (a b : JType) → same_type a b ≡ true → key_hash a ≡ key_hash b
type_respects a b h = ap key_hash (type_true a b h)

abbrev pub same_selector : Selector → Selector → Bool
same_selector a b = same_name a.name b.name && same_desc a.desc b.desc

selector_with : List ℕ → MethodDesc → Selector
selector_with name desc = record { name = name; desc = desc }

pub selector_true : (a b : Selector) → same_selector a b ≡ true → a ≡ b
unfolding selector_with
selector_true a b h =
    ap (λ name. selector_with name a.desc) (name_true a.name b.name (and_first _ _ h)) ∙ ap (λ desc. selector_with b.name desc) (desc_true a.desc b.desc (and_second (same_name a.name b.name) _ h))

pub selector_self : (a : Selector) → same_selector a a ≡ true
selector_self a = and_true _ _ (name_self a.name) (desc_self a.desc)

pub selector_equiv : IsEquivalence same_selector
selector_equiv = equal_equiv same_selector selector_self selector_true

abbrev pub selector_hash : Selector → HashWrites
selector_hash key = fed.slice fed.u16 key.name ++ (flat_map type_hash key.desc.params ++ flat_map type_hash (option_to_list key.desc.result))

pub selector_respects : (a b : Selector) → same_selector a b ≡ true → selector_hash a ≡ selector_hash b
selector_respects a b h = ap selector_hash (selector_true a b h)
