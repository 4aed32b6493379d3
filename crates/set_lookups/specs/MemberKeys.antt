-- Keys of members, compared and hashed.
use Rattle.std.proofs.Common.{◌≡◌, ◌∙◌, ℕ, Bool, true, false, ◌&&◌, eqb, eqb-true, eq-eqb, List, ◌++◌, refl, sym, ap, subst, Option}
use Rattle.std.proofs.lemmas.Bool.{false≢true}
use Rattle.std.specs.Prelude.{flat_map, option_to_list}
use Rattle.std.specs.Bool.{Decides}
use Rattle.std.specs.Cmp.{IsEquivalence}
use Rattle.std.specs.Cmp.Lexicographic.{pointwise}
use Rattle.std.specs.Hash as fed
use Rattle.std.specs.Hash.{HashWrites}
use Rattle.class_model.specs.declared.types.BaseType.{BaseType}
use Rattle.class_model.specs.declared.types.BaseType.TheVariants as bases
use Rattle.class_model.specs.declared.types.JType.{JType}
use Rattle.class_model.specs.Descriptor.{letter_of}
use Rattle.set_lookups.specs.declared.members.Wanted.{Wanted}
use Rattle.set_lookups.specs.declared.members.Wanted.TheVariants.{Any, Inherited, Final}
use Rattle.set_lookups.specs.declared.member_key.MemberKey.{MemberKey}
use Rattle.set_lookups.specs.declared.member_key.MemberQuery.{MemberQuery}
use Rattle.set_lookups.specs.Above.{same_name}
use Rattle.set_lookups.specs.Same.{same_type, same_result}
use Rattle.set_lookups.specs.Members.{Parts, key_parts, query_parts, same_rest, same_parts}
use Rattle.set_lookups.specs.SameTypes.{one_test, and_true, and_first, and_second, name_true, name_self, types_true, types_self, result_true, result_self}
use Rattle.set_lookups.specs.Wanted.{same_wanted}

pub wanted_is : (a b : Wanted) → same_wanted a b ≡ true → a ≡ b
wanted_is Any Any h = refl
wanted_is Inherited Inherited h = refl
wanted_is Final Final h = refl
wanted_is Any Inherited h = absurd (false≢true h)
wanted_is Any Final h = absurd (false≢true h)
wanted_is Inherited Any h = absurd (false≢true h)
wanted_is Inherited Final h = absurd (false≢true h)
wanted_is Final Any h = absurd (false≢true h)
wanted_is Final Inherited h = absurd (false≢true h)

wanted_self : (a : Wanted) → same_wanted a a ≡ true
wanted_self Any = refl
wanted_self Inherited = refl
wanted_self Final = refl

made : ℕ → Wanted → List ℕ → List JType → Option JType → Parts
made class wanted name params given = record { class = class; wanted = wanted; name = name; params = params; given = given }

pub parts_is : (a b : Parts) → same_parts a b ≡ true → a ≡ b
unfolding made
parts_is a b h =
    let kinds : (same_wanted a.wanted b.wanted && same_rest a b) ≡ true = and_second (eqb a.class b.class) _ h in
    let rest : same_rest a b ≡ true = and_second (same_wanted a.wanted b.wanted) _ kinds in
    let types : (pointwise same_type a.params b.params && same_result a.given b.given) ≡ true = and_second (same_name a.name b.name) _ rest in
    ap (λ x. made x a.wanted a.name a.params a.given) (eqb-true a.class b.class (and_first _ _ h)) ∙ ap (λ x. made b.class x a.name a.params a.given) (wanted_is a.wanted b.wanted (and_first _ _ kinds))
    ∙ ap (λ x. made b.class b.wanted x a.params a.given) (name_true a.name b.name (and_first _ _ rest)) ∙ ap (λ x. made b.class b.wanted b.name x a.given) (types_true a.params b.params (and_first _ _ types))
    ∙ ap (λ x. made b.class b.wanted b.name b.params x) (result_true a.given b.given (and_second (pointwise same_type a.params b.params) _ types))

pub parts_self : (a : Parts) → same_parts a a ≡ true
parts_self a =
    and_true _ _ (eq-eqb a.class a.class refl) (and_true _ _ (wanted_self a.wanted) (and_true _ _ (name_self a.name) (and_true _ _ (types_self a.params) (result_self a.given))))

parts_back : (a b : Parts) → same_parts a b ≡ true → same_parts b a ≡ true
parts_back a b h = subst (λ c. same_parts c a ≡ true) (parts_is a b h) (parts_self a)

parts_equiv : {A : Type 0} (parts : A → Parts) → IsEquivalence (λ x y. same_parts (parts x) (parts y))
parts_equiv parts = record {
  refl = λ x. parts_self (parts x);
  symm = λ x y. one_test _ _ (parts_back (parts x) (parts y)) (parts_back (parts y) (parts x));
  congr = λ x y z h. ap (λ p. same_parts p (parts z)) (parts_is (parts x) (parts y) h);
}

abbrev pub same_key : MemberKey → MemberKey → Bool
same_key a b = same_parts (key_parts a) (key_parts b)

abbrev pub same_query : MemberQuery → MemberQuery → Bool
same_query a b = same_parts (query_parts a) (query_parts b)

pub key_equiv : IsEquivalence same_key
key_equiv = parts_equiv key_parts

pub query_equiv : IsEquivalence same_query
query_equiv = parts_equiv query_parts

-- what is fed to a hasher
abbrev pub base_hash : BaseType → HashWrites
base_hash (bases.Primitive primitive) = fed.u8 (letter_of primitive)
base_hash (bases.Class name) = fed.slice fed.u16 name

abbrev pub type_hash : JType → HashWrites
type_hash ty = fed.u8 ty.depth ++ base_hash ty.base

abbrev pub parts_hash : Parts → HashWrites
parts_hash parts = fed.u32 parts.class ++ (fed.slice fed.u16 parts.name ++ (flat_map type_hash parts.params ++ flat_map type_hash (option_to_list parts.given)))

pub parts_respect : (a b : Parts) → same_parts a b ≡ true → parts_hash a ≡ parts_hash b
parts_respect a b h = ap parts_hash (parts_is a b h)

pub same_to : (a b c : Parts) → same_parts a b ≡ true → same_parts a c ≡ same_parts b c
same_to a b c h = ap (λ p. same_parts p c) (parts_is a b h)
