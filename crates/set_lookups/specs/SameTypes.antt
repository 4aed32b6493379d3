-- Names, types and descriptors that are the same.
use Rattle.std.proofs.Common.{◌≡◌, ◌∙◌, ℕ, Bool, true, false, ◌↔◌, IsTrue, List, [], ◌∷◌, refl, sym, subst, eqb, eq-eqb, eqb-true, ◌&&◌, ap, Option, Some, None}
use Rattle.std.proofs.lemmas.Bool.{false≢true}
use Rattle.std.proofs.lemmas.Option.{same_Some}
use Rattle.std.specs.Cmp.Lexicographic.{pointwise, same_text}
use Rattle.class_model.specs.declared.types.Primitive.{Primitive}
use Rattle.class_model.specs.declared.types.Primitive.TheVariants.{Boolean, Byte, Char, Short, Int, Long, Float, Double}
use Rattle.class_model.specs.declared.types.BaseType.{BaseType}
use Rattle.class_model.specs.declared.types.BaseType.TheVariants as bases
use Rattle.class_model.specs.declared.types.JType.{JType}
use Rattle.class_model.specs.declared.types.MethodDesc.{MethodDesc}
use Rattle.class_model.specs.Descriptor.{letter_of}
use Rattle.class_model.specs.Reading.{primitive_of}
use Rattle.set_lookups.specs.Above.{same_name}
use Rattle.set_lookups.specs.Same.{same_base, same_type, same_result, same_desc}

-- two tests that say the same are the same
pub one_test : (a b : Bool) → (a ≡ true → b ≡ true) → (b ≡ true → a ≡ true) → a ≡ b
one_test true true f g = refl
one_test true false f g = sym (f refl)
one_test false true f g = g refl
one_test false false f g = refl

pub and_true : (a b : Bool) → a ≡ true → b ≡ true → a && b ≡ true
and_true true b e f = f
and_true false b e f = e

pub and_first : (a b : Bool) → a && b ≡ true → a ≡ true
and_first true b h = refl
and_first false b h = absurd (false≢true h)

pub and_second : (a b : Bool) → a && b ≡ true → b ≡ true
and_second true b h = h
and_second false b h = absurd (false≢true h)

pub name_self : (xs : List ℕ) → same_name xs xs ≡ true
name_self [] = refl
name_self (x ∷ xs) = and_true _ _ (eq-eqb x x refl) (name_self xs)

pub name_true : (xs ys : List ℕ) → same_name xs ys ≡ true → xs ≡ ys
name_true xs ys h = same_text xs ys (sym h)

pub name_test : (xs ys : List ℕ) (r : Bool) → (IsTrue r ↔ (xs ≡ ys)) → r ≡ same_name xs ys
name_test xs ys r h = one_test r _ (λ t. subst (λ zs. same_name xs zs ≡ true) (h.0 t) (name_self xs)) (λ t. h.1 (name_true xs ys t))

letter_back : (primitive : Primitive) → primitive_of (letter_of primitive) ≡ Some primitive
letter_back Boolean = refl
letter_back Byte = refl
letter_back Char = refl
letter_back Short = refl
letter_back Int = refl
letter_back Long = refl
letter_back Float = refl
letter_back Double = refl

primitive_true : (a b : Primitive) → eqb (letter_of a) (letter_of b) ≡ true → a ≡ b
primitive_true a b h = same_Some a b (sym (letter_back a) ∙ ap primitive_of (eqb-true (letter_of a) (letter_of b) h) ∙ letter_back b)

base_true : (a b : BaseType) → same_base a b ≡ true → a ≡ b
base_true (bases.Primitive p) (bases.Primitive q) h = ap bases.Primitive (primitive_true p q h)
base_true (bases.Class x) (bases.Class y) h = ap bases.Class (name_true x y h)
base_true (bases.Primitive p) (bases.Class y) h = absurd (false≢true h)
base_true (bases.Class x) (bases.Primitive q) h = absurd (false≢true h)

base_self : (a : BaseType) → same_base a a ≡ true
base_self (bases.Primitive p) = eq-eqb (letter_of p) (letter_of p) refl
base_self (bases.Class x) = name_self x

type_with : ℕ → BaseType → JType
type_with depth base = record { depth = depth; base = base }

pub type_true : (a b : JType) → same_type a b ≡ true → a ≡ b
unfolding type_with
type_true a b h =
    ap (λ d. type_with d a.base) (eqb-true a.depth b.depth (and_first _ _ h)) ∙ ap (λ base. type_with b.depth base) (base_true a.base b.base (and_second (eqb a.depth b.depth) _ h))

pub type_self : (a : JType) → same_type a a ≡ true
type_self a = and_true _ _ (eq-eqb a.depth a.depth refl) (base_self a.base)

pub type_test : (a b : JType) (r : Bool) → (IsTrue r ↔ (a ≡ b)) → r ≡ same_type a b
type_test a b r h = one_test r _ (λ t. subst (λ d. same_type a d ≡ true) (h.0 t) (type_self a)) (λ t. h.1 (type_true a b t))

pub types_true : (xs ys : List JType) → pointwise same_type xs ys ≡ true → xs ≡ ys
types_true [] [] h = refl
types_true [] (y ∷ ys) h = absurd (false≢true h)
types_true (x ∷ xs) [] h = absurd (false≢true h)
types_true (x ∷ xs) (y ∷ ys) h = ap (λ z. z ∷ xs) (type_true x y (and_first _ _ h)) ∙ ap (λ zs. y ∷ zs) (types_true xs ys (and_second (same_type x y) _ h))

pub types_self : (xs : List JType) → pointwise same_type xs xs ≡ true
types_self [] = refl
types_self (x ∷ xs) = and_true _ _ (type_self x) (types_self xs)

pub result_true : (a b : Option JType) → same_result a b ≡ true → a ≡ b
result_true None None h = refl
result_true (Some x) (Some y) h = ap Some (type_true x y h)
result_true None (Some y) h = absurd (false≢true h)
result_true (Some x) None h = absurd (false≢true h)

pub result_self : (a : Option JType) → same_result a a ≡ true
result_self None = refl
result_self (Some x) = type_self x

desc_with : List JType → Option JType → MethodDesc
desc_with params given = record { params = params; result = given }

pub desc_true : (a b : MethodDesc) → same_desc a b ≡ true → a ≡ b
unfolding desc_with
desc_true a b h =
    ap (λ params. desc_with params a.result) (types_true a.params b.params (and_first _ _ h))
    ∙ ap (λ given. desc_with b.params given) (result_true a.result b.result (and_second (pointwise same_type a.params b.params) _ h))

pub desc_self : (a : MethodDesc) → same_desc a a ≡ true
desc_self a = and_true _ _ (types_self a.params) (result_self a.result)

pub desc_test : (a b : MethodDesc) (r : Bool) → (IsTrue r ↔ (a ≡ b)) → r ≡ same_desc a b
desc_test a b r h = one_test r _ (λ t. subst (λ d. same_desc a d ≡ true) (h.0 t) (desc_self a)) (λ t. h.1 (desc_true a b t))

pub types_test : (xs ys : List JType) (r : Bool) → (IsTrue r ↔ (xs ≡ ys)) → r ≡ pointwise same_type xs ys
types_test xs ys r h = one_test r _ (λ t. subst (λ zs. pointwise same_type xs zs ≡ true) (h.0 t) (types_self xs)) (λ t. h.1 (types_true xs ys t))
