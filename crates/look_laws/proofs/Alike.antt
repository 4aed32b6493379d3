-- Names, types and descriptors are the same by the one definition where they are by the other, and where a class of a name is.
use Rattle.std.proofs.Common.{◌≡◌, ◌∙◌, ℕ, Bool, true, false, ◌&&◌, ◌==◌, cond, ltb, List, [], ◌∷◌, ◌++◌, length, get_or, refl, ap, Option, Some, None}
use Rattle.std.specs.Prelude.{slice_get, find, position, option_and_then}
use Rattle.std.specs.List.{position_or_len}
use Rattle.std.specs.Cmp.Lexicographic.{pointwise}
use Rattle.std.proofs.lemmas.Bool.{ltb-false}
use Rattle.std.proofs.lemmas.Option.{slice_get_past, slice_get-get_or, none-some}
use Rattle.std.proofs.lemmas.List.Folds.{find_at}
use Rattle.std.proofs.lemmas.List.Quantifiers.{position-Some}
use Rattle.class_model.specs.declared.types.BaseType.{BaseType}
use Rattle.class_model.specs.declared.types.BaseType.TheVariants as base
use Rattle.class_model.specs.declared.types.JType.{JType}
use Rattle.class_model.specs.declared.types.MethodDesc.{MethodDesc}
use Rattle.class_model.specs.declared.class.ClassDef.{ClassDef}
use Rattle.set_lookups.specs.Above.{same_name, find_class}
use Rattle.set_lookups.specs.Same as look
use Rattle.run_state.specs.Texts as run
use Rattle.run_state.specs.SetLooks.{class_named}

pub bases_alike : (a b : BaseType) → run.same_base a b ≡ look.same_base a b
bases_alike (base.Primitive p) (base.Primitive q) = refl
bases_alike (base.Primitive p) (base.Class d) = refl
bases_alike (base.Class c) (base.Primitive q) = refl
bases_alike (base.Class c) (base.Class d) = refl

pub types_alike : (a b : JType) → run.same_type a b ≡ look.same_type a b
types_alike a b = ap (λ t. (a.depth == b.depth) && t) (bases_alike a.base b.base)

results_alike : (a b : Option JType) → run.same_result a b ≡ look.same_result a b
results_alike None None = refl
results_alike None (Some b) = refl
results_alike (Some a) None = refl
results_alike (Some a) (Some b) = types_alike a b

pub pointwise_alike : {A : Type 0} (f g : A → A → Bool) (xs ys : List A) → ((x y : A) → f x y ≡ g x y) → pointwise f xs ys ≡ pointwise g xs ys
pointwise_alike f g [] [] h = refl
pointwise_alike f g [] (y ∷ ys) h = refl
pointwise_alike f g (x ∷ xs) [] h = refl
pointwise_alike f g (x ∷ xs) (y ∷ ys) h = ap (λ b. b && pointwise f xs ys) (h x y) ∙ ap (λ b. g x y && b) (pointwise_alike f g xs ys h)

pub descs_alike : (a b : MethodDesc) → run.same_desc a b ≡ look.same_desc a b
descs_alike a b =
    ap (λ t. t && run.same_result a.result b.result) (pointwise_alike run.same_type look.same_type a.params b.params types_alike)
    ∙ ap (λ t. pointwise look.same_type a.params b.params && t) (results_alike a.result b.result)

-- the first item that passes a test, and its place
found_at : {A : Type 0} (xs : List A) (i : ℕ) (b : Bool) → ltb i (length xs) ≡ b → slice_get xs i ≡ option_and_then (slice_get xs) (cond b (Some i) None)
found_at xs i true e = refl
found_at xs i false e = slice_get_past xs i (ltb-false i (length xs) e)

pub find_place : {A : Type 0} (test : A → Bool) (xs : List A) → find test xs ≡ option_and_then (slice_get xs) (position test xs)
find_place test xs = find_at test xs ∙ found_at xs (position_or_len test xs) (ltb (position_or_len test xs) (length xs)) refl

-- an item that is there
pub record There {A : Type 0} (test : A → Bool) (xs : List A) (i : ℕ) : Type 0 where
  pub item : A
  pub at : slice_get xs i ≡ Some item
  pub passes : test item ≡ true

pub placed : {A : Type 0} (test : A → Bool) (xs : List A) (i : ℕ) → position test xs ≡ Some i → There test xs i
placed test [] i h = absurd (none-some i h)
placed test (x ∷ xs) i h =
    let p = position-Some test (x ∷ xs) i x h in
    record { item = get_or (x ∷ xs) i x; at = slice_get-get_or (x ∷ xs) i x p.0; passes = p.1 }

pub find_alike : {A : Type 0} (f g : A → Bool) (xs : List A) → ((x : A) → f x ≡ g x) → find f xs ≡ find g xs
find_alike f g [] h = refl
find_alike f g (x ∷ xs) h = ap (λ b. cond b (Some x) (find f xs)) (h x) ∙ ap (λ rest. cond (g x) (Some x) rest) (find_alike f g xs h)

pub append_none : {A : Type 0} (xs : List A) → xs ++ [] ≡ xs
append_none [] = refl
append_none (x ∷ xs) = ap (λ ys. x ∷ ys) (append_none xs)

pub class_by_number : (set : List ClassDef) (name : List ℕ) → class_named set name ≡ option_and_then (slice_get set) (find_class set name)
class_by_number set name = find_place (λ c. same_name c.name name) set

pub no_class : (set : List ClassDef) (name : List ℕ) → find_class set name ≡ None → class_named set name ≡ None
no_class set name e = class_by_number set name ∙ ap (option_and_then (slice_get set)) e

pub class_of_number : (set : List ClassDef) (name : List ℕ) (number : ℕ) → find_class set name ≡ Some number → class_named set name ≡ slice_get set number
class_of_number set name number e = class_by_number set name ∙ ap (option_and_then (slice_get set)) e
