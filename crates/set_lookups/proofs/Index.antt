-- What the index answers of a list of classes.
use Rattle.std.proofs.Common.{◌≡◌, ◌∙◌, ℕ, ◌<◌, ◌+◌, Bool, true, List, [], ◌∷◌, ◌++◌, map, cond, length, refl, sym, ap, subst, Option, Some, None, arith}
use Rattle.std.specs.Prelude.{slice_get, option_map, option_copied, option_to_list, position, flat_map}
use Rattle.std.specs.Option.{option_or}
use Rattle.std.specs.List.{position_from}
use Rattle.std.proofs.lemmas.Option.{same_Some, slice_get-map}
use Rattle.std.proofs.lemmas.Iterator.Adapters.{position_from-zero}
use Rattle.class_model.specs.declared.class.ClassDef.{ClassDef}
use Rattle.set_lookups.specs.declared.row.Row.{Row}
use Rattle.set_lookups.specs.Above.{same_name, find_class, super_of, interfaces_of, at_class}
use Rattle.set_lookups.specs.First.{first}
use Rattle.set_lookups.specs.Lookups.{supers, super_at, interfaces_at}
use Rattle.set_lookups.specs.Rows.{AreRows, Ranked, Shows}
use Rattle.set_lookups.proofs.Lists.{or_none}
use Rattle.set_lookups.proofs.Settled.{supers_law}
use Rattle.set_lookups.specs.SameTypes.{one_test, name_self, name_true}
use denote.Ref.{Bor}

-- rows
there : (g : ClassDef → List ℕ) (y : List ℕ) (class : Option ClassDef) → Some y ≡ option_map g class → y ≡ at_class g class
there g y None e = cc
there g y (Some class) e = same_Some y (g class) e

gone : (g : ClassDef → List ℕ) (class : Option ClassDef) → None ≡ option_map g class → at_class g class ≡ []
gone g None e = refl
gone g (Some class) e = cc

row_at : (f : Row → List ℕ) (g : ClassDef → List ℕ) (rows : List Row) (set : List ClassDef) (at : ℕ) (row : Option Row) → map f rows ≡ map g set → row ≡ slice_get rows at → option_map f row ≡ option_map g (slice_get set at)
row_at f g rows set at row same e = ap (option_map f) e ∙ sym (slice_get-map f rows at) ∙ ap (λ xs. slice_get xs at) same ∙ slice_get-map g set at

row_super : Row → List ℕ
row_super row = option_to_list row.superclass

row_interfaces : Row → List ℕ
row_interfaces row = row.interfaces

pub no_row : (set : List ClassDef) (rows : List Row) (at : ℕ) → AreRows set rows → None ≡ slice_get rows at → (super_at set at ≡ []) × (interfaces_at set at ≡ [])
unfolding row_super row_interfaces
no_row set rows at linked e = (
  gone (super_of set) (slice_get set at) (row_at row_super (super_of set) rows set at None linked.supers e),
  gone (interfaces_of set) (slice_get set at) (row_at row_interfaces (interfaces_of set) rows set at None linked.interfaces e),
)

pub row_links : (set : List ClassDef) (rows : List Row) (at : ℕ) (row : Row) → AreRows set rows → Some row ≡ slice_get rows at → (option_to_list row.superclass ≡ super_at set at) × (row.interfaces ≡ interfaces_at set at)
unfolding row_super row_interfaces
row_links set rows at row linked e = (
  there (super_of set) (option_to_list row.superclass) (slice_get set at) (row_at row_super (super_of set) rows set at (Some row) linked.supers e),
  there (interfaces_of set) row.interfaces (slice_get set at) (row_at row_interfaces (interfaces_of set) rows set at (Some row) linked.interfaces e),
)

pub row_shows : (set : List ClassDef) (rows : List Row) (at : ℕ) (found : Option (Bor Row)) → AreRows set rows → option_copied found ≡ slice_get rows at → Shows set at found
row_shows set rows at None linked e = no_row set rows at linked e
row_shows set rows at (Some row) linked e = row_links set rows at row.now linked e

-- names
name_back : (x y : List ℕ) → same_name x y ≡ same_name y x
name_back x y =
    one_test (same_name x y) (same_name y x) (λ t. subst (λ z. same_name z x ≡ true) (name_true x y t) (name_self x)) (λ t. subst (λ z. same_name z y ≡ true) (name_true y x t) (name_self y))

place_from : {A B : Type 0} (f : B → Bool) (g : A → Bool) (v : A → B) → ((x : A) → f (v x) ≡ g x) → (i : ℕ) (xs : List A) → position_from f i (map v xs) ≡ position_from g i xs
place_from f g v h i [] = refl
place_from f g v h i (x ∷ xs) = ap (λ b. cond b (Some i) (position_from f (i + 1) (map v xs))) (h x) ∙ ap (λ rest. cond (g x) (Some i) rest) (place_from f g v h (i + 1) xs)

pub place_in_names : (set : List ClassDef) (name : List ℕ) → position (same_name name) (map (λ class. class.name) set) ≡ find_class set name
place_in_names set name =
    position_from-zero (same_name name) (map (λ class. class.name) set)
    ∙ place_from (same_name name) (λ class. same_name class.name name) (λ class. class.name) (λ class. name_back name class.name) 0 set
    ∙ sym (position_from-zero (λ class. same_name class.name name) set)

-- a look-up along a class and its superclasses
one_up : {A : Type 0} (f : ℕ → Option A) (set : List ClassDef) (at : ℕ) (highers : List ℕ) → highers ≡ super_at set at → first f (at ∷ flat_map (supers set) (super_at set at)) ≡ option_or (f at) (first f (flat_map (supers set) highers))
unfolding first
one_up f set at highers e = ap (λ xs. option_or (f at) (first f (flat_map (supers set) xs))) (sym e)

pub at_top : {A : Type 0} (f : ℕ → Option A) (set : List ClassDef) (ranks : List ℕ) (at : ℕ) → Ranked set ranks → [] ≡ super_at set at → first f (supers set at) ≡ f at
unfolding first
at_top f set ranks at r e = ap (first f) (supers_law set ranks r at) ∙ one_up f set at [] e ∙ or_none (f at)

joined_one : (xs : List ℕ) → xs ++ [] ≡ xs
joined_one [] = refl
joined_one (x ∷ xs) = ap (λ ys. x ∷ ys) (joined_one xs)

pub up_from : {A : Type 0} (f : ℕ → Option A) (set : List ClassDef) (ranks : List ℕ) (at next : ℕ) → Ranked set ranks → option_to_list (Some next) ≡ super_at set at → first f (supers set at) ≡ option_or (f at) (first f (supers set next))
up_from f set ranks at next r e =
    ap (first f) (supers_law set ranks r at) ∙ one_up f set at (next ∷ []) e ∙ ap (λ xs. option_or (f at) (first f xs)) (joined_one (supers set next))

pub found_here : {A : Type 0} (f : ℕ → Option A) (set : List ClassDef) (ranks : List ℕ) (at : ℕ) (answer : A) → Ranked set ranks → f at ≡ Some answer → first f (supers set at) ≡ Some answer
found_here f set ranks at answer r e = ap (first f) (supers_law set ranks r at) ∙ one_up f set at (super_at set at) refl ∙ ap (λ b. option_or b (first f (flat_map (supers set) (super_at set at)))) e

pub found_above : {A : Type 0} (f : ℕ → Option A) (set : List ClassDef) (ranks : List ℕ) (at next : ℕ) → Ranked set ranks → f at ≡ None → option_to_list (Some next) ≡ super_at set at → first f (supers set at) ≡ first f (supers set next)
found_above f set ranks at next r none e = up_from f set ranks at next r e ∙ ap (λ b. option_or b (first f (supers set next))) none

length_up : (set : List ClassDef) (ranks : List ℕ) (at next : ℕ) → Ranked set ranks → option_to_list (Some next) ≡ super_at set at → length (supers set at) ≡ length (at ∷ supers set next)
length_up set ranks at next r e =
    ap length (supers_law set ranks r at) ∙ ap (λ xs. length (at ∷ flat_map (supers set) xs)) (sym e) ∙ ap (λ xs. length (at ∷ xs)) (joined_one (supers set next))

pub shorter : (set : List ClassDef) (ranks : List ℕ) (at next : ℕ) → Ranked set ranks → option_to_list (Some next) ≡ super_at set at → length (supers set next) < length (supers set at)
shorter set ranks at next r e = omega (arith, length_up set ranks at next r e)
