-- What a class and its superclasses have in turn.
use Rattle.std.proofs.Common.{◌≡◌, ◌∙◌, ℕ, false, List, [], ◌∷◌, ◌++◌, refl, sym, ap, Option, Some, None}
use Rattle.std.specs.Prelude.{flat_map, is_some, option_to_list}
use Rattle.class_model.specs.declared.class.ClassDef.{ClassDef}
use Rattle.set_lookups.specs.Lookups.{super_at, supers}
use Rattle.set_lookups.specs.Rows.{Ranked}
use Rattle.set_lookups.proofs.Settled.{supers_law}

pub none_of : {A : Type 0} (a : Option A) → is_some a ≡ false → a ≡ None
none_of None h = refl
none_of (Some x) h = cc

append_none : {A : Type 0} (xs : List A) → xs ++ [] ≡ xs
append_none [] = refl
append_none (x ∷ xs) = ap (λ ys. x ∷ ys) (append_none xs)

pub up_pieces : {A : Type 0} (g : ℕ → List A) (set : List ClassDef) (ranks : List ℕ) (at next : ℕ) → Ranked set ranks → option_to_list (Some next) ≡ super_at set at → flat_map g (supers set at) ≡ g at ++ flat_map g (supers set next)
up_pieces g set ranks at next r e =
    ap (flat_map g) (supers_law set ranks r at) ∙ ap (λ xs. g at ++ flat_map g (flat_map (supers set) xs)) (sym e) ∙ ap (λ xs. g at ++ flat_map g xs) (append_none (supers set next))

pub top_pieces : {A : Type 0} (g : ℕ → List A) (set : List ClassDef) (ranks : List ℕ) (at : ℕ) → Ranked set ranks → [] ≡ super_at set at → flat_map g (supers set at) ≡ g at
top_pieces g set ranks at r e = ap (flat_map g) (supers_law set ranks r at) ∙ ap (λ xs. g at ++ flat_map g (flat_map (supers set) xs)) (sym e) ∙ append_none (g at)
