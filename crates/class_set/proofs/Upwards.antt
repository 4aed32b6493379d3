-- The way up the superclasses, and what the classes there have.
use Rattle.std.proofs.Common.{◌≡◌, ◌∙◌, ℕ, ◌||◌, suc, Bool, true, false, List, [], ◌∷◌, ◌++◌, length, refl, sym, ap, Option, Some, None}
use Rattle.std.specs.Prelude.{flat_map, slice_get, option_to_list}
use Rattle.std.specs.List.{list_any}
use Rattle.std.proofs.lemmas.List.Folds.{list_any-append}
use Rattle.class_model.specs.declared.class.MethodDef.{MethodDef}
use Rattle.class_model.specs.declared.class.ClassDef.{ClassDef}
use Rattle.set_lookups.specs.Above.{at_class}
use Rattle.set_lookups.specs.First.{holds_of}
use Rattle.set_lookups.specs.Lookups.{super_at, chain, supers}
use Rattle.class_set.specs.FinalSuper.{classes_at, methods_at}
use Rattle.class_set.specs.Upwards.{methods_of}

pub append_none : {A : Type 0} (xs : List A) → xs ++ [] ≡ xs
append_none [] = refl
append_none (x ∷ xs) = ap (λ ys. x ∷ ys) (append_none xs)

-- the way up
pub one_way : (set : List ClassDef) (number : ℕ) → flat_map (chain (length set) set) (number ∷ []) ≡ supers set number
unfolding supers
one_way set number = append_none (chain (length set) set number)

pub ways : (set : List ClassDef) (numbers : List ℕ) → flat_map (chain (length set) set) numbers ≡ flat_map (supers set) numbers
unfolding supers
ways set numbers = refl

pub last_step : (left : ℕ) (set : List ClassDef) (number : ℕ) → left ≡ 0 → flat_map (chain left set) (number ∷ []) ≡ number ∷ []
unfolding chain
last_step left set number e = ap (λ n. flat_map (chain n set) (number ∷ [])) e

pub further_step : (left below : ℕ) (set : List ClassDef) (number : ℕ) (highers : List ℕ) → left ≡ suc below → highers ≡ super_at set number → flat_map (chain left set) (number ∷ []) ≡ number ∷ flat_map (chain below set) highers
unfolding chain
further_step left below set number highers e same =
    ap (λ n. flat_map (chain n set) (number ∷ [])) e ∙ append_none (number ∷ flat_map (chain below set) (super_at set number)) ∙ ap (λ xs. number ∷ flat_map (chain below set) xs) (sym same)

-- one class among some, and its methods
or_none : (b : Bool) → (b || false) ≡ b
or_none true = refl
or_none false = refl

any_class : (test : ClassDef → Bool) (class : Option ClassDef) → list_any test (option_to_list class) ≡ holds_of test class
any_class test None = refl
any_class test (Some class) = or_none (test class)

pub any_of_classes : (test : ClassDef → Bool) (set : List ClassDef) (numbers : List ℕ) → list_any (λ number. holds_of test (slice_get set number)) numbers ≡ list_any test (classes_at set numbers)
any_of_classes test set [] = refl
any_of_classes test set (number ∷ numbers) =
    ap (λ b. b || list_any (λ n. holds_of test (slice_get set n)) numbers) (sym (any_class test (slice_get set number)))
    ∙ ap (λ b. list_any test (option_to_list (slice_get set number)) || b) (any_of_classes test set numbers)
    ∙ sym (list_any-append test (option_to_list (slice_get set number)) (classes_at set numbers))

pub one_of_classes : (test : ClassDef → Bool) (set : List ClassDef) (numbers : List ℕ) (number : ℕ) → number ∷ [] ≡ numbers → holds_of test (slice_get set number) ≡ list_any test (classes_at set numbers)
one_of_classes test set numbers number e = sym (or_none (holds_of test (slice_get set number))) ∙ any_of_classes test set (number ∷ []) ∙ ap (λ ns. list_any test (classes_at set ns)) e

methods_in : (class : Option ClassDef) (rest : List ClassDef) → flat_map (λ c. c.methods) (option_to_list class ++ rest) ≡ at_class (λ c. c.methods) class ++ flat_map (λ c. c.methods) rest
methods_in None rest = refl
methods_in (Some class) rest = refl

pub one_more : (test : MethodDef → Bool) (set : List ClassDef) (number : ℕ) (numbers : List ℕ) → list_any test (methods_at set (number ∷ numbers)) ≡ (list_any test (methods_of set number) || list_any test (methods_at set numbers))
one_more test set number numbers =
    ap (list_any test) (methods_in (slice_get set number) (classes_at set numbers)) ∙ list_any-append test (methods_of set number) (methods_at set numbers)
