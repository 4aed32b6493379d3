-- The main method of a class, and the initializers of a class and its superclasses, by number.
use Rattle.std.proofs.Common.{◌≡◌, ◌∙◌, ℕ, List, [], ◌∷◌, ◌++◌, refl, ap, Option, Some, None}
use Rattle.std.specs.Prelude.{slice_get, filter_map, flat_map, option_to_list, option_and_then}
use Rattle.std.specs.List.{cons_option}
use Rattle.class_model.specs.declared.class.ClassDef.{ClassDef}
use Rattle.set_lookups.specs.Above.{find_class}
use Rattle.set_lookups.specs.Cycle.{cycle}
use Rattle.set_lookups.specs.Lookups.{supers}
use Rattle.run_state.specs.State.{Method}
use Rattle.run_state.specs.References.{given}
use Rattle.run_state.specs.SetLooks.{shown_method, superclasses, is_initializer, initializers, is_main, main_of, method_where}
use Rattle.look_laws.specs.Shown.{method_with, first_with, initializer_at, classes_of}
use Rattle.look_laws.proofs.Alike.{class_of_number, no_class}
use Rattle.look_laws.proofs.Superclasses.{superclasses_named, where_shown}

given_none : (class : Option ClassDef) (f : ClassDef → Option Method) → given class None f ≡ option_and_then f class
given_none None f = refl
given_none (Some c) f = refl

main_in : (set : List ClassDef) (number : ℕ) (found : Option ClassDef) → slice_get set number ≡ found → option_and_then (method_where is_main) found ≡ option_and_then (shown_method set) (method_with is_main number found)
main_in set number None e = refl
main_in set number (Some c) e = where_shown set is_main number c e

main_by : (set : List ClassDef) (main : List ℕ) (number : Option ℕ) → find_class set main ≡ number → main_of set main ≡ option_and_then (shown_method set) (option_and_then (first_with set is_main) number)
main_by set main None e = ap (λ found. given found None (method_where is_main)) (no_class set main e)
main_by set main (Some n) e =
    ap (λ found. given found None (method_where is_main)) (class_of_number set main n e) ∙ given_none (slice_get set n) (method_where is_main) ∙ main_in set n (slice_get set n) refl

-- the method that a run calls
pub main_found : (set : List ClassDef) (main : List ℕ) → main_of set main ≡ option_and_then (shown_method set) (option_and_then (first_with set is_main) (find_class set main))
main_found set main = main_by set main (find_class set main) refl

-- the initializers along classes
given_cons : {A : Type 0} (o : Option A) (xs : List A) → given o xs (λ x. x ∷ xs) ≡ cons_option o xs
given_cons None xs = refl
given_cons (Some x) xs = refl

more_initializers : (set : List ClassDef) (number : ℕ) (numbers : List ℕ) (class : Option ClassDef) → slice_get set number ≡ class → initializers (classes_of set numbers) ≡ filter_map (initializer_at set) numbers → initializers (option_to_list class ++ classes_of set numbers) ≡ cons_option (option_and_then (shown_method set) (method_with is_initializer number class)) (filter_map (initializer_at set) numbers)
more_initializers set number numbers None e same = same
more_initializers set number numbers (Some c) e same =
    given_cons (method_where is_initializer c) (initializers (classes_of set numbers))
    ∙ ap (λ m. cons_option m (initializers (classes_of set numbers))) (where_shown set is_initializer number c e)
    ∙ ap (cons_option (option_and_then (shown_method set) (method_with is_initializer number (Some c)))) same

initializers_along : (set : List ClassDef) (numbers : List ℕ) → initializers (classes_of set numbers) ≡ filter_map (initializer_at set) numbers
initializers_along set [] = refl
initializers_along set (number ∷ numbers) = more_initializers set number numbers (slice_get set number) refl (initializers_along set numbers)

pub initializers_above : (set : List ClassDef) → cycle set ≡ None → (name : List ℕ) → initializers (superclasses set name) ≡ filter_map (initializer_at set) (flat_map (supers set) (option_to_list (find_class set name)))
initializers_above set none name = ap initializers (superclasses_named set none name) ∙ initializers_along set (flat_map (supers set) (option_to_list (find_class set name)))
