-- The initializers of a class and its superclasses, and the method that a run calls.
use Rattle.std.proofs.Common.{◌≡◌, ◌∙◌, ℕ, ◌<◌, suc, Bool, List, [], ◌∷◌, ◌++◌, length, map, refl, sym, ap, subst, Option, Some, None}
use Rattle.std.specs.Prelude.{slice_get, position, option_map, option_and_then, option_to_list, flat_map, filter_map}
use Rattle.std.specs.List.{cons_option}
use Rattle.class_model.specs.declared.class.MethodDef.{MethodDef}
use Rattle.class_model.specs.declared.class.ClassDef.{ClassDef}
use Rattle.set_lookups.specs.Above.{find_class}
use Rattle.set_lookups.specs.Lookups.{member_in, supers}
use Rattle.class_set.specs.Closed.{Closed}
use Rattle.run_state.specs.State.{Method}
use Rattle.run_state.specs.SetLooks.{shown_method, is_initializer, is_main, main_of, initializers, superclasses}
use Rattle.look_laws.specs.Shown.{method_with, first_with, initializer_at}
use Rattle.look_laws.proofs.Alike.{append_none}
use Rattle.look_laws.proofs.Initial.{main_found, initializers_above}
use Rattle.program_links.specs.Methods.{method_number}
use Rattle.program_links.specs.Each.{Numbered}
use Rattle.program_links.specs.Upwards.{AreClasses}
use Rattle.program_links.specs.Starts.{start_of, start_given}
use Rattle.program_links.specs.RowTo.{StartsWith}
use Rattle.program_links.specs.WorldOf.{name_at, method_shown}
use Rattle.program_links.proofs.Fitting.{item_at, found_at}
use Rattle.program_links.proofs.Members.{shown_where, first_is}

pub first_at : (set : List ClassDef) (test : MethodDef → Bool) (number : ℕ) (class : ClassDef) → slice_get set number ≡ Some class → first_with set test number ≡ member_in number (position test class.methods)
first_at set test number class e = ap (method_with test number) e

-- the method that a run calls
pub main_is : (set : List ClassDef) (number : ℕ) (main : Option ℕ) → Closed set → number < length set → option_map (method_number set) (first_with set is_main number) ≡ main → main_of set (name_at set number) ≡ option_map (method_shown set) main
main_is set number main closed lt e =
    main_found set (name_at set number)
    ∙ ap (λ found. option_and_then (shown_method set) (option_and_then (first_with set is_main) found)) (found_at set number closed lt)
    ∙ shown_where set (first_with set is_main number) (first_is set is_main number)
    ∙ ap (option_map (method_shown set)) e

-- the initializers
one_start : (set : List ClassDef) (number : ℕ) (start : Option ℕ) → StartsWith set number start → initializer_at set number ≡ option_map (method_shown set) start
one_start set number start e = shown_where set (first_with set is_initializer number) (first_is set is_initializer number) ∙ ap (option_map (method_shown set)) e

cons_shown : (f : ℕ → Method) (start : Option ℕ) (rest : List ℕ) → cons_option (option_map f start) (map f rest) ≡ map f (option_to_list start ++ rest)
cons_shown f None rest = refl
cons_shown f (Some n) rest = refl

starts_are : (set : List ClassDef) (starts : List (Option ℕ)) (numbers : List ℕ) → Numbered (StartsWith set) starts (length set) → AreClasses set numbers → filter_map (initializer_at set) numbers ≡ map (method_shown set) (flat_map (start_of starts) numbers)
starts_are set starts [] started are = refl
starts_are set starts (number ∷ numbers) started are =
    let lt : number < length starts = subst (λ k. number < k) (sym started.many) (are 0 number refl) in
    let start = item_at starts number lt in
    ap (λ m. cons_option m (filter_map (initializer_at set) numbers)) (one_start set number start.0 (started.each number start.0 start.1))
    ∙ ap (cons_option (option_map (method_shown set) start.0)) (starts_are set starts numbers started (λ k n at. are (suc k) n at))
    ∙ cons_shown (method_shown set) start.0 (flat_map (start_of starts) numbers)
    ∙ ap (λ front. map (method_shown set) (front ++ flat_map (start_of starts) numbers)) (sym (ap start_given start.1))

pub starting : (set : List ClassDef) (starts : List (Option ℕ)) (numbers : List ℕ) (name : List ℕ) (number : ℕ) (all : List ℕ) → Closed set → find_class set name ≡ Some number → numbers ≡ supers set number → AreClasses set numbers → Numbered (StartsWith set) starts (length set) → all ≡ flat_map (start_of starts) numbers → initializers (superclasses set name) ≡ map (method_shown set) all
starting set starts numbers name number all closed found up are started e =
    initializers_above set closed.acyclic name
    ∙ ap (λ k. filter_map (initializer_at set) (flat_map (supers set) (option_to_list k))) found
    ∙ ap (filter_map (initializer_at set)) (append_none (supers set number) ∙ sym up)
    ∙ starts_are set starts numbers started are
    ∙ ap (map (method_shown set)) (sym e)

pub starting_none : (set : List ClassDef) (name : List ℕ) → Closed set → find_class set name ≡ None → initializers (superclasses set name) ≡ []
starting_none set name closed none =
    initializers_above set closed.acyclic name ∙ ap (λ k. filter_map (initializer_at set) (flat_map (supers set) (option_to_list k))) none
