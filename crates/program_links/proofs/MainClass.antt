-- The class whose `main` is run, by name.
use Rattle.std.proofs.Common.{◌≡◌, ◌∙◌, ℕ, ◌<◌, List, length, get_or, sym, ap, Option, Some, None}
use Rattle.std.specs.Prelude.{slice_get, position, option_map, option_and_then}
use Rattle.std.proofs.lemmas.List.Quantifiers.{position-Some}
use Rattle.std.proofs.lemmas.Option.{slice_get_within, slice_get-get_or}
use Rattle.class_model.specs.declared.class.MethodDef.{MethodDef}
use Rattle.class_model.specs.declared.class.ClassDef.{ClassDef}
use Rattle.set_lookups.specs.declared.ids.ClassId.{ClassId}
use Rattle.set_lookups.specs.Above.{find_class}
use Rattle.set_lookups.specs.Lookups.{Member, member_of, member_in}
use Rattle.run_state.specs.State.{Method}
use Rattle.run_state.specs.SetLooks.{method_of, shown_method, method_in, is_main, main_of}
use Rattle.run_state.specs.Observation.{HasMain}
use Rattle.look_laws.specs.Shown.{first_with}
use Rattle.look_laws.proofs.Initial.{main_found}
use Rattle.look_laws.proofs.Alike.{There, placed}
use Rattle.program_links.specs.Mains.{IsMainOf}
use Rattle.program_links.proofs.Fitting.{name_found}
use Rattle.program_links.proofs.Started.{first_at}

nothing_found : (set : List ClassDef) (name : List ℕ) → main_of set name ≡ None → HasMain set name → ⊥
nothing_found set name none has = let is = has.found in cc

main_by : (set : List ClassDef) (name : List ℕ) (number : Option ℕ) → find_class set name ≡ number → main_of set name ≡ option_and_then (shown_method set) (option_and_then (first_with set is_main) number)
main_by set name number found = main_found set name ∙ ap (λ (n : Option ℕ). option_and_then (shown_method set) (option_and_then (first_with set is_main) n)) found

-- no class has the name
pub no_class : (set : List ClassDef) (name : List ℕ) → find_class set name ≡ None → HasMain set name → ⊥
no_class set name none = nothing_found set name (main_by set name None none)

-- its class declares none
pub no_main : (set : List ClassDef) (name : List ℕ) (number : ℕ) (class : ClassDef) → find_class set name ≡ Some number → slice_get set number ≡ Some class → position is_main class.methods ≡ None → HasMain set name → ⊥
no_main set name number class found there none =
    nothing_found set name
    (main_by set name (Some number) found
    ∙ ap (λ (m : Option Member). option_and_then (shown_method set) m) (first_at set is_main number class there ∙ ap (member_in number) none))

shown_there : (set : List ClassDef) (number index : ℕ) (class : ClassDef) (method : MethodDef) → slice_get set number ≡ Some class → slice_get class.methods index ≡ Some method → shown_method set (member_of number index) ≡ Some (method_of class method)
shown_there set number index class method there at = ap (option_and_then (method_in index)) there ∙ ap (option_map (method_of class)) at

-- it declares one
pub main_there : (set : List ClassDef) (name : List ℕ) (class : ClassId) (def : ClassDef) (index : ℕ) → find_class set name ≡ Some class.0 → slice_get set class.0 ≡ Some def → position is_main def.methods ≡ Some index → IsMainOf set name class
main_there set name class def index found there at =
    let method : There is_main def.methods index = placed is_main def.methods index at in
    record {
      there = slice_get_within set class.0 def there;
      named = name_found set name class.0 found;
      has = record {
        method = method_of def method.item;
        found = main_by set name (Some class.0) found
            ∙ ap (λ (m : Option Member). option_and_then (shown_method set) m) (first_at set is_main class.0 def there ∙ ap (member_in class.0) at)
            ∙ shown_there set class.0 index def method.item there method.at;
      };
    }
