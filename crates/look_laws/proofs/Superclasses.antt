-- A class and its superclasses upwards, by name and by number, and the first method along them.
use Rattle.std.proofs.Common.{◌≡◌, ◌∙◌, ℕ, zero, suc, Bool, List, [], ◌∷◌, ◌++◌, length, refl, sym, ap, Option, Some, None}
use Rattle.std.specs.Prelude.{slice_get, filter_map, flat_map, find, position, option_to_list, option_map, option_and_then}
use Rattle.std.specs.Option.{option_or}
use Rattle.std.specs.List.{cons_option}
use Rattle.class_model.specs.declared.types.MethodDesc.{MethodDesc}
use Rattle.class_model.specs.declared.class.MethodDef.{MethodDef}
use Rattle.class_model.specs.declared.class.ClassDef.{ClassDef}
use Rattle.set_lookups.specs.Above.{find_class, super_of, at_class}
use Rattle.set_lookups.specs.Cycle.{cycle}
use Rattle.set_lookups.specs.First.{first}
use Rattle.set_lookups.specs.Lookups.{Member, member_of, member_in, has_method, declared, method_here, chain, supers}
use Rattle.set_lookups.proofs.Settled.{direct_super}
use Rattle.run_state.specs.State.{Method}
use Rattle.run_state.specs.References.{given}
use Rattle.run_state.specs.SetLooks.{chain_of, superclasses, method_of, method_in, shown_method, method_where, first_where}
use Rattle.look_laws.specs.Shown.{method_with, classes_of}
use Rattle.look_laws.proofs.Ways.{Ends, ends, found_within}
use Rattle.look_laws.proofs.Alike.{placed, find_place, find_alike, append_none, no_class, class_of_number}

pub chain_none : (k : ℕ) (set : List ClassDef) → chain_of k set None ≡ []
chain_none zero set = refl
chain_none (suc k) set = refl

pub chain_nowhere : (k : ℕ) (set : List ClassDef) (name : List ℕ) → find_class set name ≡ None → chain_of k set (Some name) ≡ []
chain_nowhere zero set name e = refl
chain_nowhere (suc k) set name e = ap (λ found. given found [] (λ c. c ∷ chain_of k set c.super_name)) (no_class set name e)

-- what is said of a class that a name has
abbrev Named : ℕ → List ClassDef → Type 0
Named k set = (name : List ℕ) (number : ℕ) → find_class set name ≡ Some number → Ends k set number → chain_of k set (Some name) ≡ classes_of set (chain k set number)

super_by : (k : ℕ) (set : List ClassDef) (name : List ℕ) (found : Option ℕ) → find_class set name ≡ found → Named k set → ((high : ℕ) → found ≡ Some high → Ends k set high) → chain_of k set (Some name) ≡ classes_of set (flat_map (chain k set) (option_to_list found))
super_by k set name None e named ends = chain_nowhere k set name e
super_by k set name (Some high) e named ends = named name high e (ends high refl) ∙ ap (classes_of set) (sym (append_none (chain k set high)))

as_list : (found : Option ℕ) → option_to_list found ≡ cons_option found []
as_list None = refl
as_list (Some n) = refl

super_chain : (k : ℕ) (set : List ClassDef) (above : Option (List ℕ)) → Named k set → ((high : ℕ) → slice_get (filter_map (find_class set) (option_to_list above)) 0 ≡ Some high → Ends k set high) → chain_of k set above ≡ classes_of set (flat_map (chain k set) (filter_map (find_class set) (option_to_list above)))
super_chain k set None named ends = chain_none k set
super_chain k set (Some name) named ends =
    super_by k set name (find_class set name) refl named (λ high e. ends high (ap (λ found. slice_get (cons_option found []) 0) e))
    ∙ ap (λ numbers. classes_of set (flat_map (chain k set) numbers)) (as_list (find_class set name))

chain_by : (k : ℕ) (set : List ClassDef) (number : ℕ) (found : Option ClassDef) → slice_get set number ≡ found → Ends (suc k) set number → Named k set → given found [] (λ c. c ∷ chain_of k set c.super_name) ≡ option_to_list found ++ classes_of set (flat_map (chain k set) (at_class (super_of set) found))
chain_by k set number None e ends named = refl
chain_by k set number (Some c) e ends named =
    ap (λ rest. c ∷ rest)
    (super_chain k set c.super_name named (λ high at. ends high (direct_super set number 0 high (ap (λ found. slice_get (at_class (super_of set) found) 0) e ∙ at))))

pub chain_named : (k : ℕ) (set : List ClassDef) → Named k set
unfolding chain
chain_named zero set name number e ends = absurd ends
chain_named (suc k) set name number e ends =
    ap (λ found. given found [] (λ c. c ∷ chain_of k set c.super_name)) (class_of_number set name number e) ∙ chain_by k set number (slice_get set number) refl ends (chain_named k set)

-- the superclasses of a name
pub superclasses_named : (set : List ClassDef) → cycle set ≡ None → (name : List ℕ) → superclasses set name ≡ classes_of set (flat_map (supers set) (option_to_list (find_class set name)))
unfolding supers
superclasses_named set none name =
    super_by (length set) set name (find_class set name) refl (chain_named (length set) set) (λ high e. ends set none high (found_within set name high e))

-- the first method along classes
none_here : (test : MethodDef → Bool) (c : ClassDef) (rest : Option Method) → find test c.methods ≡ None → given (method_where test c) rest Some ≡ rest
none_here test c rest e = ap (λ found. given (option_map (method_of c) found) rest Some) e

one_here : (test : MethodDef → Bool) (c : ClassDef) (rest : Option Method) (d : MethodDef) → find test c.methods ≡ Some d → given (method_where test c) rest Some ≡ Some (method_of c d)
one_here test c rest d e = ap (λ found. given (option_map (method_of c) found) rest Some) e

shown_there : (set : List ClassDef) (number i : ℕ) (c : ClassDef) (d : MethodDef) → slice_get set number ≡ Some c → slice_get c.methods i ≡ Some d → shown_method set (member_of number i) ≡ Some (method_of c d)
shown_there set number i c d e at = ap (option_and_then (method_in i)) e ∙ ap (option_map (method_of c)) at

-- the first method of a class that passes a test
where_by : (set : List ClassDef) (test : MethodDef → Bool) (number : ℕ) (c : ClassDef) (place : Option ℕ) → slice_get set number ≡ Some c → position test c.methods ≡ place → method_where test c ≡ option_and_then (shown_method set) (member_in number place)
where_by set test number c None e at = ap (option_map (method_of c)) (find_place test c.methods ∙ ap (option_and_then (slice_get c.methods)) at)
where_by set test number c (Some i) e at =
    let p = placed test c.methods i at in
    ap (option_map (method_of c)) (find_place test c.methods ∙ ap (option_and_then (slice_get c.methods)) at ∙ p.at) ∙ sym (shown_there set number i c p.item e p.at)

pub where_shown : (set : List ClassDef) (test : MethodDef → Bool) (number : ℕ) (c : ClassDef) → slice_get set number ≡ Some c → method_where test c ≡ option_and_then (shown_method set) (method_with test number (Some c))
where_shown set test number c e = where_by set test number c (position test c.methods) e refl

first_in : (set : List ClassDef) (test wanted : MethodDef → Bool) (number : ℕ) (c : ClassDef) (place : Option ℕ) (rest : Option Method) (others : Option Member) → slice_get set number ≡ Some c → ((d : MethodDef) → test d ≡ wanted d) → position wanted c.methods ≡ place → rest ≡ option_and_then (shown_method set) others → given (method_where test c) rest Some ≡ option_and_then (shown_method set) (option_or (member_in number place) others)
first_in set test wanted number c None rest others e alike at same =
    none_here test c rest (find_alike test wanted c.methods alike ∙ find_place wanted c.methods ∙ ap (option_and_then (slice_get c.methods)) at) ∙ same
first_in set test wanted number c (Some i) rest others e alike at same =
    let p = placed wanted c.methods i at in
    one_here test c rest p.item (find_alike test wanted c.methods alike ∙ find_place wanted c.methods ∙ ap (option_and_then (slice_get c.methods)) at ∙ p.at)
    ∙ sym (shown_there set number i c p.item e p.at)

first_by : (set : List ClassDef) (test : MethodDef → Bool) (name : List ℕ) (desc : MethodDesc) (wanted : MethodDef → Bool) (number : ℕ) (numbers : List ℕ) (class : Option ClassDef) → slice_get set number ≡ class → ((d : MethodDef) → test d ≡ has_method name desc wanted d) → first_where test (classes_of set numbers) ≡ option_and_then (shown_method set) (first (declared set name desc wanted) numbers) → first_where test (option_to_list class ++ classes_of set numbers) ≡ option_and_then (shown_method set) (option_or (method_here name desc wanted number class) (first (declared set name desc wanted) numbers))
first_by set test name desc wanted number numbers None e alike same = same
first_by set test name desc wanted number numbers (Some c) e alike same =
    first_in set test (has_method name desc wanted) number c (position (has_method name desc wanted) c.methods) (first_where test (classes_of set numbers)) (first (declared set name desc wanted) numbers) e alike refl same

pub first_shown : (set : List ClassDef) (test : MethodDef → Bool) (name : List ℕ) (desc : MethodDesc) (wanted : MethodDef → Bool) (numbers : List ℕ) → ((d : MethodDef) → test d ≡ has_method name desc wanted d) → first_where test (classes_of set numbers) ≡ option_and_then (shown_method set) (first (declared set name desc wanted) numbers)
unfolding first
first_shown set test name desc wanted [] alike = refl
first_shown set test name desc wanted (number ∷ numbers) alike =
    first_by set test name desc wanted number numbers (slice_get set number) refl alike (first_shown set test name desc wanted numbers alike)

-- a look-up along the superclasses of a class, where there is one
pub first_along : {A : Type 0} (f : ℕ → Option A) (set : List ClassDef) (number : Option ℕ) → first f (flat_map (supers set) (option_to_list number)) ≡ option_and_then (λ n. first f (supers set n)) number
unfolding first
first_along f set None = refl
first_along f set (Some n) = ap (first f) (append_none (supers set n))
