-- Counts of what stands in front of a class's own methods and fields.
use Rattle.std.proofs.Common.{◌≡◌, ◌∙◌, ℕ, ◌+◌, ◌<◌, ◌≤◌, zero, suc, List, [], ◌∷◌, ◌++◌, length, map, take, filter, reverse, refl, sym, ap, subst, Option, Some, None, arith, zero-add, ◌⊎◌, inl, inr}
use Rattle.std.specs.Prelude.{slice_get, flat_map}
use Rattle.std.proofs.lemmas.Option.{same_Some, none-some, slice_get_within}
use Rattle.std.proofs.lemmas.Bool.{cases_lt}
use Rattle.std.proofs.lemmas.List.{length-append}
use Rattle.std.proofs.lemmas.Grind.{reverse_onto}
use Rattle.class_model.specs.declared.class.ClassDef.{ClassDef}
use Rattle.set_lookups.specs.Above.{find_class}
use Rattle.set_lookups.proofs.Lists.{at_left}
use Rattle.run_state.specs.References.{given}
use Rattle.run_state.specs.SetLooks.{chain_of, instance_fields, static_fields, reference_to, method_of, layout, all_statics}
use Rattle.look_laws.specs.Shown.{is_of_object, is_of_class, layout_above, statics_before}
use Rattle.look_laws.proofs.Alike.{append_none, class_of_number}
use Rattle.look_laws.proofs.Superclasses.{chain_none, chain_nowhere}
use Rattle.program_links.specs.declared.before.Before.{Before}
use Rattle.program_links.specs.Methods.{class_methods, set_methods, methods_before}
use Rattle.program_links.specs.Before.{IsBefore, HasBefore, AreBefore, field_count}

count_map : {A B : Type 0} (f : A → B) (xs : List A) → length (map f xs) ≡ length xs
count_map f [] = refl
count_map f (x ∷ xs) = ap suc (count_map f xs)

-- fields of an object, class by class upwards
count_joined : (xs ys : List ClassDef) → field_count (xs ++ ys) ≡ field_count xs + field_count ys
count_joined [] ys = omega arith
count_joined (x ∷ xs) ys = let rest = count_joined xs ys in omega (arith, rest)

count_flat : (classes : List ClassDef) → length (flat_map instance_fields classes) ≡ field_count classes
count_flat [] = refl
count_flat (c ∷ classes) = length-append (instance_fields c) (flat_map instance_fields classes) ∙ ap (λ n. length (instance_fields c) + n) (count_flat classes)

count_back : (classes : List ClassDef) → field_count (reverse classes) ≡ field_count classes
count_back [] = refl
count_back (c ∷ classes) =
    let one : field_count (c ∷ []) ≡ length (instance_fields c) = omega arith in
    let joined = count_joined (reverse classes) (c ∷ []) in
    let rest = count_back classes in
    ap field_count (reverse_onto classes c []) ∙ omega (arith, one, joined, rest)

above_by : (set : List ClassDef) (above : Option (List ℕ)) → length (given above [] (layout set)) ≡ field_count (chain_of (length set) set above)
above_by set None = ap field_count (sym (chain_none (length set) set))
above_by set (Some name) = count_flat (reverse (chain_of (length set) set (Some name))) ∙ count_back (chain_of (length set) set (Some name))

pub first_count : (set : List ClassDef) (class : ClassDef) (left : ℕ) → left ≡ length set → length (layout_above set class) ≡ 0 + field_count (chain_of left set class.super_name)
first_count set class left e = above_by set class.super_name ∙ ap (λ k. field_count (chain_of k set class.super_name)) (sym e) ∙ omega arith

pub no_more : (left : ℕ) (set : List ClassDef) → field_count (chain_of left set None) ≡ 0
no_more left set = ap field_count (chain_none left set)

pub nowhere_more : (left : ℕ) (set : List ClassDef) (name : List ℕ) → find_class set name ≡ None → field_count (chain_of left set (Some name)) ≡ 0
nowhere_more left set name e = ap field_count (chain_nowhere left set name e)

one_step : (below : ℕ) (set : List ClassDef) (name : List ℕ) (number : ℕ) (c : ClassDef) → find_class set name ≡ Some number → slice_get set number ≡ Some c → field_count (chain_of (suc below) set (Some name)) ≡ length (filter is_of_object c.fields) + field_count (chain_of below set c.super_name)
one_step below set name number c f e =
    ap (λ found. field_count (given found [] (λ k. k ∷ chain_of below set k.super_name))) (class_of_number set name number f ∙ e)
    ∙ ap (λ n. n + field_count (chain_of below set c.super_name)) (count_map (reference_to c) (filter is_of_object c.fields))

pub one_up : (left below : ℕ) (set : List ClassDef) (name : List ℕ) (number : ℕ) (c : ClassDef) → find_class set name ≡ Some number → slice_get set number ≡ Some c → left ≡ suc below → field_count (chain_of left set (Some name)) ≡ length (filter is_of_object c.fields) + field_count (chain_of below set c.super_name)
one_up left below set name number c f e l = ap (λ k. field_count (chain_of k set (Some name))) l ∙ one_step below set name number c f e

pub at_end : (left : ℕ) (set : List ClassDef) (next : Option (List ℕ)) → left ≡ 0 → field_count (chain_of left set next) ≡ 0
at_end left set next e = ap (λ k. field_count (chain_of k set next)) e

-- the next class
more_methods : (set : List ClassDef) (number : ℕ) (c : ClassDef) → slice_get set number ≡ Some c → length (set_methods (take (suc number) set)) ≡ length (set_methods (take number set)) + length c.methods
more_methods [] number c e = absurd (none-some c e)
more_methods (x ∷ set) zero c e =
    let same : x ≡ c = same_Some x c e in
    ap length (append_none (class_methods x)) ∙ count_map (method_of x) x.methods ∙ ap (λ (k : ClassDef). length k.methods) same ∙ sym (zero-add (length c.methods))
more_methods (x ∷ set) (suc number) c e =
    let rest = more_methods set number c e in
    let left = length-append (class_methods x) (set_methods (take (suc number) set)) in
    let right = length-append (class_methods x) (set_methods (take number set)) in
    omega (arith, rest, left, right)

pub methods_more : (set : List ClassDef) (number next : ℕ) (c : ClassDef) → slice_get set number ≡ Some c → next ≡ number + 1 → methods_before set next ≡ methods_before set number + length c.methods
methods_more set number next c e n = let m : next ≡ suc number = omega (arith, n) in ap (methods_before set) m ∙ more_methods set number c e

more_statics : (set : List ClassDef) (number : ℕ) (c : ClassDef) → slice_get set number ≡ Some c → length (all_statics (take (suc number) set)) ≡ length (all_statics (take number set)) + length (filter is_of_class c.fields)
more_statics [] number c e = absurd (none-some c e)
more_statics (x ∷ set) zero c e =
    let same : x ≡ c = same_Some x c e in
    ap length (append_none (map (reference_to x) (static_fields x))) ∙ count_map (reference_to x) (static_fields x) ∙ ap (λ (k : ClassDef). length (filter is_of_class k.fields)) same ∙ sym (zero-add (length (filter is_of_class c.fields)))
more_statics (x ∷ set) (suc number) c e =
    let own = map (reference_to x) (static_fields x) in
    let rest = more_statics set number c e in
    let left = length-append own (all_statics (take (suc number) set)) in
    let right = length-append own (all_statics (take number set)) in
    omega (arith, rest, left, right)

pub statics_more : (set : List ClassDef) (number next : ℕ) (c : ClassDef) → slice_get set number ≡ Some c → next ≡ number + 1 → length (statics_before set next) ≡ length (statics_before set number) + length (filter is_of_class c.fields)
statics_more set number next c e n = let m : next ≡ suc number = omega (arith, n) in ap (λ k. length (statics_before set k)) m ∙ more_statics set number c e

-- one row more
pub last_there : {A : Type 0} (xs : List A) (x : A) → slice_get (xs ++ x ∷ []) (length xs) ≡ Some x
last_there [] x = refl
last_there (y ∷ xs) x = last_there xs x

row_by : (set : List ClassDef) (rows : List Before) (count number : ℕ) (class c : ClassDef) (row : Before) → (number < count) ⊎ (count ≤ number) → number < count + 1 → AreBefore set rows count → length rows ≡ count → slice_get set count ≡ Some c → IsBefore set count c row → slice_get set number ≡ Some class → HasBefore set (rows ++ row ∷ []) number class
row_by set rows count number class c row (inl lt) le are l at is e =
    let has = are number class lt e in
    record { row = has.row; at = at_left rows (row ∷ []) number has.row has.at; is = has.is }
row_by set rows count number class c row (inr ge) le are l at is e =
    let n : number ≡ count = omega (arith, ge, le) in
    let k : number ≡ length rows = omega (arith, n, l) in
    let same : c ≡ class = same_Some c class (sym at ∙ ap (slice_get set) (sym n) ∙ e) in
    record {
      row = row;
      at = ap (slice_get (rows ++ row ∷ [])) k ∙ last_there rows row;
      is = subst (λ (m : ℕ). IsBefore set m class row) (sym n) (subst (λ (k : ClassDef). IsBefore set count k row) same is);
    }

pub before_more : (set : List ClassDef) (rows : List Before) (count next : ℕ) (c : ClassDef) (row : Before) → AreBefore set rows count → length rows ≡ count → slice_get set count ≡ Some c → IsBefore set count c row → next ≡ count + 1 → AreBefore set (rows ++ row ∷ []) next
before_more set rows count next c row are l at is n = λ number class lt e. row_by set rows count number class c row (cases_lt number count) (omega (arith, lt, n)) are l at is e

-- the row of a class
class_there : (set : List ClassDef) (number : ℕ) → number < length set → (class : ClassDef) × (slice_get set number ≡ Some class)
class_there [] number lt = absurd (omega (arith, lt))
class_there (x ∷ set) zero lt = (x, refl)
class_there (x ∷ set) (suc number) lt = class_there set number (omega (arith, lt))

pub row_there : (set : List ClassDef) (rows : List Before) (number : ℕ) → AreBefore set rows (length set) → number < length set → number < length rows
row_there set rows number are lt =
    let class = class_there set number lt in
    let has = are number class.0 lt class.1 in
    slice_get_within rows number has.row has.at

pub methods_there : (set : List ClassDef) (rows : List Before) (number : ℕ) (row : Before) → AreBefore set rows (length set) → number < length set → slice_get rows number ≡ Some row → row.methods ≡ methods_before set number
methods_there set rows number row are lt at =
    let class = class_there set number lt in
    let has = are number class.0 lt class.1 in
    ap (λ (b : Before). b.methods) (same_Some row has.row (sym at ∙ has.at)) ∙ has.is.methods
