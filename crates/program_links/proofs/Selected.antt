-- The selections of a class, method by method, and those of the classes from it upwards.
use Rattle.std.proofs.Common.{◌≡◌, ◌∙◌, ℕ, ◌+◌, ◌<◌, ◌≤◌, zero, suc, Bool, true, false, cond, eqb, List, [], ◌∷◌, ◌++◌, length, take, refl, sym, ap, subst, Option, Some, None, arith}
use Rattle.std.specs.Prelude.{slice_get, position, option_map, option_and_then, flat_map}
use Rattle.std.specs.Option.{option_or}
use Rattle.std.specs.List.{position_from}
use Rattle.std.proofs.lemmas.Option.{same_Some, none-some, slice_get_within}
use Rattle.std.proofs.lemmas.Iterator.Adapters.{position_from-zero}
use Rattle.class_model.specs.declared.class.MethodDef.{MethodDef}
use Rattle.class_model.specs.declared.class.ClassDef.{ClassDef}
use Rattle.set_lookups.specs.Above.{find_class}
use Rattle.set_lookups.specs.First.{first}
use Rattle.set_lookups.specs.Flags.{is_inherited}
use Rattle.set_lookups.specs.Lookups.{member_in, method_here, declared, supers, select_by}
use Rattle.class_set.specs.Closed.{Closed}
use Rattle.run_state.specs.SetLooks.{shown_method}
use Rattle.linked_code.specs.declared.program.Selection.{Selection}
use Rattle.linked_code.specs.Linked.{selection}
use Rattle.look_laws.proofs.Methods.{selected_above}
use Rattle.program_links.specs.declared.keys.Selector.{Selector}
use Rattle.program_links.specs.Numbers.{Numbers}
use Rattle.program_links.specs.Methods.{methods_before, method_number}
use Rattle.program_links.specs.Each.{Numbered}
use Rattle.program_links.specs.Upwards.{AreClasses}
use Rattle.program_links.specs.Selects.{is_it, is_selected, SelectorOf, selection_of, OwnSoFar, own_of}
use Rattle.program_links.specs.RowTo.{OwnSelects, Selecting}
use Rattle.program_links.specs.WorldOf.{method_shown}
use Rattle.program_links.proofs.Members.{shown_where, along_is}

first_of_two : (b : Bool) (m : ℕ) (xs ys : Option ℕ) → cond b (Some m) (option_or xs ys) ≡ option_or (cond b (Some m) xs) ys
first_of_two true m xs ys = refl
first_of_two false m xs ys = refl

last_by : (b : Bool) (at : ℕ) (all xs last : Option ℕ) → all ≡ option_or xs last → cond b (Some at) all ≡ option_or (cond b (Some at) xs) last
last_by true at all xs last h = refl
last_by false at all xs last h = h

lt_le : (a b : ℕ) → a < b → a ≤ b
lt_le a b h = omega (arith, h)

selected_appended : (xs ys : List Selection) (n : ℕ) → selection (xs ++ ys) n ≡ option_or (selection xs n) (selection ys n)
selected_appended [] ys n = refl
selected_appended (x ∷ xs) ys n =
    ap (cond (eqb x.selector n) (Some x.method)) (selected_appended xs ys n) ∙ first_of_two (eqb x.selector n) x.method (selection xs n) (selection ys n)

-- the position of the last of more items
last_position : {A : Type 0} (test : A → Bool) (at : ℕ) (xs : List A) (x : A) → position_from test at (xs ++ x ∷ []) ≡ option_or (position_from test at xs) (cond (test x) (Some (at + length xs)) None)
last_position test at [] x = let z : at ≡ at + 0 = omega arith in ap (λ k. cond (test x) (Some k) None) z
last_position test at (y ∷ xs) x =
    let n : at + 1 + length xs ≡ at + length (y ∷ xs) = omega arith in
    last_by (test y) at (position_from test (at + 1) (xs ++ x ∷ [])) (position_from test (at + 1) xs) (cond (test x) (Some (at + 1 + length xs)) None) (last_position test (at + 1) xs x)
    ∙ ap (λ k. option_or (cond (test y) (Some at) (position_from test (at + 1) xs)) (cond (test x) (Some k) None)) n

take_more : {A : Type 0} (xs : List A) (k : ℕ) (x : A) → slice_get xs k ≡ Some x → take (suc k) xs ≡ take k xs ++ x ∷ []
take_more [] k x e = absurd (none-some x e)
take_more (y ∷ xs) zero x e = ap (λ z. z ∷ []) (same_Some y x e)
take_more (y ∷ xs) (suc k) x e = ap (λ zs. y ∷ zs) (take_more xs k x e)

taken : {A : Type 0} (xs : List A) (k : ℕ) → k ≤ length xs → length (take k xs) ≡ k
taken xs zero le = refl
taken [] (suc k) le = absurd (omega (arith, le))
taken (x ∷ xs) (suc k) le = ap suc (taken xs k (omega (arith, le)))

all_taken : {A : Type 0} (xs : List A) (k : ℕ) → length xs ≤ k → take k xs ≡ xs
all_taken [] zero le = refl
all_taken [] (suc k) le = refl
all_taken (x ∷ xs) zero le = absurd (omega (arith, le))
all_taken (x ∷ xs) (suc k) le = ap (λ ys. x ∷ ys) (all_taken xs k (omega (arith, le)))

map_or : {A B : Type 0} (f : A → B) (a b : Option A) → option_map f (option_or a b) ≡ option_or (option_map f a) (option_map f b)
map_or f None b = refl
map_or f (Some x) b = refl

map_cond : {A B : Type 0} (f : A → B) (b : Bool) (x : A) → option_map f (cond b (Some x) None) ≡ cond b (Some (f x)) None
map_cond f true x = refl
map_cond f false x = refl

one_selection : (found : Option ℕ) (method n : ℕ) → selection (selection_of found method) n ≡ cond (is_it found n) (Some method) None
one_selection None method n = refl
one_selection (Some k) method n = refl

pub none_yet : (set : List ClassDef) (t : Numbers) (number : ℕ) (methods : List MethodDef) → OwnSoFar set t number methods [] 0
none_yet set t number methods = record { are = λ n key e. refl }

pub own_more : (set : List ClassDef) (t : Numbers) (number : ℕ) (methods : List MethodDef) (own : List Selection) (count next : ℕ) (m : MethodDef) (found : Option ℕ) (k : ℕ) → OwnSoFar set t number methods own count → slice_get methods count ≡ Some m → SelectorOf t m found → k ≡ methods_before set number + count → next ≡ count + 1 → OwnSoFar set t number methods (own ++ selection_of found k) next
own_more set t number methods own count next m found k h at selector e n = record {
  are = λ j key has.
      let f : ℕ → ℕ = λ i. methods_before set number + i in
      let test = is_selected key in
      let many : length (take count methods) ≡ count = taken methods count (lt_le count (length methods) (slice_get_within methods count m at)) in
      let place : f (0 + length (take count methods)) ≡ k = omega (arith, many, e) in
      let more : next ≡ suc count = omega (arith, n) in
      selected_appended own (selection_of found k) j
      ∙ ap (λ sel. option_or (selection own j) sel) (one_selection found k j ∙ ap (λ b. cond b (Some k) None) (selector.is j key has))
      ∙ ap (λ sel. option_or sel (cond (test m) (Some k) None)) (h.are j key has)
      ∙ ap (λ i. option_or (option_map f (position_from test 0 (take count methods))) (cond (test m) (Some i) None)) (sym place)
      ∙ ap (option_or (option_map f (position_from test 0 (take count methods)))) (sym (map_cond f (test m) (0 + length (take count methods))))
      ∙ sym (map_or f (position_from test 0 (take count methods)) (cond (test m) (Some (0 + length (take count methods))) None))
      ∙ ap (option_map f) (sym (last_position test 0 (take count methods) m))
      ∙ ap (λ xs. option_map f (position_from test 0 xs)) (sym (ap (λ i. take i methods) more ∙ take_more methods count m at));
}

members_by : (set : List ClassDef) (number : ℕ) (place : Option ℕ) → option_map (λ i. methods_before set number + i) place ≡ option_map (method_number set) (member_in number place)
members_by set number None = refl
members_by set number (Some i) = refl

pub own_all : (set : List ClassDef) (t : Numbers) (number : ℕ) (class : ClassDef) (own : List Selection) (count : ℕ) → slice_get set number ≡ Some class → OwnSoFar set t number class.methods own count → length class.methods ≤ count → OwnSelects set t number own
own_all set t number class own count there h le = λ n key e.
    h.are n key e
    ∙ ap (λ xs. option_map (λ i. methods_before set number + i) (position_from (is_selected key) 0 xs)) (all_taken class.methods count le)
    ∙ ap (option_map (λ i. methods_before set number + i)) (sym (position_from-zero (is_selected key) class.methods))
    ∙ members_by set number (position (is_selected key) class.methods)
    ∙ ap (λ found. option_map (method_number set) (method_here key.name key.desc is_inherited number found)) (sym there)

-- along classes
own_is : (owns : List (List Selection)) (number : ℕ) → number < length owns → slice_get owns number ≡ Some (own_of owns number)
own_is [] number lt = absurd (omega (arith, lt))
own_is (own ∷ owns) zero lt = refl
own_is (own ∷ owns) (suc number) lt = own_is owns number (omega (arith, lt))

pub along : (set : List ClassDef) (t : Numbers) (owns : List (List Selection)) (numbers : List ℕ) (n : ℕ) (key : Selector) → Numbered (OwnSelects set t) owns (length set) → AreClasses set numbers → slice_get t.selectors n ≡ Some key → selection (flat_map (own_of owns) numbers) n ≡ option_map (method_number set) (first (declared set key.name key.desc is_inherited) numbers)
unfolding first
along set t owns [] n key owned are e = refl
along set t owns (number ∷ numbers) n key owned are e =
    let lt : number < length owns = subst (λ k. number < k) (sym owned.many) (are 0 number refl) in
    selected_appended (own_of owns number) (flat_map (own_of owns) numbers) n
    ∙ ap (λ sel. option_or sel (selection (flat_map (own_of owns) numbers) n)) (owned.each number (own_of owns number) (own_is owns number lt) n key e)
    ∙ ap (option_or (option_map (method_number set) (declared set key.name key.desc is_inherited number))) (along set t owns numbers n key owned (λ k m at. are (suc k) m at) e)
    ∙ sym (map_or (method_number set) (declared set key.name key.desc is_inherited number) (first (declared set key.name key.desc is_inherited) numbers))

-- the selections of a class
pub selecting : (set : List ClassDef) (t : Numbers) (owns : List (List Selection)) (numbers : List ℕ) (name : List ℕ) (number : ℕ) (selects : List Selection) → Closed set → find_class set name ≡ Some number → numbers ≡ supers set number → AreClasses set numbers → Numbered (OwnSelects set t) owns (length set) → selects ≡ flat_map (own_of owns) numbers → Selecting set t name selects
unfolding select_by
selecting set t owns numbers name number selects closed found up are owned e = λ ref n has.
    selected_above set closed.acyclic name ref
    ∙ ap (λ k. option_and_then (shown_method set) (option_and_then (select_by set ref.name ref.desc) k)) found
    ∙ ap (λ ns. option_and_then (shown_method set) (first (declared set ref.name ref.desc is_inherited) ns)) (sym up)
    ∙ shown_where set (first (declared set ref.name ref.desc is_inherited) numbers) (along_is set ref.name ref.desc is_inherited numbers)
    ∙ ap (option_map (method_shown set)) (sym (along set t owns numbers n (record { name = ref.name; desc = ref.desc }) owned are has))
    ∙ ap (λ sel. option_map (method_shown set) (selection sel n)) (sym e)

-- and of none
pub selecting_none : (set : List ClassDef) (t : Numbers) (name : List ℕ) → Closed set → find_class set name ≡ None → Selecting set t name []
selecting_none set t name closed none = λ ref n has.
    selected_above set closed.acyclic name ref
    ∙ ap (λ k. option_and_then (shown_method set) (option_and_then (select_by set ref.name ref.desc) k)) none
