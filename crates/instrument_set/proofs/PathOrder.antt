-- The paths of the written set ascend, and each ends as that of a class file does.
use Rattle.std.proofs.Common.{◌≡◌, ◌≢◌, ℕ, Bool, true, false, List, [], ◌∷◌, refl, sym, ap, subst, ⊎_elim}
use Rattle.std.specs.Prelude.{cond, codes, nat_eq}
use Rattle.std.specs.List.{All, AllByRecursion, ends_with}
use Rattle.std.specs.List.Sorted.{IsStrictlySortedBy}
use Rattle.std.specs.Ordering.{nat_cmp, is_lt, ordering_reverse}
use Rattle.std.specs.Cmp.Lexicographic.{slice_cmp, nat_list_cmp_total}
use Rattle.std.specs.declared.cmp.Ordering.{Ordering}
use Rattle.std.specs.declared.cmp.Ordering.TheVariants.{Less, Equal, Greater}
use Rattle.std.proofs.lemmas.Bool.Decides.{Decides-eqb}
use Rattle.std.proofs.lemmas.List.{append_cancel_right}
use Rattle.std.proofs.lemmas.List.Elements.{All-from_recursion}
use Rattle.std.proofs.Math.Utf8.{encodes}
use Rattle.std.proofs.lemmas.Map.Lookups.{exact_bytes}
use Rattle.std.proofs.lemmas.Str.{encodes_same}
use Rattle.std.proofs.lemmas.Slice.Eq.{ends_is}
use Rattle.class_model.specs.declared.class.ClassDef.{ClassDef}
use Rattle.first_form.specs.Natives.{report_name}
use Rattle.small_base.specs.Base.{small_base}
use Rattle.first_form.specs.Base.{report_class}
use Rattle.first_form.specs.FirstSet.{IsFirstSet}
use Rattle.instrument_set.specs.WrittenSet.{path_of}
use Rattle.instrument_set.specs.WrittenPaths.{insert_path, written_paths}
use Rattle.instrument_set.proofs.Apart.{Others, Apart, base_apart, report_other, form_other, not_report}

abbrev in_order : List ℕ → List ℕ → Ordering
in_order p q = slice_cmp nat_cmp p q

inserted_either : (P : List ℕ → Type 0) (b : Bool) (p q : List ℕ) (qs more : List (List ℕ)) → P p → AllByRecursion P (q ∷ qs) → AllByRecursion P more → AllByRecursion P (cond b (p ∷ q ∷ qs) (q ∷ more))
inserted_either P true p q qs more here others rest = (here, others)
inserted_either P false p q qs more here others rest = (others.0, rest)

-- what holds of a path and of each of others holds of each of them together
inserted : (P : List ℕ → Type 0) (p : List ℕ) (qs : List (List ℕ)) → P p → AllByRecursion P qs → AllByRecursion P (insert_path p qs)
inserted P p [] here others = (here, tt)
inserted P p (q ∷ qs) here others = inserted_either P (is_lt (in_order p q)) p q qs (insert_path p qs) here others (inserted P p qs here others.1)

-- ---- each ends as that of a class file does

abbrev IsClassPath : List ℕ → Type 0
IsClassPath path = ends_with nat_eq path (codes ".class") ≡ true

class_path : (name : List ℕ) → IsClassPath (path_of name)
class_path name = (ends_is Decides-eqb (path_of name) (codes ".class") _ refl).1 (encodes name) refl

class_paths_by : (set : List ClassDef) → AllByRecursion IsClassPath (written_paths set)
class_paths_by [] = (class_path report_name, tt)
class_paths_by (class ∷ classes) = inserted IsClassPath (path_of class.name) (written_paths classes) (class_path class.name) (class_paths_by classes)

pub class_paths : (set : List ClassDef) → All IsClassPath (written_paths set)
class_paths set = All-from_recursion IsClassPath (written_paths set) (class_paths_by set)

-- ---- they ascend

abbrev Ascend : List (List ℕ) → Type 0
Ascend paths = IsStrictlySortedBy (slice_cmp nat_cmp) paths

less_from : (o : Ordering) → is_lt o ≡ true → o ≡ Less
less_from Less h = refl
less_from Equal h = absurd cc
less_from Greater h = absurd cc

-- of two orders that are each other's turn, and none a tie, one is `Less`
turned : (o r : Ordering) → o ≡ ordering_reverse r → is_lt o ≡ false → o ≢ Equal → r ≡ Less
turned o Less turn not_less apart = refl
turned o Equal turn not_less apart = absurd (apart turn)
turned o Greater turn not_less apart = absurd (let q : is_lt o ≡ true = ap is_lt turn in cc)

-- what comes later than a path comes later than those before it
later_all : (p q : List ℕ) (rs : List (List ℕ)) → in_order p q ≡ Less → AllByRecursion (λ r. in_order q r ≡ Less) rs → AllByRecursion (λ r. in_order p r ≡ Less) rs
later_all p q [] less all = tt
later_all p q (r ∷ rs) less all = (nat_list_cmp_total.trans p q r less all.0, later_all p q rs less all.1)

ascend_either : (b : Bool) (p q : List ℕ) (qs : List (List ℕ)) → is_lt (in_order p q) ≡ b → p ≢ q → Ascend (q ∷ qs) → Ascend (insert_path p qs) → Ascend (cond b (p ∷ q ∷ qs) (q ∷ insert_path p qs))
unfolding IsStrictlySortedBy
ascend_either true p q qs is apart ascend rest = let less = less_from (in_order p q) is in ((less, later_all p q qs less ascend.0), ascend)
ascend_either false p q qs is apart ascend rest =
    let later : in_order q p ≡ Less = turned (in_order p q) (in_order q p) (nat_list_cmp_total.antisymm p q) is (λ tie. apart (exact_bytes p q tie)) in
    (inserted (λ r. in_order q r ≡ Less) p qs later ascend.0, rest)

ascend_inserted : (p : List ℕ) (qs : List (List ℕ)) → AllByRecursion (λ q. p ≢ q) qs → Ascend qs → Ascend (insert_path p qs)
unfolding IsStrictlySortedBy
ascend_inserted p [] apart ascend = (tt, tt)
ascend_inserted p (q ∷ qs) apart ascend = ascend_either (is_lt (in_order p q)) p q qs refl apart.0 ascend (ascend_inserted p qs apart.1 ascend.1)

other_path : (a b : List ℕ) → a ≢ b → path_of a ≢ path_of b
other_path a b apart = λ same. apart (encodes_same a b (append_cancel_right (encodes a) (encodes b) (codes ".class") same))

-- a class that has another name than those of a set, and than that of the class of reports, has another path than they
other_paths : (class : ClassDef) (set : List ClassDef) → class.name ≢ report_name → Others set class.name → AllByRecursion (λ q. path_of class.name ≢ q) (written_paths set)
other_paths class [] report others = (other_path class.name report_name report, tt)
other_paths class (c ∷ cs) report others =
    inserted (λ q. path_of class.name ≢ q) (path_of c.name) (written_paths cs) (other_path class.name c.name others.0) (other_paths class cs report others.1)

-- the paths of classes with names of their own ascend
apart_ascend : (set : List ClassDef) → Apart set → Others set report_name → Ascend (written_paths set)
unfolding IsStrictlySortedBy
apart_ascend [] apart report = (tt, tt)
apart_ascend (class ∷ classes) apart report =
    ascend_inserted (path_of class.name) (written_paths classes) (other_paths class classes (λ e. report.0 (sym e)) apart.0) (apart_ascend classes apart.1 report.1)

base_without_report : Others small_base report_name
unfolding report_class
base_without_report = report_other

pub ascend : (set : List ClassDef) → IsFirstSet set → Ascend (written_paths set)
unfolding report_class
ascend set first =
    ⊎_elim
    (λ e. subst (λ (s : List ClassDef). Ascend (written_paths s)) (sym e) (apart_ascend small_base base_apart base_without_report))
    (λ q. subst (λ (s : List ClassDef). Ascend (written_paths s)) (sym q.1)
    (apart_ascend (q.0 ∷ small_base) (form_other q.0 q.2, base_apart) ((λ e. not_report q.0 q.2 (sym e)), base_without_report)))
    first
