-- Classes that are judged in turn, by their numbers.
use Rattle.std.proofs.Common.{◌≡◌, ◌∙◌, ℕ, ◌+◌, ◌≤◌, Bool, true, false, cond, List, length, drop, sym, ap, Option, Some, None}
use Rattle.std.specs.Prelude.{slice_get, option_map}
use Rattle.std.proofs.lemmas.Option.{get_or_from_slice_get, slice_get_within}
use Rattle.class_model.specs.declared.class.ClassDef.{ClassDef}
use Rattle.set_lookups.specs.First.{first_from, name_if}
use Rattle.set_lookups.proofs.Pieces.{numbered_found, numbered_passed, numbered_over}
use Rattle.class_set.specs.declared.fault.SetFault.{SetFault}

pub class_passed : (test : ℕ → ClassDef → Bool) (set : List ClassDef) (at : ℕ) (class : ClassDef) → slice_get set at ≡ Some class → test at class ≡ false → first_from (name_if test) at (drop at set) ≡ first_from (name_if test) (at + 1) (drop (at + 1) set)
class_passed test set at class is fails =
    numbered_passed (name_if test) set at class (slice_get_within set at class is) (sym (get_or_from_slice_get set at class class is)) (sym (ap (λ b. cond b (Some class.name) None) fails))

pub class_found : (fault : List ℕ → SetFault) (test : ℕ → ClassDef → Bool) (set : List ClassDef) (at : ℕ) (class : ClassDef) (name : List ℕ) (all : Option (List ℕ)) → all ≡ first_from (name_if test) at (drop at set) → slice_get set at ≡ Some class → test at class ≡ true → name ≡ class.name → option_map fault all ≡ Some (fault name)
class_found fault test set at class name all e is holds same =
    let found = numbered_found (name_if test) set at class class.name (slice_get_within set at class is) (sym (get_or_from_slice_get set at class class is)) (sym (ap (λ b. cond b (Some class.name) None) holds)) in
    ap (option_map fault) (e ∙ found) ∙ ap (λ n. Some (fault n)) (sym same)

pub none_found : (test : ℕ → ClassDef → Bool) (set : List ClassDef) (at : ℕ) (all : Option (List ℕ)) → all ≡ first_from (name_if test) at (drop at set) → length set ≤ at → all ≡ None
none_found test set at all e le = e ∙ numbered_over (name_if test) set at le

pub one_found : (test : ℕ → ClassDef → Bool) (set : List ClassDef) (at : ℕ) (class : ClassDef) (all : Option (List ℕ)) → all ≡ first_from (name_if test) at (drop at set) → slice_get set at ≡ Some class → test at class ≡ true → all ≡ Some class.name
one_found test set at class all e is holds =
    e ∙ numbered_found (name_if test) set at class class.name (slice_get_within set at class is) (sym (get_or_from_slice_get set at class class is)) (sym (ap (λ b. cond b (Some class.name) None) holds))
