-- The names of the exceptions, one by one.
use Rattle.std.proofs.Common.{◌≡◌, ◌∙◌, ℕ, ◌+◌, ◌<◌, ◌≤◌, Bool, true, cond, List, length, drop, get_or, sym, ap, subst, Some, None, Bor, Result, Ok, Err, false}
use Rattle.std.specs.Prelude.{map, option_map, MatchResult}
use Rattle.std.specs.Option.{option_or}
use Rattle.lists.specs.Texts.{units_of}
use Rattle.class_model.specs.declared.class.ClassDef.{ClassDef}
use Rattle.class_set.specs.declared.fault.SetFault.{SetFault}
use Rattle.class_set.specs.declared.fault.SetFault.TheVariants.{Core}
use Rattle.class_set.specs.Answer.{IsFault}
use Rattle.class_set.specs.Core as table
use Rattle.class_set.proofs.Firsts.{mapped_item, mapped_over}
use Rattle.class_set.proofs.FirstFaults.{core_first, core_passed}

abbrev pub units : List (Bor (List ℕ)) → List (List ℕ)
units names = map (λ name. units_of name.now) names

next_name : (set : List ClassDef) (names : List (Bor (List ℕ))) (i : ℕ) (d : Bor (List ℕ)) (has : Bool) → i < length names → has ≡ table.has_shape set (table.is_thrown set) (units_of (get_or names i d).now) → table.thrown_wrong set (units (drop i names)) ≡ option_or (cond has None (Some (units_of (get_or names i d).now))) (table.thrown_wrong set (units (drop (i + 1) names)))
next_name set names i d has lt is =
    mapped_item (table.if_wrong set (table.is_thrown set)) (λ name. units_of name.now) names i d lt
    ∙ ap (λ b. option_or (cond b None (Some (units_of (get_or names i d).now))) (table.thrown_wrong set (units (drop (i + 1) names)))) (sym is)

pub thrown_told : (set : List ClassDef) (names : List (Bor (List ℕ))) (i : ℕ) (d : Bor (List ℕ)) (has : Bool) (fault : SetFault) → i < length names → has ≡ table.has_shape set (table.is_thrown set) (units_of (get_or names i d).now) → IsFault (cond has None (Some (Core (units_of (get_or names i d).now)))) fault → IsFault (option_map Core (table.thrown_wrong set (units (drop i names)))) fault
thrown_told set names i d has fault lt is h =
    subst (λ o. IsFault (option_map Core o) fault) (sym (next_name set names i d has lt is)) (core_first has (units_of (get_or names i d).now) (table.thrown_wrong set (units (drop (i + 1) names))) fault h)

pub thrown_passed : (set : List ClassDef) (names : List (Bor (List ℕ))) (i : ℕ) (d : Bor (List ℕ)) (has : Bool) → i < length names → has ≡ table.has_shape set (table.is_thrown set) (units_of (get_or names i d).now) → has ≡ true → table.thrown_wrong set (units (drop i names)) ≡ table.thrown_wrong set (units (drop (i + 1) names))
thrown_passed set names i d has lt is holds = next_name set names i d has lt is ∙ core_passed has (units_of (get_or names i d).now) (table.thrown_wrong set (units (drop (i + 1) names))) holds

pub thrown_over : (set : List ClassDef) (names : List (Bor (List ℕ))) (i : ℕ) → length names ≤ i → table.thrown_wrong set (units (drop i names)) ≡ None
thrown_over set names i le = mapped_over (table.if_wrong set (table.is_thrown set)) (λ name. units_of name.now) names i le

-- where `java/lang/Throwable` has its shape, the names behind it decide
passed_on : (set : List ClassDef) → table.has_shape set (λ number. table.is_throwable) table.throwable_name ≡ true → table.thrown_wrong set table.thrown_names ≡ table.exceptions set
passed_on set h = sym (core_passed (table.has_shape set (λ number. table.is_throwable) table.throwable_name) table.throwable_name (table.thrown_wrong set table.thrown_names) h)

pub exceptions_left : (set : List ClassDef) (result : Result (Unit {0}) SetFault) → table.has_shape set (λ number. table.is_throwable) table.throwable_name ≡ true → MatchResult result (λ _. table.thrown_wrong set table.thrown_names ≡ None) (IsFault (option_map Core (table.thrown_wrong set table.thrown_names))) → MatchResult result (λ _. table.exceptions set ≡ None) (IsFault (option_map Core (table.exceptions set)))
exceptions_left set result h told = subst (λ o. MatchResult result (λ _. o ≡ None) (IsFault (option_map Core o))) (passed_on set h) told

-- where it has not, it is told
throwable_first : (set : List ClassDef) (has : Bool) (fault : SetFault) → has ≡ table.has_shape set (λ number. table.is_throwable) table.throwable_name → IsFault (cond has None (Some (Core table.throwable_name))) fault → IsFault (option_map Core (table.exceptions set)) fault
throwable_first set has fault is h =
    core_first (table.has_shape set (λ number. table.is_throwable) table.throwable_name) table.throwable_name (table.thrown_wrong set table.thrown_names) fault
    (subst (λ b. IsFault (cond b None (Some (Core table.throwable_name))) fault) is h)

pub throwable_told : (set : List ClassDef) (result : Result (Unit {0}) SetFault) → false ≡ table.has_shape set (λ number. table.is_throwable) table.throwable_name → MatchResult result (λ _. false ≡ true) (IsFault (Some (Core table.throwable_name))) → MatchResult result (λ _. table.exceptions set ≡ None) (IsFault (option_map Core (table.exceptions set)))
throwable_told set (Ok value) is h = cc
throwable_told set (Err fault) is h = throwable_first set false fault is h
