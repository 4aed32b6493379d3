-- The kinds of fault in their order.
use Rattle.std.proofs.Common.{◌≡◌, ◌∙◌, ℕ, List, refl, sym, ap, subst, Option, Some, None, Result, Ok, Err}
use Rattle.std.specs.Prelude.{option_map, IsErrAnd, MatchResult}
use Rattle.std.specs.Option.{option_or}
use Rattle.class_model.specs.declared.class.ClassDef.{ClassDef}
use Rattle.set_lookups.specs.declared.fault.HierarchyFault.{HierarchyFault}
use Rattle.set_lookups.specs.declared.fault.HierarchyFault.TheVariants as links
use Rattle.set_lookups.specs.Answer as lower
use Rattle.set_lookups.specs.Needed.{duplicate, missing}
use Rattle.set_lookups.specs.Cycle.{cycle}
use Rattle.class_set.specs.declared.fault.SetFault.{SetFault}
use Rattle.class_set.specs.declared.fault.SetFault.TheVariants.{Duplicate, Missing, Cycle, FinalSuper, Core, Unresolved, WrongKind, Abstract, Memory}
use Rattle.class_set.specs.Answer.{IsFault}
use Rattle.class_set.specs.Faults.{of_links, fault_of_linked, first_fault}
use Rattle.class_set.specs.FinalSuper.{final_super}
use Rattle.class_set.specs.Core.{core}
use Rattle.class_set.specs.References.{unresolved}
use Rattle.class_set.specs.Calls.{wrong_kind}
use Rattle.class_set.specs.Open.{abstract_left}

-- the kinds by which classes cannot be linked
linked_kinds : (d m c : Option SetFault) (rest : Option SetFault) → option_or d (option_or m (option_or c rest)) ≡ option_or (option_or d (option_or m c)) rest
linked_kinds (Some x) m c rest = refl
linked_kinds None (Some x) c rest = refl
linked_kinds None None c rest = refl

mapped : (d m c : Option (List ℕ)) → option_map of_links (option_or (option_map links.Duplicate d) (option_or (option_map links.Missing m) (option_map links.Cycle c))) ≡ option_or (option_map Duplicate d) (option_or (option_map Missing m) (option_map Cycle c))
mapped (Some name) m c = refl
mapped None (Some name) c = refl
mapped None None (Some name) = refl
mapped None None None = refl

with_links : (set : List ClassDef) → first_fault set ≡ option_or (option_map of_links (lower.link_fault set)) (fault_of_linked set)
unfolding first_fault lower.link_fault
with_links set =
    linked_kinds (option_map Duplicate (duplicate set)) (option_map Missing (missing set)) (option_map Cycle (cycle set)) (fault_of_linked set)
    ∙ ap (λ o. option_or o (fault_of_linked set)) (sym (mapped (duplicate set) (missing set) (cycle set)))

pub links_told : (set : List ClassDef) (fault : HierarchyFault) → lower.IsFault (lower.link_fault set) fault → IsFault (first_fault set) (of_links fault)
links_told set links.Memory h = h
links_told set (links.Duplicate name) h = with_links set ∙ ap (λ o. option_or (option_map of_links o) (fault_of_linked set)) h
links_told set (links.Missing name) h = with_links set ∙ ap (λ o. option_or (option_map of_links o) (fault_of_linked set)) h
links_told set (links.Cycle name) h = with_links set ∙ ap (λ o. option_or (option_map of_links o) (fault_of_linked set)) h

none_linked : (d m c : Option (List ℕ)) → option_or (option_map links.Duplicate d) (option_or (option_map links.Missing m) (option_map links.Cycle c)) ≡ None → (d ≡ None) × (m ≡ None) × (c ≡ None)
none_linked (Some name) m c e = absurd cc
none_linked None (Some name) c e = absurd cc
none_linked None None (Some name) e = absurd cc
none_linked None None None e = (refl, refl, refl)

pub are_linked : (set : List ClassDef) → lower.link_fault set ≡ None → (duplicate set ≡ None) × (missing set ≡ None) × (cycle set ≡ None)
unfolding lower.link_fault
are_linked set e = none_linked (duplicate set) (missing set) (cycle set) e

-- what linked classes are refused for is what all are
pub of_linked : (set : List ClassDef) → lower.link_fault set ≡ None → first_fault set ≡ fault_of_linked set
of_linked set linked = with_links set ∙ ap (λ o. option_or (option_map of_links o) (fault_of_linked set)) linked

-- where no kind refuses, each passes
none_of_kind : {A : Type 0} (fault : A → SetFault) (found : Option A) (rest : Option SetFault) → option_or (option_map fault found) rest ≡ None → (found ≡ None) × (rest ≡ None)
none_of_kind fault (Some x) rest e = absurd cc
none_of_kind fault None rest e = (refl, e)

last_kind : {A : Type 0} (fault : A → SetFault) (found : Option A) → option_map fault found ≡ None → found ≡ None
last_kind fault (Some x) e = absurd cc
last_kind fault None e = refl

pub each_passes : (set : List ClassDef) → fault_of_linked set ≡ None
    → (final_super set ≡ None) × (core set ≡ None) × (unresolved set ≡ None) × (wrong_kind set ≡ None) × (abstract_left set ≡ None)
each_passes set none =
    let final = none_of_kind FinalSuper (final_super set) _ none in
    let shaped = none_of_kind Core (core set) _ final.1 in
    let resolved = none_of_kind Unresolved (unresolved set) _ shaped.1 in
    let right = none_of_kind WrongKind (wrong_kind set) (option_map Abstract (abstract_left set)) resolved.1 in
    (final.0, shaped.0, resolved.0, right.0, last_kind Abstract (abstract_left set) right.1)

-- a fault that is handed on
pub err_told : {A : Type 0} (result : Result A SetFault) (stop : SetFault) (Q : A → Type 0) (P : SetFault → Type 0) → IsErrAnd result (λ s. s ≡ stop) → P stop → MatchResult result Q P
err_told (Ok value) stop Q P e p = absurd e
err_told (Err other) stop Q P e p = subst P (sym e) p
