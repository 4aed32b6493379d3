-- The kinds of fault in their order.
use Rattle.std.proofs.Common.{◌≡◌, ◌∙◌, List, sym, ap, subst, Option, None, Result, Ok, Err}
use Rattle.std.specs.Prelude.{option_map, IsErrAnd, MatchResult}
use Rattle.std.specs.Option.{option_or}
use Rattle.class_model.specs.declared.class.ClassDef.{ClassDef}
use Rattle.set_lookups.specs.declared.fault.HierarchyFault.{HierarchyFault}
use Rattle.set_lookups.specs.declared.fault.HierarchyFault.TheVariants.{Duplicate, Missing, Cycle, Memory}
use Rattle.set_lookups.specs.Answer.{IsFault, link_fault}
use Rattle.set_lookups.specs.Needed.{duplicate, missing}
use Rattle.set_lookups.specs.Cycle.{cycle}

pub err_told : {A : Type 0} (result : Result A HierarchyFault) (stop : HierarchyFault) (Q : A → Type 0) (P : HierarchyFault → Type 0) → IsErrAnd result (λ s. s ≡ stop) → P stop → MatchResult result Q P
err_told (Ok value) stop Q P e p = absurd e
err_told (Err other) stop Q P e p = subst P (sym e) p

-- a fault that is found first
pub first_kind : (found rest : Option HierarchyFault) (fault : HierarchyFault) → IsFault found fault → IsFault (option_or found rest) fault
first_kind found rest Memory h = h
first_kind found rest (Duplicate name) h = ap (λ o. option_or o rest) h
first_kind found rest (Missing name) h = ap (λ o. option_or o rest) h
first_kind found rest (Cycle name) h = ap (λ o. option_or o rest) h

-- a fault that is found after a kind that is not
pub later_kind : (found rest : Option HierarchyFault) (fault : HierarchyFault) → found ≡ None → IsFault rest fault → IsFault (option_or found rest) fault
later_kind found rest fault none h = subst (λ o. IsFault (option_or o rest) fault) (sym none) h

pub duplicate_told : (set : List ClassDef) (fault : HierarchyFault) → IsFault (option_map Duplicate (duplicate set)) fault → IsFault (link_fault set) fault
unfolding link_fault
duplicate_told set fault h = first_kind (option_map Duplicate (duplicate set)) (option_or (option_map Missing (missing set)) (option_map Cycle (cycle set))) fault h

pub missing_told : (set : List ClassDef) (fault : HierarchyFault) → duplicate set ≡ None → IsFault (option_map Missing (missing set)) fault → IsFault (link_fault set) fault
unfolding link_fault
missing_told set fault d h =
    later_kind (option_map Duplicate (duplicate set)) (option_or (option_map Missing (missing set)) (option_map Cycle (cycle set))) fault (ap (option_map Duplicate) d)
    (first_kind (option_map Missing (missing set)) (option_map Cycle (cycle set)) fault h)

pub cycle_told : (set : List ClassDef) (fault : HierarchyFault) → duplicate set ≡ None → missing set ≡ None → IsFault (option_map Cycle (cycle set)) fault → IsFault (link_fault set) fault
unfolding link_fault
cycle_told set fault d m h =
    later_kind (option_map Duplicate (duplicate set)) (option_or (option_map Missing (missing set)) (option_map Cycle (cycle set))) fault (ap (option_map Duplicate) d)
    (later_kind (option_map Missing (missing set)) (option_map Cycle (cycle set)) fault (ap (option_map Missing) m) h)

pub nothing_told : (set : List ClassDef) → duplicate set ≡ None → missing set ≡ None → cycle set ≡ None → link_fault set ≡ None
unfolding link_fault
nothing_told set d m c =
    ap (λ o. option_or (option_map Duplicate o) (option_or (option_map Missing (missing set)) (option_map Cycle (cycle set)))) d
    ∙ ap (λ o. option_or (option_map Missing o) (option_map Cycle (cycle set))) m ∙ ap (option_map Cycle) c
