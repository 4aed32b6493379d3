-- A closed set is closed in any other order.
use Rattle.std.proofs.Common.{List, [], ◌∷◌, ◌++◌, sym, subst, append_assoc, append-nil}
use Rattle.class_model.specs.declared.class.ClassDef.{ClassDef}
use Rattle.class_set.specs.Closed.{Closed}
use Rattle.first_form_laws.proofs.Once.{distinct_swapped}
use Rattle.first_form_laws.proofs.Neighbours.{neighbours}
use Rattle.first_form_laws.proofs.Reordered.{closed_in_order}

pub closed_swapped : (front back : List ClassDef) (class next : ClassDef) → Closed (front ++ class ∷ next ∷ back) → Closed (front ++ next ∷ class ∷ back)
closed_swapped front back class next closed =
    let distinct = distinct_swapped front back class next closed.distinct in
    closed_in_order (neighbours front back next class distinct) distinct closed

-- the last class is put among the others
pub closed_inserted : (front back : List ClassDef) (class : ClassDef) → Closed ((front ++ back) ++ class ∷ []) → Closed (front ++ class ∷ back)
closed_inserted front [] class closed = subst (λ (xs : List ClassDef). Closed (xs ++ class ∷ [])) (append-nil front) closed
closed_inserted front (next ∷ back) class closed =
    let here : Closed (((front ++ next ∷ []) ++ back) ++ class ∷ []) = subst (λ (xs : List ClassDef). Closed (xs ++ class ∷ [])) (sym (append_assoc front (next ∷ []) back)) closed in
    let rest = closed_inserted (front ++ next ∷ []) back class here in
    closed_swapped front back next class (subst Closed (append_assoc front (next ∷ []) (class ∷ back)) rest)
