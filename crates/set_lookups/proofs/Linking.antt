-- The lists of the classes above, made from the rows.
use Rattle.std.proofs.Common.{◌≡◌, ◌∙◌, ℕ, List, ◌++◌, map, refl, sym, ap, subst, Option, Some, None}
use Rattle.std.specs.Prelude.{slice_get, option_map, option_to_list}
use Rattle.std.proofs.lemmas.Option.{slice_get-map}
use Rattle.class_model.specs.declared.class.ClassDef.{ClassDef}
use Rattle.set_lookups.specs.declared.row.Row.{Row}
use Rattle.set_lookups.specs.Above.{above}
use Rattle.set_lookups.specs.Levels.{Node, list_in, edge, AreFalling, IsAbove}
use Rattle.set_lookups.specs.Lookups.{interfaces_at, super_at}
use Rattle.set_lookups.specs.Rows.{AreRows, Ranked}
use Rattle.set_lookups.proofs.Index.{no_row, row_links}
use Rattle.set_lookups.proofs.Settled.{above_parts, direct_interface}

list_by : (f : Row → List ℕ) (rows : List Row) (at : ℕ) → edge (map f rows) at ≡ list_in (option_map f (slice_get rows at))
list_by f rows at = ap list_in (slice_get-map f rows at)

interfaces_by : (set : List ClassDef) (rows : List Row) (at : ℕ) (row : Option Row) → AreRows set rows → row ≡ slice_get rows at → list_in (option_map (λ r. r.interfaces) row) ≡ interfaces_at set at
interfaces_by set rows at None linked e = sym (no_row set rows at linked e).1
interfaces_by set rows at (Some row) linked e = (row_links set rows at row linked e).1

above_by : (set : List ClassDef) (rows : List Row) (at : ℕ) (row : Option Row) → AreRows set rows → row ≡ slice_get rows at → list_in (option_map (λ r. option_to_list r.superclass ++ r.interfaces) row) ≡ above set at
above_by set rows at None linked e =
    let none = no_row set rows at linked e in
    sym (above_parts set at ∙ ap (λ xs. xs ++ interfaces_at set at) none.0 ∙ none.1)
above_by set rows at (Some row) linked e =
    let links = row_links set rows at row linked e in
    ap (λ xs. xs ++ row.interfaces) links.0 ∙ ap (λ ys. super_at set at ++ ys) links.1 ∙ sym (above_parts set at)

-- functions that agree everywhere are the same
same_function : {A B : Type 0} (f g : A → B) → ((x : A) → f x ≡ g x) → f ≡ g
same_function f g h = λ j x. h x j

pub interface_edges : (set : List ClassDef) (rows : List Row) (edges : List (List ℕ)) → AreRows set rows → edges ≡ map (λ row. row.interfaces) rows → edge edges ≡ interfaces_at set
interface_edges set rows edges linked e =
    same_function (edge edges) (interfaces_at set) (λ at. ap (λ lists. edge lists at) e ∙ list_by (λ row. row.interfaces) rows at ∙ interfaces_by set rows at (slice_get rows at) linked refl)

pub above_edges : (set : List ClassDef) (rows : List Row) (edges : List (List ℕ)) → AreRows set rows → edges ≡ map (λ row. option_to_list row.superclass ++ row.interfaces) rows → edge edges ≡ above set
above_edges set rows edges linked e =
    same_function (edge edges) (above set) (λ at. ap (λ lists. edge lists at) e ∙ list_by (λ row. option_to_list row.superclass ++ row.interfaces) rows at ∙ above_by set rows at (slice_get rows at) linked refl)

pub interfaces_fall : (set : List ClassDef) (ranks : List ℕ) (edges : List (List ℕ)) → Ranked set ranks → edge edges ≡ interfaces_at set → AreFalling edges ranks
interfaces_fall set ranks edges r e = λ low k high at. r.falls low high (direct_interface set low k high (ap (λ f. slice_get (f low) k) (sym e) ∙ at))

pub above_falls : (set : List ClassDef) (ranks : List ℕ) (edges : List (List ℕ)) → Ranked set ranks → edge edges ≡ above set → AreFalling edges ranks
above_falls set ranks edges r e = λ low k high at. r.falls low high (k, ap (λ f. slice_get (f low) k) (sym e) ∙ at)

pub above_as : (first up first_as up_as : ℕ → List ℕ) (nodes : List Node) (starts : List ℕ) → first ≡ first_as → up ≡ up_as → IsAbove first up nodes starts → IsAbove first_as up_as nodes starts
above_as first up first_as up_as nodes starts e f h = subst (λ g. IsAbove g up_as nodes starts) e (subst (λ g. IsAbove first g nodes starts) f h)
