-- Arrays of arrays that are made in the heap.
use Rattle.std.specs.Prelude.{◌≡◌, ℕ, ℤ, Option, Some, None, List, [], ◌∷◌, ◌++◌, map}
use Rattle.run_state.specs.Words.{Word}
use Rattle.run_state.specs.Objects.{Made, nested}
use Rattle.machine_heap.specs.declared.item.Item.{Item}
use Rattle.linked_code.specs.World.{World, tags_of}
use Rattle.machine.specs.Shown.{item_of}

-- items were added at the end, and nothing else changed
abbrev pub Grows : {A : Type 0} → List A → List A → Type 0
Grows {A} old new = (more : List A) × (new ≡ old ++ more)

-- arrays of these sizes, of a type, were made, and this is the outermost, or the default value where there is no size
abbrev pub Nests : {T : Type 0} → T → (T → T → T) → World T → List (Item T) → List (Item T) → List ℕ → ℕ → Word T → Type 0
Nests none join w old new sizes ty word = nested (tags_of none join w) sizes (w.ty ty) (map (item_of w) old) ≡ record { heap = map (item_of w) new; values = word ∷ [] }

-- with counts, or with cells, in front
abbrev pub appended : List ℤ → Option (List ℤ) → Option (List ℤ)
appended cs None = None
appended cs (Some ds) = Some (cs ++ ds)

abbrev pub joined : {T : Type 0} → List (Word T) → Made T → Made T
joined cells m = record { heap = m.heap; values = cells ++ m.values }

-- and sizes
abbrev pub sized : List ℕ → Option (List ℕ) → Option (List ℕ)
sized ns None = None
sized ns (Some ms) = Some (ns ++ ms)
