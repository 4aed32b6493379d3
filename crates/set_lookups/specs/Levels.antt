-- Lists of classes, level by level upwards: each list once, with the number of the list of the classes directly above its own.
use Rattle.std.specs.Prelude.{◌≡◌, ℕ, ◌<◌, ◌≤◌, ◌||◌, zero, suc, nat_eq, Bool, List, [], ◌∷◌, ◌++◌, ◌⊎◌, length, flat_map, Option, Some, None, slice_get, slice_index}
use Rattle.std.specs.List.{list_any}
use Rattle.indexmap.specs.IndexSet.{insert_key}

-- numbers behind others that are there already, each once, where it comes first
abbrev pub once : List ℕ → List ℕ → List ℕ
once keys [] = keys
once keys (x ∷ xs) = once (insert_key nat_eq keys x) xs

-- a list of classes, and the number of the list above it
abbrev pub Node : Type 0
Node = List ℕ × ℕ

abbrev pub list_of : Option Node → List ℕ
list_of None = []
list_of (Some node) = node.0

abbrev pub next_of : Option Node → ℕ
next_of None = 0
next_of (Some node) = node.1

abbrev pub list_at : List Node → ℕ → List ℕ
list_at nodes at = list_of (slice_get nodes at)

abbrev pub next_at : List Node → ℕ → ℕ
next_at nodes at = next_of (slice_get nodes at)

-- a list is there already, or it is put behind the others
abbrev pub Adds : List Node → List Node → List ℕ → ℕ → ℕ → Type 0
Adds old new list next at = ((new ≡ old) × (at < length old) × (list_at old at ≡ list)) ⊎ ((new ≡ old ++ (list, next) ∷ []) × (at ≡ length old))

-- each list is followed by that of what is directly above its classes, and the first one is empty
pub record IsLevels (up : ℕ → List ℕ) (nodes : List Node) : Type 0 where
  pub linked : (at : ℕ) → list_at nodes (next_at nodes at) ≡ once [] (flat_map up (list_at nodes at))
  pub within : (at : ℕ) → next_at nodes at < length nodes
  pub bottom : slice_get nodes 0 ≡ Some ([], 0)

-- more lists are there than before, and those that were there stay
pub record IsGrown (up : ℕ → List ℕ) (old new : List Node) : Type 0 where
  pub levels : IsLevels up new
  pub kept : (at : ℕ) → at < length old → list_at new at ≡ list_at old at
  pub longer : length old ≤ length new

-- a list is put among others, where it has this number
pub record IsPlaced (up : ℕ → List ℕ) (old new : List Node) (list : List ℕ) (at : ℕ) : Type 0 where
  pub grown : IsGrown up old new
  pub within : at < length new
  pub is : list_at new at ≡ list

-- the levels above each class start with the list of its own
pub record IsAbove (first up : ℕ → List ℕ) (nodes : List Node) (places : List ℕ) : Type 0 where
  pub levels : IsLevels up nodes
  pub starts : (at : ℕ) → list_at nodes (slice_index places at) ≡ once [] (first at)

abbrev pub list_in : Option (List ℕ) → List ℕ
list_in None = []
list_in (Some list) = list

-- the list of a number
abbrev pub edge : List (List ℕ) → ℕ → List ℕ
edge edges at = list_in (slice_get edges at)

-- each class has a higher rank than those of its list
abbrev pub AreFalling : List (List ℕ) → List ℕ → Type 0
AreFalling edges ranks = (low k high : ℕ) → slice_get (edge edges low) k ≡ Some high → slice_index ranks high < slice_index ranks low

-- each list of a way up is what is directly above the one before it, from a list on to the one where it ends
abbrev pub Climbs : (ℕ → List ℕ) → List ℕ → List (List ℕ) → List ℕ → Type 0
Climbs up start [] end = start ≡ end
Climbs up start (list ∷ lists) end = (start ≡ list) × Climbs up (once [] (flat_map up list)) lists end

-- a class of some, or of those in at most so many levels above them, passes a test
abbrev pub any_levels : ℕ → (ℕ → List ℕ) → (ℕ → Bool) → List ℕ → Bool
any_levels zero up test numbers = list_any test numbers
any_levels (suc steps) up test numbers = list_any test numbers || any_levels steps up test (flat_map up numbers)
