-- A text that stands in no list of texts: the empty one, or one that is longer than all of them together.
use Rattle.std.specs.Prelude.{ℕ, List, [], ◌∷◌, flat_map, if◌then◌else◌}
use Rattle.std.specs.List.{list_any}
use Rattle.set_lookups.specs.Above.{same_name}

unfoldable pub past : List (List ℕ) → List ℕ
past texts = if list_any (same_name []) texts then 0 ∷ flat_map (λ text. text) texts else []
