-- Ranks of classes, judged row by row.
use Rattle.std.specs.Prelude.{◌≡◌, ℕ, ◌<◌, ◌≤◌, ◌&&◌, nat_lt, Bool, true, List, length, Option, Some, None, slice_get, slice_index}
use Rattle.std.specs.List.{list_all}
use Rattle.set_lookups.specs.declared.row.Row.{Row}

abbrev pub is_lower : List ℕ → ℕ → ℕ → Bool
is_lower ranks rank number = nat_lt (slice_index ranks number) rank

abbrev pub is_super_lower : List ℕ → ℕ → Option ℕ → Bool
is_super_lower ranks rank None = true
is_super_lower ranks rank (Some number) = is_lower ranks rank number

-- the classes directly above have lower ranks
abbrev pub is_row_ranked : List ℕ → ℕ → Row → Bool
is_row_ranked ranks rank row = is_super_lower ranks rank row.superclass && list_all (is_lower ranks rank) row.interfaces

pub record PlaceRanked (rows : List Row) (ranks : List ℕ) (at : ℕ) : Type 0 where
  pub falls : (row : Row) → slice_get rows at ≡ Some row → is_row_ranked ranks (slice_index ranks at) row ≡ true
  pub small : slice_index ranks at ≤ length rows

pub record RowsRanked (rows : List Row) (ranks : List ℕ) : Type 0 where
  pub as_many : length ranks ≡ length rows
  pub each : (at : ℕ) → at < length rows → PlaceRanked rows ranks at
