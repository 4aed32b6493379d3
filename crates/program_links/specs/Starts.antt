-- The initializers along classes.
use Rattle.std.specs.Prelude.{ℕ, List, [], Option, Some, None, slice_get, option_to_list}

abbrev pub start_given : Option (Option ℕ) → List ℕ
start_given None = []
start_given (Some start) = option_to_list start

abbrev pub start_of : List (Option ℕ) → ℕ → List ℕ
start_of starts number = start_given (slice_get starts number)
