-- Steps of reading that the structures of a class file share.
use Rattle.std.specs.Prelude.{ℕ, List, Option, Some, None, Result, Ok, Err}
use Rattle.std.specs.Int.{w16}
use Rattle.class_input.specs.declared.bad_class.BadKind.{BadKind}
use Rattle.class_input.specs.Reading.{Fault, Reading, ◌>>=◌, here, lifted, number, many}

-- a table: a count, and so many things
unfoldable pub table : {A : Type 0} → Reading A → Reading (List A)
table r = do
  count ← number w16
  many count r

-- a value that is there, or a refusal at a place
abbrev pub fit : {A : Type 0} → ℕ → BadKind → Option A → Result A Fault
fit place kind None = Err (record { place = place; kind = kind })
fit place kind (Some a) = Ok a

-- an index of two bytes, judged at its place
unfoldable pub at_index : {A : Type 0} → (ℕ → ℕ → Result A Fault) → Reading A
at_index judge = do
  place ← here
  k ← number w16
  lifted (judge place k)
