-- Reading tables of attributes from left to right, with the first bad place.
use Rattle.std.specs.Prelude.{ℕ, List, Option, Some, None, if◌then◌else◌}
use Rattle.std.specs.Int.{w16, w32}
use Rattle.class_input.specs.declared.bad_class.BadKind.TheVariants.{Twice}
use Rattle.class_input.specs.Reading.{Reading, ◌>>=◌, done, refused, here, bytes, number, each, within}
use Rattle.class_model.specs.declared.class.InnerRow.{InnerRow}
use Rattle.class_model.specs.declared.class.Constant.{Constant}
use Rattle.const_pool.specs.Pool.{Pool}
use Rattle.class_names.specs.Steps.{table, at_index}
use Rattle.class_names.specs.NameReading.{bytes_at, text_at, optional, class_name_at, constant_at}
use Rattle.class_attributes.specs.Attributes.{is_named}

-- what stands behind the name of an attribute that is dropped: its length, and its content as one field
unfoldable pub dropped : Reading (Unit {0})
dropped = do
  len ← number w32
  _ ← bytes len
  done tt

-- what stands behind the name of an attribute that is read: its length, and its fields within that
unfoldable pub content : {A : Type 0} → Reading A → Reading A
content r = do
  len ← number w32
  within len r

-- an attribute whose name stands at a place, of a name that may stand once
unfoldable pub once : {A : Type 0} → ℕ → Reading A → Option A → Reading (Option A)
once place r None = do
  a ← content r
  done (Some a)
once place r (Some found) = refused place Twice

-- an attribute that is dropped, behind those that gave `found`
abbrev pub kept : {S : Type 0} → S → Reading S
kept found = do
  _ ← dropped
  done found

-- ---- tables of which one name is read

unfoldable pub one_attribute : {A : Type 0} → Pool → List ℕ → Reading A → Option A → Reading (Option A)
one_attribute p name r found = do
  place ← here
  text ← at_index (bytes_at p)
  if is_named name text then once place r found else kept found

unfoldable pub one_read : {A : Type 0} → Pool → List ℕ → Reading A → Reading (Option A)
one_read p name r = do
  count ← number w16
  each count (one_attribute p name r) None

-- ---- tables of which two names are read

abbrev pub once_first : {A B : Type 0} → ℕ → Reading A → Option A × Option B → Reading (Option A × Option B)
once_first {A} {B} place r found = do
  a ← once place r found.0
  done (let pair : Option A × Option B = (a, found.1) in pair)

abbrev pub once_second : {A B : Type 0} → ℕ → Reading B → Option A × Option B → Reading (Option A × Option B)
once_second {A} {B} place s found = do
  b ← once place s found.1
  done (let pair : Option A × Option B = (found.0, b) in pair)

unfoldable pub two_attribute : {A B : Type 0} → Pool → List ℕ → Reading A → List ℕ → Reading B → Option A × Option B → Reading (Option A × Option B)
two_attribute p first r second s found = do
  place ← here
  text ← at_index (bytes_at p)
  if is_named first text then once_first place r found else if is_named second text then once_second place s found else kept found

abbrev pub none_found : {A B : Type 0} → Option A × Option B
none_found = (None, None)

unfoldable pub two_read : {A B : Type 0} → Pool → List ℕ → Reading A → List ℕ → Reading B → Reading (Option A × Option B)
two_read p first r second s = do
  count ← number w16
  each count (two_attribute p first r second s) none_found

-- ---- contents

unfoldable pub inner_row : Pool → Reading InnerRow
inner_row p = do
  inner ← at_index (class_name_at p)
  outer ← at_index (optional (class_name_at p))
  name ← at_index (optional (text_at p))
  flags ← number w16
  done (record { inner = inner; outer = outer; name = name; flags = flags })

abbrev pub constant_content : Pool → Reading Constant
constant_content p = at_index (constant_at p)

abbrev pub exceptions_content : Pool → Reading (List (List ℕ))
exceptions_content p = table (at_index (class_name_at p))

abbrev pub source_content : Pool → Reading (List ℕ)
source_content p = at_index (bytes_at p)

abbrev pub inner_content : Pool → Reading (List InnerRow)
inner_content p = table (inner_row p)
