-- Reading a pool from left to right, up to the first bad place.
use Rattle.std.specs.Prelude.{ℕ, zero, suc, ◌+◌, ◌-◌, ◌<◌, ◌≤◌, ◌^◌, List, [], ◌∷◌, ◌++◌, length, map, take, Option, Some, None, Result, Ok, Err, nat_lt, ◌==◌, if◌then◌else◌}
use Rattle.std.specs.Int.{w8, w16, w32, w64, from_be_bytes, cast_signed}
use Rattle.class_input.specs.declared.bad_class.BadKind.TheVariants as bad
use Rattle.class_input.specs.Reading.{In, Fault, Reading, ◌>>=◌, done, refused, here, lifted, judging, checked, bytes, number, each}
use Rattle.modified_utf8.specs.TextReading.{read_text}
use Rattle.const_pool.specs.Pool.{Pool, IsPool, HasText, entry_at, as_text, as_class, as_name_and_type}
use Rattle.const_pool.specs.declared.entry.Entry.{Entry}
use Rattle.const_pool.specs.declared.decode.Placed.{Placed}
use Rattle.const_pool.specs.declared.entry.Entry.TheVariants.{Utf8, Integer, Float, Long, Double, Class, Text, Field, Method, InterfaceMethod, NameAndType, Handle, MethodType, Dynamic}

-- ---- entries, in the order of their fields

abbrev pub text_judgement : Result (List ℕ) ℕ → Result (Unit {0}) Fault
text_judgement (Ok units) = Ok tt
text_judgement (Err place) = Err (record { place = place; kind = bad.Text })

-- bytes that stand at a place are judged as text, at the first byte of the character that is wrong
unfoldable pub judged_text : ℕ → List ℕ → Result (Unit {0}) Fault
judged_text at text = text_judgement (read_text at text)

-- the bytes of a text are one field; they are judged as text once they are there
unfoldable pub utf8_body : Reading Entry
utf8_body = do
  len ← number w16
  at ← here
  text ← bytes len
  _ ← lifted (judged_text at text)
  done (Utf8 text)

unfoldable pub integer_body : Reading Entry
integer_body = do
  n ← number w32
  done (Integer (cast_signed w32 n))

unfoldable pub float_body : Reading Entry
float_body = do
  bits ← bytes 4
  done (Float bits)

-- two fields of four bytes
unfoldable pub eight : Reading (List ℕ)
eight = do
  high ← bytes 4
  low ← bytes 4
  done (high ++ low)

unfoldable pub long_body : Reading Entry
long_body = do
  text ← eight
  done (Long (cast_signed w64 (from_be_bytes w64 text)))

unfoldable pub double_body : Reading Entry
double_body = do
  text ← eight
  done (Double text)

abbrev pub one : (ℕ → Entry) → Reading Entry
one entry = do
  k ← number w16
  done (entry k)

unfoldable pub two_numbers : Reading (ℕ × ℕ)
two_numbers = do
  k ← number w16
  m ← number w16
  done (k, m)

abbrev pub two : (ℕ → ℕ → Entry) → Reading Entry
two entry = do
  pair ← two_numbers
  done (entry pair.0 pair.1)

unfoldable pub handle_body : Reading Entry
handle_body = do
  k ← number w8
  m ← number w16
  done (Handle k m)

-- an entry of indices behind its tag, which stands at a place
unfoldable pub references : ℕ → ℕ → Reading Entry
references at tag =
    if tag == 7 then one Class
    else if tag == 8 then one Text
    else if tag == 9 then two Field
    else if tag == 10 then two Method
    else if tag == 11 then two InterfaceMethod
    else if tag == 12 then two NameAndType
    else if tag == 15 then handle_body
    else if tag == 16 then one MethodType
    else if tag == 18 then two Dynamic
    else refused at (bad.PoolTag tag)

-- what takes two indices is refused at its tag where one is left
abbrev pub wide : ℕ → ℕ → ℕ → Reading Entry → Reading Entry
wide at room tag body = if nat_lt room 2 then refused at (bad.PoolTag tag) else body

-- what stands behind a tag at a place, where so many indices are left
unfoldable pub body : ℕ → ℕ → ℕ → Reading Entry
body at room tag =
    if tag == 1 then utf8_body
    else if tag == 3 then integer_body
    else if tag == 4 then float_body
    else if tag == 5 then wide at room 5 long_body
    else if tag == 6 then wide at room 6 double_body
    else references at tag

unfoldable pub entry : ℕ → Reading Entry
entry room = do
  at ← here
  tag ← number w8
  body at room tag

-- the indices that an entry takes, each with the place of its tag
abbrev pub placed : ℕ → Entry → List Placed
placed at (Long n) = record { place = at; entry = Some (Long n) } ∷ record { place = at; entry = None } ∷ []
placed at (Double bits) = record { place = at; entry = Some (Double bits) } ∷ record { place = at; entry = None } ∷ []
placed at e = record { place = at; entry = Some e } ∷ []

-- one entry more, where an index is left
unfoldable pub more : ℕ → List Placed → Reading (List Placed)
more count slots =
    if nat_lt (length slots) count then (do
      at ← here
      e ← entry (count - length slots)
      done (slots ++ placed at e))
    else done slots

-- the entries of so many indices
abbrev pub slots : ℕ → Reading (List Placed)
slots count = each count (more count) []

-- a place within a file, and a text where it is one
abbrev pub IsTextSlot : Option Entry → Type 0
IsTextSlot None = Unit {0}
IsTextSlot (Some e) = HasText e

abbrev pub IsPlaced : Placed → Type 0
IsPlaced slot = (slot.place < 2 ^ 63) × IsTextSlot slot.entry

abbrev pub entry_of : Placed → Option Entry
entry_of slot = slot.entry

abbrev pub pool_of : List Placed → Pool
pool_of slots = map entry_of slots

-- ---- references, once all entries are there, in the order of indices

abbrev pub of_kind : {A : Type 0} → ℕ → ℕ → Option A → Result A Fault
of_kind place k None = Err (record { place = place; kind = bad.PoolKind k })
of_kind place k (Some a) = Ok a

abbrev pub found : {A : Type 0} → (Entry → Option A) → ℕ → ℕ → Option Entry → Result A Fault
found view place k None = Err (record { place = place; kind = bad.PoolIndex k })
found view place k (Some e) = of_kind place k (view e)

-- what an index names that stands at a place
unfoldable pub named : {A : Type 0} → (Entry → Option A) → Pool → ℕ → ℕ → Result A Fault
named view p place k = found view place k (entry_at p k)

abbrev pub judged_one : {A : Type 0} → (Entry → Option A) → Pool → ℕ → ℕ → Result (Unit {0}) Fault
judged_one view p place k = judging (named view p place k) (λ _. Ok tt)

abbrev pub judged_two : {A B : Type 0} → (Entry → Option A) → (Entry → Option B) → Pool → ℕ → ℕ → ℕ → Result (Unit {0}) Fault
judged_two first second p place k m = judging (named first p place k) (λ _. judged_one second p (place + 2) m)

-- an entry whose tag stands at a place
unfoldable pub judged_entry : Pool → ℕ → Entry → Result (Unit {0}) Fault
judged_entry p place (Class k) = judged_one as_text p (place + 1) k
judged_entry p place (Text k) = judged_one as_text p (place + 1) k
judged_entry p place (Field k m) = judged_two as_class as_name_and_type p (place + 1) k m
judged_entry p place (Method k m) = judged_two as_class as_name_and_type p (place + 1) k m
judged_entry p place (InterfaceMethod k m) = judged_two as_class as_name_and_type p (place + 1) k m
judged_entry p place (NameAndType k m) = judged_two as_text as_text p (place + 1) k m
judged_entry p place e = Ok tt

abbrev pub judged_at : Pool → ℕ → Option Entry → Result (Unit {0}) Fault
judged_at p place None = Ok tt
judged_at p place (Some e) = judged_entry p place e

abbrev pub judged_slot : Pool → Placed → Result (Unit {0}) Fault
judged_slot p slot = judged_at p slot.place slot.entry

-- ---- the pool

-- what stands behind the count, which is one more than the number of indices
abbrev pub entries : ℕ → ℕ → Reading Pool
entries at zero = refused at bad.PoolCount
entries at (suc count) = do
  placed ← slots count
  _ ← lifted (checked (judged_slot (pool_of placed)) placed)
  done (pool_of placed)

unfoldable pub pool : Reading Pool
pool = do
  at ← here
  count ← number w16
  entries at count

-- an index, and what it names
unfoldable pub indexed : {A : Type 0} → (Entry → Option A) → Pool → Reading A
indexed view p = do
  at ← here
  k ← number w16
  lifted (named view p at k)

-- the pool that bytes begin with, and the number of its bytes
abbrev pub counted : Result (Pool × In) Fault → Result (Pool × ℕ) Fault
counted (Ok read) = Ok (read.0, read.1.at)
counted (Err fault) = Err fault

abbrev pub decoded : List ℕ → Result (Pool × ℕ) Fault
decoded text = counted (pool (record { at = 0; rest = text }))

-- bytes that begin with the text of a pool, of so many bytes
pub record BeginsWithPool (text : List ℕ) (p : Pool) (len : ℕ) : Type 0 where
  pub within : len ≤ length text
  pub stands : IsPool (take len text) p
