-- Reading the frames of a StackMapTable from left to right, with the first bad place.
use Rattle.std.specs.Prelude.{◌≡◌, ℕ, zero, suc, ◌-◌, ◌==◌, nat_lt, List, [], ◌∷◌, length, Option, Some, None, Result, Ok, Err, if◌then◌else◌}
use Rattle.std.specs.Int.{Width, w8, w16}
use Rattle.class_input.specs.Reading as input
use Rattle.class_input.specs.Reading.{In, Fault, seen}
use Rattle.class_input.specs.declared.input.Input.{Input}
use Rattle.stack_maps.specs.declared.frame.RawType.{RawType}
use Rattle.stack_maps.specs.declared.frame.RawType.TheVariants.{Top, Int, Long, Null, UninitThis, Object, Uninit}
use Rattle.stack_maps.specs.declared.frame.RawFrame.{RawFrame}
use Rattle.stack_maps.specs.declared.frame_stop.FrameStop.{FrameStop}
use Rattle.stack_maps.specs.declared.frame_stop.FrameStop.TheVariants.{Short, Reserved, BadTag, Underflow, Memory}
use Rattle.stack_maps.specs.declared.written.Entries.{Entries}
use Rattle.stack_maps.specs.declared.written.Locals.{Locals}
use Rattle.stack_maps.specs.declared.written.Locals.TheVariants.{Kept, Chop, Append, Full}
use Rattle.stack_maps.specs.declared.written.Written.{Written}
use Rattle.stack_maps.specs.Grammar.{known_after}
use Rattle.stack_maps.specs.declared.marks.FrameMark.{FrameMark}
use Rattle.stack_maps.specs.Expand.{judging, expanded}
use Rattle.stack_maps.specs.Marks.{table_marks}

-- what is read, and what is left of the input; or the first bad place
abbrev pub Reading : Type 0 → Type 0
Reading A = In → Result (A × In) FrameStop

abbrev pub bind : {A B : Type 0} → Result (A × In) FrameStop → (A → Reading B) → Result (B × In) FrameStop
bind (Ok x) f = f x.0 x.1
bind (Err e) f = Err e

infixl 10 ◌>>=◌
abbrev pub ◌>>=◌ : {A B : Type 0} → Reading A → (A → Reading B) → Reading B
(r >>= f) i = bind (r i) f

abbrev pub done : {A : Type 0} → A → Reading A
done x i = Ok (x, i)

abbrev pub refused : {A : Type 0} → FrameStop → Reading A
refused stop i = Err stop

-- where reading stands
abbrev pub here : Reading ℕ
here i = Ok (i.at, i)

-- a number of a width: where it can't be read, bytes of it are missing
abbrev pub shortly : Result (ℕ × In) Fault → Result (ℕ × In) FrameStop
shortly (Ok x) = Ok x
shortly (Err fault) = Err (Short fault.place)

unfoldable pub number : Width → Reading ℕ
number w i = shortly (input.number w i)

-- n things, one after the other; what is known before a thing goes on by `next`
unfoldable pub each : {S A : Type 0} → (S → Reading A) → (S → A → S) → ℕ → S → Reading (List A)
each r next zero s = done []
each r next (suc n) s = do
  x ← r s
  xs ← each r next n (next s x)
  done (x ∷ xs)

-- ---- types

-- a type that is its tag alone
abbrev pub tag_alone : ℕ → Option RawType
tag_alone tag =
    if tag == 0 then Some Top
    else if tag == 1 then Some Int
    else if tag == 4 then Some Long
    else if tag == 5 then Some Null
    else if tag == 6 then Some UninitThis
    else None

abbrev pub known_tag : ℕ → ℕ → Option RawType → Reading RawType
known_tag at tag None = refused (BadTag at tag)
known_tag at tag (Some t) = done t

-- what stands behind a tag
abbrev pub behind_tag : ℕ → ℕ → Reading RawType
behind_tag at tag =
    if tag == 7 then (do
      k ← number w16
      done (Object k))
    else if tag == 8 then (do
      k ← number w16
      done (Uninit k))
    else known_tag at tag (tag_alone tag)

unfoldable pub type_info : Reading RawType
type_info = do
  at ← here
  tag ← number w8
  behind_tag at tag

abbrev pub same_state : Unit {0} → RawType → Unit {0}
same_state u t = u

abbrev pub types : ℕ → Reading (List RawType)
types count = each (λ _. type_info) same_state count tt

unfoldable pub entries : ℕ → Reading Entries
entries count = do
  at ← here
  types ← types count
  done (record { at = at; types = types })

unfoldable pub counted : Reading Entries
counted = do
  count ← number w16
  entries count

-- ---- frames

abbrev pub made : ℕ → ℕ → Locals → Entries → Written
made delta_at delta locals stack = record { delta_at = delta_at; delta = delta; locals = locals; stack = stack }

-- the type byte holds the delta
unfoldable pub short : ℕ → ℕ → ℕ → Reading Written
short delta_at delta items = do
  stack ← entries items
  done (made delta_at delta Kept stack)

unfoldable pub extended : ℕ → Reading Written
extended items = do
  delta_at ← here
  delta ← number w16
  stack ← entries items
  done (made delta_at delta Kept stack)

-- a frame that chops too many locals is refused at its type byte, before its delta is read
unfoldable pub chop : ℕ → ℕ → ℕ → Reading Written
chop known at gone =
    if nat_lt known gone then refused (Underflow at)
    else (do
      delta_at ← here
      delta ← number w16
      stack ← entries 0
      done (made delta_at delta (Chop gone) stack))

unfoldable pub append : ℕ → Reading Written
append more = do
  delta_at ← here
  delta ← number w16
  locals ← entries more
  stack ← entries 0
  done (made delta_at delta (Append locals) stack)

unfoldable pub full : Reading Written
full = do
  delta_at ← here
  delta ← number w16
  locals ← counted
  stack ← counted
  done (made delta_at delta (Full locals) stack)

-- what stands behind a type byte, by JVMS 4.7.4
unfoldable pub form : ℕ → ℕ → ℕ → Reading Written
form known at tag =
    if nat_lt tag 64 then short at tag 0
    else if nat_lt tag 128 then short at (tag - 64) 1
    else if nat_lt tag 247 then refused (Reserved at tag)
    else if tag == 247 then extended 1
    else if nat_lt tag 251 then chop known at (251 - tag)
    else if tag == 251 then extended 0
    else if nat_lt tag 255 then append (tag - 251)
    else full

unfoldable pub frame : ℕ → Reading Written
frame known = do
  at ← here
  tag ← number w8
  form known at tag

abbrev pub known_next : ℕ → Written → ℕ
known_next known frame = known_after known frame.locals

abbrev pub frames : ℕ → ℕ → Reading (List Written)
frames count known = each frame known_next count known

unfoldable pub table : ℕ → Reading (List Written)
table known = do
  count ← number w16
  frames count known

-- ---- what is answered for bytes

abbrev pub from_start : List ℕ → In
from_start bytes = record { at = 0; rest = bytes }

-- offsets are judged after all frames have their shape
unfoldable pub decoded : List RawType → List ℕ → Result (List RawFrame) FrameStop
decoded first bytes = judging (table (length first) (from_start bytes)) (λ read. expanded 0 first read.0)

-- what is judged later, and the number of bytes that the table takes
unfoldable pub marked : ℕ → List ℕ → Result (List FrameMark × ℕ) FrameStop
marked known bytes = judging (table known (from_start bytes)) (λ read. Ok (table_marks 0 read.0, read.1.at))

-- ---- what functions return

-- a refusal is the one that is read, unless memory ran out
abbrev pub Fails : {Y : Type 0} → FrameStop → Result Y FrameStop → Type 0
Fails Memory read = Unit {0}
Fails stop read = read ≡ Err stop

abbrev pub GivesBy : {X A : Type 0} → (X → A) → Result X FrameStop → Input → Result (A × In) FrameStop → Type 0
GivesBy view (Ok x) new read = read ≡ Ok (view x, seen new)
GivesBy view (Err e) new read = Fails e read

abbrev pub Gives : {A : Type 0} → Result A FrameStop → Input → Result (A × In) FrameStop → Type 0
Gives {A} result new read = GivesBy (λ (x : A). x) result new read

abbrev pub Answers : {A : Type 0} → Result A FrameStop → Result A FrameStop → Type 0
Answers (Ok x) answer = answer ≡ Ok x
Answers (Err e) answer = Fails e answer
