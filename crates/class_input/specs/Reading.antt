-- Reading from left to right: each reading answers a value and what is left of the input, or the first bad place.
use Rattle.std.specs.Prelude.{◌≡◌, ℕ, zero, suc, ◌+◌, ◌&&◌, List, [], ◌∷◌, ◌++◌, length, take, drop, Result, Ok, Err, nat_lt, nat_le, ◌==◌, if◌then◌else◌}
use Rattle.std.specs.Int.{Width, byte_len, from_be_bytes}
use Rattle.class_input.specs.declared.bad_class.BadKind.{BadKind}
use Rattle.class_input.specs.declared.bad_class.BadKind.TheVariants.{Short, AttrLength}
use Rattle.class_input.specs.declared.bad_class.BadClass.{BadClass}
use Rattle.class_input.specs.declared.bad_class.BadClass.TheVariants as errors
use Rattle.class_input.specs.declared.input.Input.{Input}

-- the bytes that are left up to the nearest limit, and the offset in the file of the first of them
pub record In : Type 0 where
  pub at : ℕ
  pub rest : List ℕ

pub record Fault : Type 0 where
  pub place : ℕ
  pub kind : BadKind

abbrev pub Reading : Type 0 → Type 0
Reading A = In → Result (A × In) Fault

abbrev pub bind : {A B : Type 0} → Result (A × In) Fault → (A → Reading B) → Result (B × In) Fault
bind (Ok x) f = f x.0 x.1
bind (Err e) f = Err e

infixl 10 ◌>>=◌
abbrev pub ◌>>=◌ : {A B : Type 0} → Reading A → (A → Reading B) → Reading B
(r >>= f) i = bind (r i) f

abbrev pub done : {A : Type 0} → A → Reading A
done x i = Ok (x, i)

-- a refusal at a place
abbrev pub refused : {A : Type 0} → ℕ → BadKind → Reading A
refused place kind i = Err (record { place = place; kind = kind })

-- where reading stands
abbrev pub here : Reading ℕ
here i = Ok (i.at, i)

-- n bytes, as one field
unfoldable pub bytes : ℕ → Reading (List ℕ)
bytes n i = if nat_lt (length i.rest) n then Err (record { place = i.at; kind = Short }) else Ok (take n i.rest, record { at = i.at + n; rest = drop n i.rest })

-- a number of a width, the highest byte first
unfoldable pub number : Width → Reading ℕ
number w = do
  text ← bytes (byte_len w)
  done (from_be_bytes w text)

-- n steps, one after the other, each from the state that the one before it left
unfoldable pub each : {S : Type 0} → ℕ → (S → Reading S) → S → Reading S
each zero step s = done s
each (suc n) step s = do
  after ← step s
  each n step after

-- one thing more at the end of a list
abbrev pub one_more : {A : Type 0} → Reading A → List A → Reading (List A)
one_more r xs = do
  x ← r
  done (xs ++ x ∷ [])

-- n things, one after the other
abbrev pub many : {A : Type 0} → ℕ → Reading A → Reading (List A)
many n r = each n (one_more r) []

-- the end of a part of n bytes: where its fields end before it does, or it passes the enclosing limit, it is refused at the end of the fields
abbrev pub closed : {A : Type 0} → ℕ → In → A → Reading A
closed n i x inner =
    if (length inner.rest == 0) && nat_le n (length i.rest)
    then Ok (x, record { at = i.at + n; rest = drop n i.rest })
    else Err (record { place = inner.at; kind = AttrLength })

-- a part of n bytes that has its own limit
unfoldable pub within : {A : Type 0} → ℕ → Reading A → Reading A
within n r i = bind (r (record { at = i.at; rest = take n i.rest })) (closed n i)

-- what a reader stands for
abbrev pub seen : Input → In
seen i = record { at = i.at; rest = i.rest.now }

-- What a function returned, and what its reader then stands for, is what reading gives, unless memory ran out.
abbrev pub Fails : {Y : Type 0} → BadClass → Result Y Fault → Type 0
Fails errors.Memory read = Unit {0}
Fails (errors.Bad place kind) read = read ≡ Err (record { place = place; kind = kind })

abbrev pub GivesBy : {X A : Type 0} → (X → A) → Result X BadClass → Input → Result (A × In) Fault → Type 0
GivesBy view (Ok x) new read = read ≡ Ok (view x, seen new)
GivesBy view (Err e) new read = Fails e read

abbrev pub Gives : {A : Type 0} → Result A BadClass → Input → Result (A × In) Fault → Type 0
Gives {A} result new read = GivesBy (λ (x : A). x) result new read

-- what is judged with no reading
abbrev pub lifted : {A : Type 0} → Result A Fault → Reading A
lifted (Ok x) i = Ok (x, i)
lifted (Err e) i = Err e

abbrev pub Answers : {X A : Type 0} → (X → A) → Result X BadClass → Result A Fault → Type 0
Answers view (Ok x) read = read ≡ Ok (view x)
Answers view (Err e) read = Fails e read

abbrev pub judging : {A B : Type 0} → Result A Fault → (A → Result B Fault) → Result B Fault
judging (Ok x) f = f x
judging (Err e) f = Err e

-- what is judged of each item of a list, in order
unfoldable pub checked : {X : Type 0} → (X → Result (Unit {0}) Fault) → List X → Result (Unit {0}) Fault
checked judge [] = Ok tt
checked judge (x ∷ xs) = judging (judge x) (λ _. checked judge xs)
