-- What an instruction takes. Each of these goes on with what it finds, and is stuck where it finds something else.
use Rattle.std.specs.Prelude.{ℕ, zero, suc, ℤ, pos, negsuc, Bool, true, false, List, [], ◌∷◌, Option, Some, None, not, eqb}
use Rattle.class_model.specs.declared.insn.Width.{Width}
use Rattle.class_model.specs.declared.insn.Width.TheVariants as width
use Rattle.class_model.specs.declared.insn.Kind.{Kind}
use Rattle.class_model.specs.declared.insn.Kind.TheVariants as kind
use Rattle.class_model.specs.declared.insn.BinOp.{BinOp}
use Rattle.class_model.specs.declared.insn.BinOp.TheVariants as operation
use Rattle.run_state.specs.Words.{Word, Empty, Num, Long, Half, Null, Ref}
use Rattle.run_state.specs.State.{Outside, Areas, State, Stuck, ended}

abbrev pub either : {A : Type 0} → Bool → A → A → A
either true a b = a
either false a b = b

module _ {T : Type 0} (o : Outside) (ar : Areas T) where
  abbrev pub stuck : State T
  stuck = ended o ar Stuck

  abbrev pub on_some : {A : Type 0} → Option A → (A → State T) → State T
  on_some None go = stuck
  on_some (Some x) go = go x

  -- the topmost int
  abbrev pub on_int : List (Word T) → (ℤ → T → List (Word T) → State T) → State T
  on_int [] go = stuck
  on_int (Empty ∷ st) go = stuck
  on_int (Num v t ∷ st) go = go v t st
  on_int (Long v t ∷ st) go = stuck
  on_int (Half ∷ st) go = stuck
  on_int (Null ∷ st) go = stuck
  on_int (Ref a ∷ st) go = stuck

  -- the number below a half
  abbrev pub under_half : List (Word T) → (ℤ → T → List (Word T) → State T) → State T
  under_half [] go = stuck
  under_half (Empty ∷ st) go = stuck
  under_half (Num v t ∷ st) go = stuck
  under_half (Long v t ∷ st) go = go v t st
  under_half (Half ∷ st) go = stuck
  under_half (Null ∷ st) go = stuck
  under_half (Ref a ∷ st) go = stuck

  -- the topmost long
  abbrev pub on_long : List (Word T) → (ℤ → T → List (Word T) → State T) → State T
  on_long [] go = stuck
  on_long (Empty ∷ st) go = stuck
  on_long (Num v t ∷ st) go = stuck
  on_long (Long v t ∷ st) go = stuck
  on_long (Half ∷ st) go = under_half st go
  on_long (Null ∷ st) go = stuck
  on_long (Ref a ∷ st) go = stuck

  abbrev pub on_number : Width → List (Word T) → (ℤ → T → List (Word T) → State T) → State T
  on_number width.Int st go = on_int st go
  on_number width.Long st go = on_long st go

  -- the topmost reference, or null
  abbrev pub on_ref : List (Word T) → (Word T → List (Word T) → State T) → State T
  on_ref [] go = stuck
  on_ref (Empty ∷ st) go = stuck
  on_ref (Num v t ∷ st) go = stuck
  on_ref (Long v t ∷ st) go = stuck
  on_ref (Half ∷ st) go = stuck
  on_ref (Null ∷ st) go = go Null st
  on_ref (Ref a ∷ st) go = go (Ref a) st

  -- the topmost object or array, or what null gives
  abbrev pub on_object : List (Word T) → State T → (ℕ → List (Word T) → State T) → State T
  on_object [] null go = stuck
  on_object (Empty ∷ st) null go = stuck
  on_object (Num v t ∷ st) null go = stuck
  on_object (Long v t ∷ st) null go = stuck
  on_object (Half ∷ st) null go = stuck
  on_object (Null ∷ st) null go = null
  on_object (Ref a ∷ st) null go = go a st

  -- the topmost value of a kind
  abbrev pub on_kind : Kind → List (Word T) → (Word T → List (Word T) → State T) → State T
  on_kind kind.Int st go = on_int st (λ v t rest. go (Num v t) rest)
  on_kind kind.Long st go = on_long st (λ v t rest. go (Long v t) rest)
  on_kind kind.Ref st go = on_ref st go

  -- a local's value is of a kind
  abbrev pub is_int : Word T → (ℤ → T → State T) → State T
  is_int Empty go = stuck
  is_int (Num v t) go = go v t
  is_int (Long v t) go = stuck
  is_int Half go = stuck
  is_int Null go = stuck
  is_int (Ref a) go = stuck

  abbrev pub is_long : Word T → (ℤ → T → State T) → State T
  is_long Empty go = stuck
  is_long (Num v t) go = stuck
  is_long (Long v t) go = go v t
  is_long Half go = stuck
  is_long Null go = stuck
  is_long (Ref a) go = stuck

  abbrev pub is_ref : Word T → (Word T → State T) → State T
  is_ref Empty go = stuck
  is_ref (Num v t) go = stuck
  is_ref (Long v t) go = stuck
  is_ref Half go = stuck
  is_ref Null go = go Null
  is_ref (Ref a) go = go (Ref a)

  abbrev pub of_kind : Kind → Word T → (Word T → State T) → State T
  of_kind kind.Int w go = is_int w (λ v t. go (Num v t))
  of_kind kind.Long w go = is_long w (λ v t. go (Long v t))
  of_kind kind.Ref w go = is_ref w go

  -- n words of the stack, in the order in which they lie from below: the first locals of a call (JVMS 2.6.1)
  abbrev pub with_args : ℕ → List (Word T) → List (Word T) → (List (Word T) → List (Word T) → State T) → State T
  with_args zero st args go = go args st
  with_args (suc n) [] args go = stuck
  with_args (suc n) (w ∷ st) args go = with_args n st (w ∷ args) go

abbrev pub is_zero : ℤ → Bool
is_zero (pos zero) = true
is_zero (pos (suc n)) = false
is_zero (negsuc n) = false

-- a division by 0 fails; all else goes on
abbrev pub dividing : {A : Type 0} → BinOp → ℤ → A → A → A
dividing operation.Add b fails goes = goes
dividing operation.Sub b fails goes = goes
dividing operation.Mul b fails goes = goes
dividing operation.Div b fails goes = either (is_zero b) fails goes
dividing operation.Rem b fails goes = either (is_zero b) fails goes
dividing operation.And b fails goes = goes
dividing operation.Or b fails goes = goes
dividing operation.Xor b fails goes = goes

-- a number of a width, as a value
abbrev pub number : {T : Type 0} → Width → ℤ → T → Word T
number width.Int v t = Num v t
number width.Long v t = Long v t

-- the address of a reference, and none of null
abbrev pub place_of : {T : Type 0} → Word T → Option ℕ
place_of Empty = None
place_of (Num v t) = None
place_of (Long v t) = None
place_of Half = None
place_of Null = None
place_of (Ref a) = Some a

-- whether two references are the same, null among them
abbrev pub same_place : Option ℕ → Option ℕ → Bool
same_place None None = true
same_place None (Some b) = false
same_place (Some a) None = false
same_place (Some a) (Some b) = eqb a b

abbrev pub agrees : Bool → Bool → Bool
agrees true b = b
agrees false b = not b
