-- What a word, or two, hold.
use Rattle.std.specs.Prelude.{ℤ, Option, Some, None}
use Rattle.run_state.specs.Words.{Word, Empty, Num, Long, Half, Null, Ref}

-- an int and its tag
abbrev pub as_int : {T : Type 0} → Option (Word T) → Option (ℤ × T)
as_int None = None
as_int (Some Empty) = None
as_int (Some (Num v t)) = Some (v, t)
as_int (Some (Long v t)) = None
as_int (Some Half) = None
as_int (Some Null) = None
as_int (Some (Ref a)) = None

abbrev pub below_half : {T : Type 0} → Option (Word T) → Option (ℤ × T)
below_half None = None
below_half (Some Empty) = None
below_half (Some (Num v t)) = None
below_half (Some (Long v t)) = Some (v, t)
below_half (Some Half) = None
below_half (Some Null) = None
below_half (Some (Ref a)) = None

-- a long and its tag: a half, and the number below it
abbrev pub as_long : {T : Type 0} → Option (Word T) → Option (Word T) → Option (ℤ × T)
as_long None below = None
as_long (Some Empty) below = None
as_long (Some (Num v t)) below = None
as_long (Some (Long v t)) below = None
as_long (Some Half) below = below_half below
as_long (Some Null) below = None
as_long (Some (Ref a)) below = None
