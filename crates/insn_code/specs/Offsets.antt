-- The offsets at which the instructions of code begin.
use Rattle.std.specs.Prelude.{◌≡◌, ℕ, ◌≤◌, ◌==◌, List, length, Option, Some, None, slice_get, position, ℤ, pos, negsuc}

-- the offsets of opcodes, in order, and how many bytes the instructions take
pub record Offsets : Type 0 where
  pub starts : List ℕ
  pub size : ℕ

-- the number of the instruction whose opcode stands at an offset
abbrev pub start_number : List ℕ → ℕ → Option ℕ
start_number starts offset = position (λ start. start == offset) starts

abbrev pub number_at : List ℕ → ℤ → Option ℕ
number_at starts (pos offset) = start_number starts offset
number_at starts (negsuc n) = None

abbrev pub slot_number : Option (Option ℕ) → Option ℕ
slot_number None = None
slot_number (Some slot) = slot

-- a table that has, by each offset, the number of the instruction that begins there
pub record HasNumbers (starts : List ℕ) (numbers : List (Option ℕ)) : Type 0 where
  pub each_is : (offset : ℕ) → slot_number (slice_get numbers offset) ≡ start_number starts offset
  pub few : length starts ≤ length numbers
  pub small : length numbers ≤ 65535
