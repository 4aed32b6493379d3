-- What bytes are: a relation between a text and what it stands for says nothing of places, limits or order.
use Rattle.std.specs.Prelude.{◌≡◌, ℕ, ◌<◌, ◌^◌, List, [], ◌∷◌, ◌++◌, slice_index}
use Rattle.std.specs.Int.{w8, w16, w32, w64, to_be_bytes}

-- numbers that are bytes
abbrev pub IsBytes : List ℕ → Type 0
IsBytes text = (i : ℕ) → slice_index text i < 256

-- a number of one, two, four or eight bytes
abbrev pub IsU8 : List ℕ → ℕ → Type 0
IsU8 text n = (n < 2 ^ 8) × (text ≡ to_be_bytes w8 n)

abbrev pub IsU16 : List ℕ → ℕ → Type 0
IsU16 text n = (n < 2 ^ 16) × (text ≡ to_be_bytes w16 n)

abbrev pub IsU32 : List ℕ → ℕ → Type 0
IsU32 text n = (n < 2 ^ 32) × (text ≡ to_be_bytes w32 n)

abbrev pub IsU64 : List ℕ → ℕ → Type 0
IsU64 text n = (n < 2 ^ 64) × (text ≡ to_be_bytes w64 n)

-- things one after the other, each with a text of its own
abbrev pub Each : {A : Type 0} → (List ℕ → A → Type 0) → List ℕ → List A → Type 0
Each R text [] = text ≡ []
Each R text (x ∷ xs) = (first others : List ℕ) × (text ≡ first ++ others) × R first x × Each R others xs
