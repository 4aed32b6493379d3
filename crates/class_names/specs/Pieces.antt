-- The forms from which the structures of a class file are put together.
use Rattle.std.specs.Prelude.{◌≡◌, ℕ, List, [], ◌∷◌, ◌++◌, length}
use Rattle.class_input.specs.Grammar.{IsU16, Each}

-- pieces of a text, one after the other
abbrev pub joined : List (List ℕ) → List ℕ
joined [] = []
joined (piece ∷ pieces) = piece ++ joined pieces

-- a table: a count in two bytes, and so many things
pub record IsTable {A : Type 0} (R : List ℕ → A → Type 0) (text : List ℕ) (items : List A) : Type 0 where
  pub count : List ℕ
  pub rest : List ℕ
  pub spelled : text ≡ count ++ rest
  pub counted : IsU16 count (length items)
  pub each_is : Each R rest items

-- an index of the constant pool in two bytes, and what it names
abbrev pub AtIndex : {A : Type 0} → (ℕ → A → Type 0) → List ℕ → A → Type 0
AtIndex {A} Names text a = (k : ℕ) × IsU16 text k × Names k a
