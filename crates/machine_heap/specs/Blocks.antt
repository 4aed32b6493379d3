-- Items in blocks.
use Rattle.std.specs.Prelude.{◌≡◌, ◌≤◌, ℕ, List, [], ◌∷◌, ◌++◌, length, slice_set}
use Rattle.run_state.specs.Words.{Word}
use Rattle.machine_heap.specs.declared.item.Item.{Item}

-- an item with one field or element written, or its own tag
abbrev pub with_cell : {T : Type 0} → Item T → ℕ → Word T → Item T
with_cell x index cell = record x { cells = slice_set x.cells index cell }

abbrev pub with_own : {T : Type 0} → Item T → T → Item T
with_own x own = record x { own = own }

module _ {A : Type 0} where
  -- full blocks in order, and then the last items
  abbrev pub followed_by : List (List A) → List A → List A
  followed_by [] last = last
  followed_by (b ∷ bs) last = b ++ followed_by bs last

  -- each block has so many items
  abbrev pub AllHave : ℕ → List (List A) → Type 0
  AllHave n [] = Unit {0}
  AllHave n (b ∷ bs) = (length b ≡ n) × AllHave n bs

  -- how the items are laid out: full blocks, not too many, and at most as many last items as a block has
  pub record Laid (full : List (List A)) (last : List A) : Type 0 where
    pub all : AllHave 1024 full
    pub short : length last ≤ 1024
    pub few : length full ≤ 4503599627370496
