-- What an index over a list of classes holds.
use Rattle.std.specs.Prelude.{◌≡◌, ℕ, ◌<◌, ◌≤◌, List, [], Option, Some, None, length, map, slice_index, option_to_list}
use Rattle.class_model.specs.declared.class.ClassDef.{ClassDef}
use Rattle.set_lookups.specs.declared.level_build.Above.{Above}
use Rattle.set_lookups.specs.declared.member_table.Members.{Members}
use Rattle.set_lookups.specs.declared.row.Row.{Row}
use Rattle.set_lookups.specs.Above.{Direct, above, super_of, interfaces_of}
use Rattle.set_lookups.specs.Counts.{AreCounted}
use Rattle.set_lookups.specs.Levels.{IsAbove}
use Rattle.set_lookups.specs.Lookups.{super_at, interfaces_at}
use Rattle.set_lookups.specs.Members.{AreMembers}
use denote.Ref.{Bor}

-- each class has a higher rank than those above it, so that none is above itself
pub record Ranked (set : List ClassDef) (ranks : List ℕ) : Type 0 where
  pub falls : (low high : ℕ) → Direct set low high → slice_index ranks high < slice_index ranks low
  pub small : (low : ℕ) → slice_index ranks low ≤ length set

-- each class has a row with the numbers of its superclass and of its interfaces
pub record AreRows (set : List ClassDef) (rows : List Row) : Type 0 where
  pub supers : map (λ row. option_to_list row.superclass) rows ≡ map (super_of set) set
  pub interfaces : map (λ row. row.interfaces) rows ≡ map (interfaces_of set) set

pub record IsIndex (set : List ClassDef) (names : List (List ℕ)) (rows : List Row) (ranks : List ℕ) (breadth reached : Above) (members : Members) : Type 0 where
  pub counted : AreCounted set
  pub named : names ≡ map (λ class. class.name) set
  pub linked : AreRows set rows
  pub ranked : Ranked set ranks
  pub in_breadth : IsAbove (interfaces_at set) (interfaces_at set) breadth.levels breadth.starts
  pub in_reach : IsAbove (interfaces_at set) (above set) reached.levels reached.starts
  pub in_members : AreMembers set members.fields members.methods members.no_types

-- a row, where there is one, has the numbers of a class's superclass and interfaces; without one it has none
abbrev pub Shows : List ClassDef → ℕ → Option (Bor Row) → Type 0
Shows set at None = (super_at set at ≡ []) × (interfaces_at set at ≡ [])
Shows set at (Some row) = (option_to_list row.now.superclass ≡ super_at set at) × (row.now.interfaces ≡ interfaces_at set at)
