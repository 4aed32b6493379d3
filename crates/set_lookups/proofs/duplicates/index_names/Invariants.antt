use Rattle.std.proofs.Common.{◌≡◌, ◌≤◌, ℕ, length, List, reverse, drop, None}
use Rattle.std.specs.Prelude.{option_copied}
use Rattle.std.specs.List.{list_any}
use Rattle.set_lookups.specs.Above.{same_name}
use Rattle.set_lookups.specs.Needed.{first_again}
use Rattle.set_lookups.proofs.Names.{names_of}
use Rattle.set_lookups.proofs.duplicates.index_names.Given as goal

-- what is told of the classes from here on, and their names with the last one first
abbrev pub invariant-loop-at : goal.invariant-loop-at
invariant-loop-at l =
    let rest = names_of (drop l.at l.classes) in
    record {
      within : l.at ≤ length l.classes;
      told : option_copied l.again ≡ first_again rest;
      members : (x : List ℕ) → list_any (same_name x) l.names.keys ≡ list_any (same_name x) rest;
      kept : first_again rest ≡ None → l.names.keys ≡ reverse rest;
    }

abbrev pub decreases-loop-at : goal.decreases-loop-at
decreases-loop-at l = l.at
