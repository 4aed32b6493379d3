use Rattle.std.proofs.Common.{◌≡◌, ◌||◌, ℕ, List, take}
use Rattle.std.specs.List.{list_any}
use Rattle.set_lookups.specs.Above.{same_name}
use Rattle.class_set.specs.Upwards.{is_kept_named}
use Rattle.class_set.proofs.final_super.add_finals.Given as goal

-- the methods so far have added their names
abbrev pub invariant-loop-method : goal.invariant-loop-method
invariant-loop-method l =
    (name : List ℕ) → list_any (same_name name) l.names.keys ≡ (list_any (same_name name) l.initial.names.keys || list_any (is_kept_named name) (take l.method-index l.methods))
