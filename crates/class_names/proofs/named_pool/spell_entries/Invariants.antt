use Rattle.std.proofs.Common.{◌≡◌, take, map}
use Rattle.class_names.specs.Spelled.{spelled_entry}
use Rattle.class_names.proofs.named_pool.spell_entries.Given as goal

abbrev pub invariant-loop-at : goal.invariant-loop-at
invariant-loop-at l = l.texts.items ≡ map spelled_entry (take l.at l.entries)
