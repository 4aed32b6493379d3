use Rattle.std.proofs.Common.{◌≡◌, ◌++◌, take, All}
use Rattle.std.specs.List.{flat_map}
use Rattle.const_pool.specs.Pool.{entry_bytes, InRange}
use Rattle.const_pool.proofs.encode.put_entries.Given as goal

abbrev pub invariant-loop-entry : goal.invariant-loop-entry
invariant-loop-entry l = (l.bytes.items ≡ l.initial.bytes.items ++ flat_map entry_bytes (take l.entry-index l.entries)) × All InRange (take l.entry-index l.entries)
