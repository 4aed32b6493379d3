use Rattle.std.proofs.Common.{◌≡◌, map, take, true}
use Rattle.std.specs.List.{list_all}
use Rattle.insn_spelling.specs.Conditions.{fits_i32}
use Rattle.insn_spelling.specs.Raw.{row_distance}
use Rattle.insn_spelling.proofs.raw.row_distances.Given as goal

abbrev pub invariant-loop-key : goal.invariant-loop-key
invariant-loop-key l = (l.found ≡ map (row_distance l.layout l.pc) (take l.key-index l.rows)) × (list_all (λ row. fits_i32 row.0) (take l.key-index l.rows) ≡ true)
