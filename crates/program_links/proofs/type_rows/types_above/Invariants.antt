use Rattle.run_state.specs.SetLooks.{fits_in}
use Rattle.program_links.specs.Picked.{Picked}
use Rattle.program_links.proofs.type_rows.types_above.Given as goal

-- those among the types so far
abbrev pub invariant-loop-high : goal.invariant-loop-high
invariant-loop-high l = Picked (fits_in l.set l.low) l.tables.types l.picked l.high
