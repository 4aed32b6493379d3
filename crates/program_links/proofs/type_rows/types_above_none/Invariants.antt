use Rattle.run_state.specs.Texts.{class_type}
use Rattle.run_state.specs.SetLooks.{fits_in}
use Rattle.program_links.specs.Picked.{Picked}
use Rattle.program_links.specs.WorldOf.{no_name}
use Rattle.program_links.proofs.type_rows.types_above_none.Given as goal

-- those among the types so far
abbrev pub invariant-loop-high : goal.invariant-loop-high
invariant-loop-high l = Picked (fits_in l.set (class_type (no_name l.set))) l.tables.types l.picked l.high
