use Rattle.run_state.specs.Texts.{class_type}
use Rattle.run_state.specs.SetLooks.{fits_in}
use Rattle.program_links.specs.Picked.{Picked}
use Rattle.program_links.specs.RowTo.{type_of_class}
use Rattle.program_links.specs.WorldOf.{no_name}
use Rattle.program_links.proofs.picked.nothing_above.Given as goal

-- those among the classes so far
abbrev pub invariant-loop-high : goal.invariant-loop-high
invariant-loop-high l = Picked (λ class. fits_in l.set (class_type (no_name l.set)) (type_of_class class)) l.set l.picked l.high
