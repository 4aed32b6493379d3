use Rattle.run_state.specs.Texts.{class_type}
use Rattle.run_state.specs.SetLooks.{fits_in}
use Rattle.program_links.specs.Picked.{Picked}
use Rattle.program_links.specs.RowTo.{type_of_class}
use Rattle.program_links.specs.WorldOf.{name_at}
use Rattle.program_links.proofs.picked.class_above.Given as goal

-- those among the classes so far
abbrev pub invariant-loop-high : goal.invariant-loop-high
invariant-loop-high l = Picked (λ class. fits_in l.set (class_type (name_at l.set l.low)) (type_of_class class)) l.set l.picked l.high
