-- A fault that is ready to be thrown.
use Rattle.std.specs.Prelude.{◌≡◌, [], ◌∷◌, ◌++◌, length}
use Rattle.run_state.specs.Words.{Ref}
use Rattle.machine_heap.specs.declared.item.Item.{Item}
use Rattle.machine_frames.specs.declared.flow.Fault.{Fault}
use Rattle.linked_code.specs.declared.program.Program.{Program}
use Rattle.linked_code.specs.Links.{class_of_fault}
use Rattle.linked_code.specs.Numbered.{class_at}
use Rattle.machine.specs.declared.faults.Ready.{Ready}
use Rattle.machine.specs.declared.state.Machine.{Machine}

-- the fresh object of a fault
abbrev pub fault_object : {T : Type 0} → T → Program T → Fault → Item T
fault_object none p k = record { ty = (class_at p (class_of_fault p.faults k)).ty; own = none; cells = (class_at p (class_of_fault p.faults k)).fresh }

-- it stands behind all items, and nothing else changed
pub record IsReady {T : Type 0} (none : T) (p : Program T) (k : Fault) (old new : Machine T) (r : Ready T) : Type 0 where
  pub class : r.class ≡ class_of_fault p.faults k
  pub place : r.place ≡ length old.areas.heap
  pub landing : r.landing ≡ Ref r.place ∷ []
  pub object : new ≡ record old { areas = record old.areas { heap = old.areas.heap ++ fault_object none p k ∷ [] } }
