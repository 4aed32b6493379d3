-- What a table of frames answered, as a place of the file.
use Rattle.std.proofs.Common.{◌≡◌, ℕ, ◌≤◌, List, length, Result, Err, ap, ◌∙◌, arith, length-append}
use Rattle.class_input.specs.declared.bad_class.BadKind.{BadKind}
use Rattle.class_input.specs.declared.bad_class.BadClass.{BadClass}
use Rattle.class_input.specs.declared.bad_class.BadClass.TheVariants as errors
use Rattle.class_input.specs.Reading.{Fault, Fails}
use Rattle.stack_maps.specs.declared.frame_stop.FrameStop.{FrameStop}
use Rattle.stack_maps.specs.declared.frame_stop.FrameStop.TheVariants as stops
use Rattle.stack_maps.specs.declared.marks.FrameMark.{FrameMark}
use Rattle.stack_maps.specs.Reading as maps
use Rattle.stack_maps.specs.Table.{HasMarks}
use Rattle.frame_tables.specs.FrameReading.{fault_of, placed, Told, TellsStop}

at_fault : {A : Type 0} (told : BadClass) (start : ℕ) (stop : FrameStop) (r : Result A FrameStop) → r ≡ Err stop → Told told (fault_of start stop).place (fault_of start stop).kind → Fails told (placed start r)
at_fault errors.Memory start stop r h t = tt
at_fault {A} (errors.Bad place kind) start stop r h t =
    let same : fault_of start stop ≡ record { place = place; kind = kind } = ap (λ (z : ℕ). let f : Fault = record { place = z; kind = (fault_of start stop).kind } in f) t.0 ∙ ap (λ (z : BadKind). let f : Fault = record { place = place; kind = z } in f) t.1 in
    ap (placed start) h ∙ ap (λ (z : Fault). let r : Result A Fault = Err z in r) same

-- a refusal of a table is told at its place
pub stop_told : {A : Type 0} (told : BadClass) (start : ℕ) (stop : FrameStop) (r : Result A FrameStop) → maps.Fails stop r → TellsStop told start stop → Fails told (placed start r)
stop_told told start (stops.Short place) r h t = at_fault told start (stops.Short place) r h t
stop_told told start (stops.Reserved place byte) r h t = at_fault told start (stops.Reserved place byte) r h t
stop_told told start (stops.BadTag place byte) r h t = at_fault told start (stops.BadTag place byte) r h t
stop_told told start (stops.Underflow place) r h t = at_fault told start (stops.Underflow place) r h t
stop_told told start (stops.Offset place) r h t = at_fault told start (stops.Offset place) r h t
stop_told {A} told start stops.Memory r h t = rw t tt

-- a table that has its shape is no longer than the bytes
pub taken_fits : (known : ℕ) (bytes : List ℕ) (marks : List FrameMark) (taken : ℕ) → HasMarks known bytes marks taken → taken ≤ length bytes
taken_fits known bytes marks taken h = let whole = ap length h.spelled in omega (arith, whole, h.taken_is, length-append h.text h.rest)
