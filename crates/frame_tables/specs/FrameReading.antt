-- Reading the frames of a StackMapTable from left to right, and then what they name, with the first bad place.
use Rattle.std.specs.Prelude.{◌≡◌, ℕ, ◌+◌, nat_lt, Bool, true, false, List, [], ◌∷◌, length, drop, Option, Some, None, option_and_then, Result, Ok, Err, slice_get, if◌then◌else◌}
use Rattle.class_input.specs.declared.bad_class.BadKind.{BadKind}
use Rattle.class_input.specs.declared.bad_class.BadKind.TheVariants as kinds
use Rattle.class_input.specs.declared.bad_class.BadClass.{BadClass}
use Rattle.class_input.specs.declared.bad_class.BadClass.TheVariants as errors
use Rattle.class_input.specs.Reading.{Fault, Reading, judging}
use Rattle.class_model.specs.declared.class.VType.{VType}
use Rattle.class_model.specs.declared.class.VType.TheVariants as types
use Rattle.class_model.specs.declared.class.Frame.{Frame}
use Rattle.class_model.specs.declared.insn.Insn.{Insn}
use Rattle.class_model.specs.declared.insn.Insn.TheVariants.{New}
use Rattle.const_pool.specs.Pool.{Pool}
use Rattle.class_names.specs.Steps.{fit}
use Rattle.class_names.specs.NameReading.{class_type_at}
use Rattle.insn_code.specs.Offsets.{start_number}
use Rattle.insn_code.specs.Linking.{Code}
use Rattle.stack_maps.specs.declared.frame.RawType.{RawType}
use Rattle.stack_maps.specs.declared.frame.RawType.TheVariants as raw
use Rattle.stack_maps.specs.declared.frame.RawFrame.{RawFrame}
use Rattle.stack_maps.specs.declared.frame_stop.FrameStop.{FrameStop}
use Rattle.stack_maps.specs.declared.frame_stop.FrameStop.TheVariants as stops
use Rattle.stack_maps.specs.declared.marks.Mark.{Mark}
use Rattle.stack_maps.specs.declared.marks.Mark.TheVariants as marks
use Rattle.stack_maps.specs.declared.marks.FrameMark.{FrameMark}
use Rattle.stack_maps.specs.Reading.{decoded, marked}
use Rattle.frame_tables.specs.FrameTable.{numbered, first_entry}

-- ---- the shape of the table

-- a refusal of a table that begins at a place of the file. A reading never stops for memory.
abbrev pub fault_of : ℕ → FrameStop → Fault
fault_of start (stops.Short place) = record { place = start + place; kind = kinds.Short }
fault_of start (stops.Reserved place byte) = record { place = start + place; kind = kinds.Frame byte }
fault_of start (stops.BadTag place byte) = record { place = start + place; kind = kinds.Frame byte }
fault_of start (stops.Underflow place) = record { place = start + place; kind = kinds.Frame 0 }
fault_of start (stops.Offset place) = record { place = start + place; kind = kinds.Frame 0 }
fault_of start stops.Memory = record { place = start; kind = kinds.Short }

abbrev pub placed : {A : Type 0} → ℕ → Result A FrameStop → Result A Fault
placed start (Ok x) = Ok x
placed start (Err stop) = Err (fault_of start stop)

-- what a function tells of a refusal, unless memory ran out
abbrev pub Told : BadClass → ℕ → BadKind → Type 0
Told errors.Memory at why = Unit {0}
Told (errors.Bad place kind) at why = (at ≡ place) × (why ≡ kind)

abbrev pub TellsStop : BadClass → ℕ → FrameStop → Type 0
TellsStop told start stops.Memory = told ≡ errors.Memory
TellsStop told start stop = Told told (fault_of start stop).place (fault_of start stop).kind

-- ---- what frames name, judged at a place

abbrev pub wrong_frame : {A : Type 0} → ℕ → Result A Fault
wrong_frame place = Err (record { place = place; kind = kinds.Frame 0 })

-- the instruction at the offset of a frame, which does not pass 65,535
abbrev pub frame_start : Code → ℕ → ℕ → Result ℕ Fault
frame_start code place offset = if nat_lt 65535 offset then wrong_frame place else fit place kinds.Target (start_number code.1.starts offset)

abbrev pub is_new : Option Insn → Bool
is_new (Some (New class)) = true
is_new insn = false

abbrev pub if_new : List Insn → ℕ → Option ℕ
if_new insns number = if is_new (slice_get insns number) then Some number else None

-- the number of the `new` at an offset
abbrev pub new_number : Code → ℕ → Option ℕ
new_number code offset = option_and_then (if_new code.0) (start_number code.1.starts offset)

abbrev pub new_at : Code → ℕ → ℕ → Result ℕ Fault
new_at code place offset = fit place kinds.Target (new_number code offset)

-- ---- the deltas, class indices and offsets of `new`, in the order of the bytes

-- A mark at a place, where the offset of the next frame is at least `next`; and what it is at least behind the mark.
abbrev pub mark_judged : Pool → Code → ℕ → ℕ → Mark → Result ℕ Fault
mark_judged p code place next (marks.Delta delta) = judging (frame_start code place (next + delta)) (λ number. Ok (next + delta + 1))
mark_judged p code place next (marks.Object k) = judging (class_type_at p place k) (λ ty. Ok next)
mark_judged p code place next (marks.Uninit offset) = judging (new_at code place offset) (λ number. Ok next)

-- marks of a table that begins at a place of the file
unfoldable pub marks_judged : Pool → Code → ℕ → ℕ → List FrameMark → Result (Unit {0}) Fault
marks_judged p code start next [] = Ok tt
marks_judged p code start next (m ∷ ms) = judging (mark_judged p code (start + m.place) next m.mark) (λ after. marks_judged p code start after ms)

-- ---- frames in full, of which nothing is refused once the marks are judged

-- what each of a list gives, up to the first refusal
unfoldable pub each_of : {A B : Type 0} → (A → Result B Fault) → List A → Result (List B) Fault
each_of f [] = Ok []
each_of f (x ∷ xs) = judging (f x) (λ y. judging (each_of f xs) (λ ys. Ok (y ∷ ys)))

unfoldable pub vtype : Pool → Code → List VType → ℕ → RawType → Result VType Fault
vtype p code first place raw.Top = Ok types.Top
vtype p code first place raw.Int = Ok types.Int
vtype p code first place raw.Long = Ok types.Long
vtype p code first place raw.Null = Ok types.Null
vtype p code first place raw.UninitThis = Ok types.UninitThis
vtype p code first place (raw.Object k) = judging (class_type_at p place k) (λ ty. Ok (types.Ref ty))
vtype p code first place (raw.Uninit offset) = judging (new_at code place offset) (λ number. Ok (types.Uninit number))
vtype p code first place (raw.First k) = Ok (first_entry first k)

abbrev pub vtypes : Pool → Code → List VType → ℕ → List RawType → Result (List VType) Fault
vtypes p code first place = each_of (vtype p code first place)

unfoldable pub frame : Pool → Code → List VType → ℕ → RawFrame → Result (ℕ × Frame) Fault
frame p code first place raw =
    judging (frame_start code place raw.offset) (λ number.
    judging (vtypes p code first place raw.locals) (λ locals.
    judging (vtypes p code first place raw.stack) (λ stack.
    Ok (number, record { locals = locals; stack = stack }))))

unfoldable pub frames_in_full : Pool → Code → List VType → ℕ → List ℕ → Result (List (ℕ × Frame)) Fault
frames_in_full p code first start bytes = judging (placed start (decoded (numbered 0 first) bytes)) (each_of (frame p code first start))

-- ---- the table

-- All frames have their shape first; then what they name is judged, in the order of the bytes.
unfoldable pub frames : Pool → Code → List VType → Reading (List (ℕ × Frame))
frames p code first i =
    judging (placed i.at (marked (length (numbered 0 first)) i.rest)) (λ read.
    judging (marks_judged p code i.at 0 read.0) (λ u.
    judging (frames_in_full p code first i.at i.rest) (λ frames.
    Ok (frames, record { at = i.at + read.1; rest = drop read.1 i.rest }))))
