-- What an instruction does to the top frame, whatever lies around it.
use Rattle.std.specs.Prelude.{◌≡◌, ℕ, List, ◌∷◌, Option, Some, None}
use Rattle.class_model.specs.declared.insn.Kind.{Kind}
use Rattle.class_model.specs.declared.insn.Insn.{Insn}
use Rattle.run_state.specs.declared.report.Report.{Report}
use Rattle.run_state.specs.Words.{Word, Null, Ref}
use Rattle.run_state.specs.State.{Method, Areas, Outside, State, live}
use Rattle.run_state.specs.State as state
use Rattle.run_state.specs.Looks.{Looks}
use Rattle.run_state.specs.Tags.{Tags}
use Rattle.run_state.specs.Operands.{stuck, on_kind, on_ref}
use Rattle.run_state.specs.Step.{act}
use Rattle.run_state.specs.Unwinding.{throws, arithmetic_exception, null_pointer_exception, incompatible_class_change_error, negative_array_size_exception, class_cast_exception, array_index_exception, array_store_exception}
use Rattle.machine_frames.specs.declared.frame.Frame.{Frame}
use Rattle.machine_frames.specs.declared.flow.Fault.{Fault}
use Rattle.machine_frames.specs.declared.flow.Fault.TheVariants as fault
use Rattle.machine_frames.specs.declared.flow.Flow.{Flow}
use Rattle.machine_frames.specs.declared.flow.Flow.TheVariants as flow

-- what lies around the top frame: the rest of the tags' rules, the look-ups, and the rest of the state
pub record Around (T : Type 0) : Type 0 where
  pub marked : Method → T → T
  pub entered : Method → List T → List Report
  pub looks : Looks
  pub outside : Outside
  pub areas : Areas T
  pub method : Method
  pub below : List (state.Frame T)

abbrev pub tags_in : {T : Type 0} → T → (T → T → T) → Around T → Tags T
tags_in none join w = record { none = none; join = join; marked = w.marked; entered = w.entered }

-- the class of a fault
abbrev pub exception_of : Fault → List ℕ
exception_of fault.Arithmetic = arithmetic_exception
exception_of fault.NullPointer = null_pointer_exception
exception_of fault.IncompatibleChange = incompatible_class_change_error
exception_of fault.NegativeSize = negative_array_size_exception
exception_of fault.ClassCast = class_cast_exception
exception_of fault.ArrayIndex = array_index_exception
exception_of fault.ArrayStore = array_store_exception

-- the state that the top frame, as it was and as it is now, and what it leads to give
abbrev pub after : {T : Type 0} → Tags T → Around T → Frame T → Frame T → Flow → State T
after M w old new flow.Next = live w.outside w.areas w.method new.next new.locals new.stack w.below
after M w old new flow.Stuck = stuck w.outside w.areas
after M w old new (flow.Throws k) = throws M w.looks w.outside w.areas (exception_of k) w.below w.method new.next new.locals

-- one instruction of the frame, by the definition
abbrev pub acted : {T : Type 0} → Tags T → Around T → Insn → Frame T → State T
acted M w i f = act M w.looks (Some i) w.outside w.areas w.method f.next f.locals f.stack w.below

-- the frame's method stays, and a fault leaves the frame as it was
abbrev pub Kept : {T : Type 0} → Frame T → Frame T → Flow → Type 0
Kept old new flow.Next = new.method ≡ old.method
Kept old new flow.Stuck = Unit {0}
Kept old new (flow.Throws k) = new ≡ old

-- an instruction turns the frame into the new one, with this end
abbrev pub Does : {T : Type 0} → T → (T → T → T) → Insn → Frame T → Frame T → Flow → Type 0
Does {T} none join i old new flow = Kept old new flow × ((w : Around T) → acted (tags_in none join w) w i old ≡ after (tags_in none join w) w old new flow)

-- no value of a kind is on top
abbrev pub LacksKind : {T : Type 0} → Kind → List (Word T) → Type 0
LacksKind {T} k st = (o : Outside) (ar : Areas T) (go : Word T → List (Word T) → State T) → on_kind o ar k st go ≡ stuck o ar

-- a value of a kind is on top of the rest
abbrev pub HasKind : {T : Type 0} → Kind → List (Word T) → Word T → List (Word T) → Type 0
HasKind {T} k st w rest = (o : Outside) (ar : Areas T) (go : Word T → List (Word T) → State T) → on_kind o ar k st go ≡ go w rest

-- the reference to a place, or null
abbrev pub ref_word : {T : Type 0} → Option ℕ → Word T
ref_word None = Null
ref_word (Some a) = Ref a

-- no reference is on top
abbrev pub LacksRef : {T : Type 0} → List (Word T) → Type 0
LacksRef {T} st = (o : Outside) (ar : Areas T) (go : Word T → List (Word T) → State T) → on_ref o ar st go ≡ stuck o ar

-- a reference is on top of the rest
abbrev pub HasRef : {T : Type 0} → List (Word T) → Option ℕ → List (Word T) → Type 0
HasRef st place rest = st ≡ ref_word place ∷ rest
