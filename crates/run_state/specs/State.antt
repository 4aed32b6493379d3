-- The state of a machine (JVMS 2.5, 2.6), over values whose numbers and objects carry tags of any type T.
use Rattle.std.specs.Prelude.{ℕ, ℤ, List, [], ◌∷◌, Option}
use Rattle.class_model.specs.declared.types.JType.{JType}
use Rattle.class_model.specs.declared.types.MethodDesc.{MethodDesc}
use Rattle.class_model.specs.declared.insn.Insn.{Insn}
use Rattle.class_model.specs.declared.class.Handler.{Handler}
use Rattle.run_state.specs.declared.report.Report.{Report}
use Rattle.run_state.specs.Natives.{Native}
use Rattle.run_state.specs.Words.{Word}

-- A method as a frame holds it. `params` counts the words of its arguments, a receiver's among them; a native has no
-- code; `begins` is its class where it is that class's initializer.
pub record Method : Type 0 where
  pub class : List ℕ
  pub name : List ℕ
  pub desc : MethodDesc
  pub params : ℕ
  pub locals : ℕ
  pub code : List Insn
  pub handlers : List Handler
  pub native : Option Native
  pub begins : Option (List ℕ)

-- A frame (JVMS 2.6): its method, the number of the next instruction, the locals, and the stack with its top first.
-- A frame below another one has its call behind it, or is still at the instruction that needed a class begun.
pub record Frame (T : Type 0) : Type 0 where
  pub method : Method
  pub next : ℕ
  pub locals : List (Word T)
  pub stack : List (Word T)

-- An object or an array (JVMS 2.7): its type, the object's own tag, and its fields or elements, one value each.
pub record Item (T : Type 0) : Type 0 where
  pub ty : JType
  pub own : T
  pub cells : List (Word T)

-- a text constant that was made into a `java/lang/String`, and the place of that object
pub record Literal : Type 0 where
  pub text : List ℕ
  pub place : ℕ

-- The data that frames share (JVMS 2.5): the heap, in which an address is a place; the static fields; the literals.
pub record Areas (T : Type 0) : Type 0 where
  pub heap : List (Item T)
  pub statics : List (Word T)
  pub literals : List Literal

-- What the root frame does next (this project's own): it begins the main class, makes an array, calls `main`, waits for it.
pub data Phase : Type 0 where
  Begins : Phase
  Makes : Phase
  Calls : Phase
  Waits : Phase

-- What a state has whatever its tags: the rest of the input, the console, the reports, the classes that have begun, and
-- how far the root frame is.
pub record Outside : Type 0 where
  pub input : List ℕ
  pub console : List ℕ
  pub reports : List Report
  pub begun : List (List ℕ)
  pub phase : Phase

-- How a run stands. Classes are told by their names. `Stuck` is an ending of this definition alone: no row applies, or
-- the row of the shape is not built yet.
pub data Ending : Type 0 where
  Running : Ending
  Returned : Ending
  Exit : (status : ℤ) → Ending
  Uncaught : (class : List ℕ) → Ending
  InitFailed : (class exception : List ℕ) → Ending
  Stuck : Ending

-- A state. Its frames have the top one first; where there is none and the run goes on, it is the root frame's turn.
pub record State (T : Type 0) : Type 0 where
  pub frames : List (Frame T)
  pub areas : Areas T
  pub outside : Outside
  pub ending : Ending

-- a running state, by the parts of its top frame
abbrev pub live : {T : Type 0} → Outside → Areas T → Method → ℕ → List (Word T) → List (Word T) → List (Frame T) → State T
live o ar m pc ls st fs = record { frames = record { method = m; next = pc; locals = ls; stack = st } ∷ fs; areas = ar; outside = o; ending = Running }

-- a running state in which it is the root frame's turn
abbrev pub rooted : {T : Type 0} → Outside → Areas T → State T
rooted o ar = record { frames = []; areas = ar; outside = o; ending = Running }

abbrev pub ended : {T : Type 0} → Outside → Areas T → Ending → State T
ended o ar e = record { frames = []; areas = ar; outside = o; ending = e }
