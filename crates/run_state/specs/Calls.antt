-- Calls and returns (JVMS 2.6.4, 6.5 invokestatic to ireturn), the natives, the reports of listed sinks and the marks of
-- listed sources. A listed sink reports as it is entered, before it does anything; a listed source marks its result as
-- it returns. A native does both in the one step of its call.
use Rattle.std.specs.Prelude.{ℕ, ◌+◌, ◌-◌, ◌==◌, ℤ, pos, negsuc, List, [], ◌∷◌, ◌++◌, replicate, Option, Some, None, if◌then◌else◌}
use Rattle.class_model.specs.declared.types.Primitive.{Primitive}
use Rattle.class_model.specs.declared.types.Primitive.TheVariants as primitive
use Rattle.class_model.specs.declared.types.BaseType.{BaseType}
use Rattle.class_model.specs.declared.types.BaseType.TheVariants as base
use Rattle.class_model.specs.declared.types.JType.{JType}
use Rattle.run_state.specs.declared.report.Report.{Report}
use Rattle.run_state.specs.Numbers.{as_byte, as_char, as_short, as_boolean, low_byte}
use Rattle.run_state.specs.Natives.{Native}
use Rattle.run_state.specs.Natives as native
use Rattle.run_state.specs.Words.{Word, Empty, Num, Long, Half, Null, Ref, pushed}
use Rattle.run_state.specs.State.{Method, Frame, Areas, Phase, Begins, Makes, Calls, Waits, Outside, Returned, Exit, State, live, rooted, ended}
use Rattle.run_state.specs.Looks.{Looks}
use Rattle.run_state.specs.Tags.{Tags}
use Rattle.run_state.specs.Copying.{copying}
use Rattle.run_state.specs.Marks.{tags_of, mark_number, mark_heap}
use Rattle.run_state.specs.Operands.{stuck, on_int}

-- what a field, an element or a result of a primitive type keeps of an int (JVMS 6.5 i2b to i2s; this project's own for
-- fields and results)
abbrev pub narrowed_primitive : Primitive → ℤ → ℤ
narrowed_primitive primitive.Boolean v = as_boolean v
narrowed_primitive primitive.Byte v = as_byte v
narrowed_primitive primitive.Char v = as_char v
narrowed_primitive primitive.Short v = as_short v
narrowed_primitive primitive.Int v = v
narrowed_primitive primitive.Long v = v
narrowed_primitive primitive.Float v = v
narrowed_primitive primitive.Double v = v

abbrev pub narrowed_base : BaseType → ℤ → ℤ
narrowed_base (base.Primitive p) v = narrowed_primitive p v
narrowed_base (base.Class c) v = v

abbrev pub narrowed_type : JType → ℤ → ℤ
narrowed_type ty v = if ty.depth == 0 then narrowed_base ty.base v else v

abbrev pub narrowed_result : Option JType → ℤ → ℤ
narrowed_result None v = v
narrowed_result (Some ty) v = narrowed_type ty v

abbrev pub narrowed : {T : Type 0} → (ℤ → ℤ) → Word T → Word T
narrowed f Empty = Empty
narrowed f (Num v t) = Num (f v) t
narrowed f (Long v t) = Long v t
narrowed f Half = Half
narrowed f Null = Null
narrowed f (Ref a) = Ref a

-- with reports at the end
abbrev pub said : Outside → List Report → Outside
said o [] = o
said o (r ∷ rs) = record o { reports = o.reports ++ r ∷ rs }

abbrev pub report_of : ℤ → ℤ → ℤ → Report
report_of sink argument tag = record { sink = sink; argument = argument; tag = tag }

-- the frame of a method that is called with these arguments, above those of its callers
abbrev pub entered : {T : Type 0} → Outside → Areas T → Method → List (Word T) → List (Frame T) → State T
entered o ar callee args fs = live o ar callee 0 (args ++ replicate (callee.locals - callee.params) Empty) [] fs

-- the root frame goes on: after `main` the run is over, after an initializer it makes its next step
abbrev pub root_goes_on : {T : Type 0} → Phase → Outside → Areas T → State T
root_goes_on Begins o ar = rooted o ar
root_goes_on Makes o ar = rooted o ar
root_goes_on Calls o ar = rooted o ar
root_goes_on Waits o ar = ended o ar Returned

-- the frame below goes on where it stands
abbrev pub left : {T : Type 0} → Outside → Areas T → List (Frame T) → State T
left o ar [] = root_goes_on o.phase o ar
left o ar (f ∷ fs) = live o ar f.method f.next f.locals f.stack fs

module _ {T : Type 0} (M : Tags T) (L : Looks) where
  -- `read`: a byte of the input, or -1 at its end
  abbrev pub reading : List ℕ → Method → Outside → Areas T → Method → ℕ → List (Word T) → List (Word T) → List (Frame T) → State T
  reading [] callee o ar m pc ls rest fs = live o ar m (pc + 1) ls (Num (negsuc 0) (M.marked callee M.none) ∷ rest) fs
  reading (b ∷ bs) callee o ar m pc ls rest fs = live (record o { input = bs }) ar m (pc + 1) ls (Num (pos b) (M.marked callee M.none) ∷ rest) fs

  -- a native with its arguments, called at instruction pc of m
  abbrev pub natively : Native → Method → List (Word T) → Outside → Areas T → Method → ℕ → List (Word T) → List (Word T) → List (Frame T) → State T
  natively native.Read callee args o ar m pc ls rest fs = reading o.input callee o ar m pc ls rest fs
  natively native.Write callee args o ar m pc ls rest fs =
      on_int o ar args (λ v t more. live (record o { console = o.console ++ low_byte v ∷ [] }) ar m (pc + 1) ls rest fs)
  natively native.Exit callee args o ar m pc ls rest fs = on_int o ar args (λ v t more. ended o ar (Exit v))
  natively native.ArrayCopy callee args o ar m pc ls rest fs = copying M L o ar m pc ls rest fs args
  natively native.Report callee args o ar m pc ls rest fs =
      on_int o ar args (λ a t args1. on_int o ar args1 (λ b u args2. on_int o ar args2 (λ c v more.
      live (said o (report_of a b c ∷ [])) ar m (pc + 1) ls rest fs)))

  abbrev pub carried_out : Option Native → Method → List (Word T) → Outside → Areas T → Method → ℕ → List (Word T) → List (Word T) → List (Frame T) → State T
  carried_out None callee args o ar m pc ls rest fs = entered o ar callee args (record { method = m; next = pc + 1; locals = ls; stack = rest } ∷ fs)
  carried_out (Some n) callee args o ar m pc ls rest fs = natively n callee args o ar m pc ls rest fs

  -- a method is called at instruction pc of m: a listed sink reports first
  abbrev pub called : Method → List (Word T) → Outside → Areas T → Method → ℕ → List (Word T) → List (Word T) → List (Frame T) → State T
  called callee args o ar m pc ls rest fs =
      carried_out callee.native callee args (said o (M.entered callee (tags_of M L ar.heap args))) ar m pc ls rest fs

  -- a result of m goes to the frame below
  abbrev pub given_back : Method → Word T → Outside → Areas T → List (Frame T) → State T
  given_back m w o ar [] = stuck o ar
  given_back m w o ar (f ∷ fs) =
      live o (record ar { heap = mark_heap M L m ar.heap w }) f.method f.next f.locals
      (pushed (mark_number M m (narrowed (narrowed_result m.desc.result) w)) f.stack) fs
