-- A program is a set of classes, linked: each of its numbers leads to what the look-ups find.
use Rattle.std.specs.Prelude.{◌≡◌, ◌<◌, ℕ, ℤ, List, [], ◌∷◌, length, map, Option, Some, option_map, slice_get}
use Rattle.class_model.specs.declared.types.JType.{JType}
use Rattle.class_model.specs.declared.class.Handler.{Handler}
use Rattle.run_state.specs.Natives.{Native}
use Rattle.run_state.specs.Natives as native
use Rattle.class_model.specs.declared.types.Primitive.TheVariants as primitive
use Rattle.run_state.specs.Texts.{class_type, string_array, string_name}
use Rattle.run_state.specs.Marks.{value_field}
use Rattle.run_state.specs.State.{Method}
use Rattle.run_state.specs.Calls.{narrowed_result, narrowed_type}
use Rattle.run_state.specs.References.{is_array, element_type}
use Rattle.run_state.specs.Objects.{receiver_class, primitive_array}
use Rattle.run_state.specs.Unwinding.{default_of, name_of_base}
use Rattle.machine_frames.specs.declared.flow.Fault.{Fault}
use Rattle.machine_frames.specs.declared.flow.Fault.TheVariants as fault
use Rattle.machine_frames.specs.Acts.{exception_of}
use Rattle.linked_code.specs.declared.native.Native.{Native as LinkedNative}
use Rattle.linked_code.specs.declared.native.Native.TheVariants as linked
use Rattle.linked_code.specs.declared.program.Handler.{Handler as LinkedHandler}
use Rattle.linked_code.specs.declared.program.Method.{Method as LinkedMethod}
use Rattle.linked_code.specs.declared.program.LinkedClass.{LinkedClass}
use Rattle.linked_code.specs.declared.program.LinkedType.{LinkedType}
use Rattle.linked_code.specs.declared.program.FaultClasses.{FaultClasses}
use Rattle.linked_code.specs.declared.program.Program.{Program}
use Rattle.linked_code.specs.World.{World}
use Rattle.linked_code.specs.Kept.{kept_by, is_among, numbers_of}
use Rattle.linked_code.specs.Numbered.{method_at, class_at, type_at}
use Rattle.linked_code.specs.Linked.{LinkedAt}

abbrev pub native_of : LinkedNative → Native
native_of linked.Read = native.Read
native_of linked.Write = native.Write
native_of linked.Exit = native.Exit
native_of linked.ArrayCopy = native.ArrayCopy
native_of linked.Report = native.Report

abbrev pub class_of_fault : FaultClasses → Fault → ℕ
class_of_fault f fault.Arithmetic = f.arithmetic
class_of_fault f fault.NullPointer = f.null_pointer
class_of_fault f fault.IncompatibleChange = f.incompatible_change
class_of_fault f fault.NegativeSize = f.negative_size
class_of_fault f fault.ClassCast = f.class_cast
class_of_fault f fault.ArrayIndex = f.array_index
class_of_fault f fault.ArrayStore = f.array_store

module _ {T : Type 0} (none : T) (w : World T) where
  abbrev pub handler_of : LinkedHandler → Handler
  handler_of h = record { start = h.start; end = h.end; target = h.target; caught = option_map w.class h.caught }

  pub record IsMethod (p : Program T) (d : Method) (m : LinkedMethod) : Type 0 where
    pub class : d.class ≡ w.class m.class
    pub params : d.params ≡ m.params
    pub locals : d.locals ≡ m.locals
    pub code : (pc : ℕ) → LinkedAt w p (slice_get d.code pc) (slice_get m.code pc)
    pub handlers : d.handlers ≡ map handler_of m.handlers
    pub native : d.native ≡ option_map native_of m.native
    pub begins : d.begins ≡ option_map w.class m.begins
    pub result : (v : ℤ) → narrowed_result d.desc.result v ≡ kept_by m.narrowing v

  pub record IsClass (name : List ℕ) (c : LinkedClass T) : Type 0 where
    pub ty : class_type name ≡ w.ty c.ty
    pub fits : (b : ℕ) → w.looks.fits (class_type name) (class_type (w.class b)) ≡ is_among c.fits b
    pub above : w.looks.above name ≡ option_map w.class c.above
    pub fresh : map (default_of none) (w.looks.fields name) ≡ c.fresh
    pub starts : w.looks.starts name ≡ map w.method c.starts

  pub record IsType (ty : JType) (t : LinkedType T) : Type 0 where
    pub array : is_array ty ≡ t.is_array
    pub numbers : numbers_of ty ≡ t.numbers
    pub element : element_type ty ≡ w.ty t.element
    pub narrows : (v : ℤ) → narrowed_type ty v ≡ kept_by t.narrowing v
    pub default : default_of none ty ≡ t.default
    pub receiver : receiver_class ty ≡ w.class t.receiver
    pub base : name_of_base ty.base ≡ w.class t.base
    pub fits : (b : ℕ) → w.looks.fits ty (w.ty b) ≡ is_among t.fits b

  -- a program, linked: classes of two numbers are two, where the first is of the set, methods of one class have its number, and texts of two
  -- numbers are two
  pub record Links (p : Program T) : Type 0 where
    pub methods : (n : ℕ) → IsMethod p (w.method n) (method_at p n)
    pub classes : (n : ℕ) → IsClass (w.class n) (class_at p n)
    pub types : (n : ℕ) → IsType (w.ty n) (type_at p n)
    pub distinct : (a b : ℕ) → a < length p.classes → w.class a ≡ w.class b → a ≡ b
    pub owners : (a b : ℕ) → w.class (method_at p a).class ≡ w.class (method_at p b).class → (method_at p a).class ≡ (method_at p b).class
    pub begins : (n k : ℕ) → (method_at p n).begins ≡ Some k → k < length p.classes
    pub faults : (k : Fault) → exception_of k ≡ w.class (class_of_fault p.faults k)
    pub main : w.looks.main ≡ option_map w.method p.main
    pub arguments : string_array ≡ w.ty p.arguments
    pub texts : (n : ℕ) → n < length p.texts → slice_get p.texts n ≡ Some (w.text n)
    pub told : (a b : ℕ) → a < length p.texts → w.text a ≡ w.text b → a ≡ b
    pub string : string_name ≡ w.class p.string
    pub chars : primitive_array primitive.Char ≡ w.ty p.chars
    pub value : w.looks.field value_field ≡ p.value
    pub quiet : (d : Method) (ts : List T) → w.entered d ts ≡ []
    pub unmarked : (d : Method) (t : T) → w.marked d t ≡ t
