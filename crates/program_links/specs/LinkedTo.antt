-- What a linked instruction says of its instruction, in a set and with tables that may still grow.
use Rattle.std.specs.Prelude.{◌≡◌, ℕ, ℤ, List, Option, Some, None, true, slice_get}
use Rattle.class_model.specs.declared.types.JType.{JType}
use Rattle.class_model.specs.declared.types.FieldRef.{FieldRef}
use Rattle.class_model.specs.declared.types.MethodRef.{MethodRef}
use Rattle.class_model.specs.declared.insn.Kind.{Kind}
use Rattle.class_model.specs.declared.insn.InvokeKind.{InvokeKind}
use Rattle.class_model.specs.declared.insn.InvokeKind.TheVariants as invoke
use Rattle.class_model.specs.declared.insn.Insn.{Insn}
use Rattle.class_model.specs.declared.insn.Insn.TheVariants as insn
use Rattle.class_model.specs.declared.class.ClassDef.{ClassDef}
use Rattle.class_model.specs.Descriptor.{words_of}
use Rattle.run_state.specs.Calls.{narrowed_type}
use Rattle.run_state.specs.Objects.{kind_of, is_constructor}
use Rattle.run_state.specs.SetLooks.{resolved, field_place, static_at}
use Rattle.linked_code.specs.declared.op.Op.{Op}
use Rattle.linked_code.specs.declared.op.Op.TheVariants as op
use Rattle.linked_code.specs.declared.program.Narrowing.{Narrowing}
use Rattle.linked_code.specs.declared.program.Call.{Call}
use Rattle.linked_code.specs.declared.program.Table.{Table}
use Rattle.linked_code.specs.declared.program.Rows.{Rows}
use Rattle.linked_code.specs.Kept.{kept_by}
use Rattle.linked_code.specs.Linked.{MakesArray}
use Rattle.program_links.specs.Methods.{Shows}
use Rattle.program_links.specs.Numbers.{Numbers}
use Rattle.program_links.specs.Plain.{plain_insn}

-- a call on an object
pub record CallTo (set : List ClassDef) (t : Numbers) (kind : InvokeKind) (i : Insn) (c : Call) : Type 0 where
  pub ref : MethodRef
  pub is : i ≡ insn.Invoke kind ref
  pub words : words_of ref.desc true ≡ c.words
  pub resolved : Shows set (resolved set ref) c.resolved
  pub constructor : is_constructor ref.name ≡ c.is_constructor
  pub ty : slice_get t.types c.ty ≡ Some ref.class
  pub selector : slice_get t.selectors c.selector ≡ Some (record { name = ref.name; desc = ref.desc })

abbrev pub CallAt : List ClassDef → Numbers → InvokeKind → Insn → ℕ → Type 0
CallAt set t kind i n = (c : Call) × (slice_get t.calls n ≡ Some c) × CallTo set t kind i c

pub record StaticCallTo (set : List ClassDef) (i : Insn) (n : ℕ) : Type 0 where
  pub ref : MethodRef
  pub is : i ≡ insn.Invoke invoke.Static ref
  pub resolved : Shows set (resolved set ref) (Some n)

-- a static field, by the number of its class, its place and its text
pub record StaticTo (set : List ClassDef) (field : FieldRef) (class place : ℕ) (text : Option (List ℕ)) : Type 0 where
  pub of : ClassDef
  pub there : slice_get set class ≡ Some of
  pub found : static_at set field ≡ Some (record { class = of.name; place = place; text = text })

pub record TextTo (set : List ClassDef) (t : Numbers) (field : FieldRef) (class n : ℕ) : Type 0 where
  pub place : ℕ
  pub text : List ℕ
  pub static : StaticTo set field class place (Some text)
  pub has : slice_get t.texts n ≡ Some text

-- what is put into a field of a type
pub record PutTo (ty : JType) (kind : Kind) (keeps : Narrowing) : Type 0 where
  pub kind_is : kind_of ty ≡ kind
  pub narrows : (v : ℤ) → narrowed_type ty v ≡ kept_by keeps v

-- an instruction that names a type
abbrev pub TypeAt : Numbers → (JType → Type 0) → ℕ → Type 0
TypeAt t is n = (ty : JType) × (slice_get t.types n ≡ Some ty) × is ty

abbrev pub LinkedTo : List ClassDef → Numbers → Insn → Op → Type 0
LinkedTo set t i (op.Frame o) = plain_insn (op.Frame o) ≡ Some i
LinkedTo set t i op.Return = plain_insn op.Return ≡ Some i
LinkedTo set t i (op.ReturnValue k) = plain_insn (op.ReturnValue k) ≡ Some i
LinkedTo set t i op.ArrayLength = plain_insn op.ArrayLength ≡ Some i
LinkedTo set t i (op.ArrayLoad e) = plain_insn (op.ArrayLoad e) ≡ Some i
LinkedTo set t i (op.ArrayStore e) = plain_insn (op.ArrayStore e) ≡ Some i
LinkedTo set t i op.Throw = plain_insn op.Throw ≡ Some i
LinkedTo set t i (op.TableSwitch n) = (table : Table) × (slice_get t.tables n ≡ Some table) × (i ≡ insn.TableSwitch table.low table.default table.targets)
LinkedTo set t i (op.LookupSwitch n) = (rows : Rows) × (slice_get t.rows n ≡ Some rows) × (i ≡ insn.LookupSwitch rows.default rows.rows)
LinkedTo set t i (op.InvokeStatic n) = StaticCallTo set i n
LinkedTo set t i (op.InvokeSpecial n) = CallAt set t invoke.Special i n
LinkedTo set t i (op.InvokeVirtual n) = CallAt set t invoke.Virtual i n
LinkedTo set t i (op.InvokeInterface n) = CallAt set t invoke.Interface i n
LinkedTo set t i (op.PushText n) = (text : List ℕ) × (slice_get t.texts n ≡ Some text) × (i ≡ insn.PushString text)
LinkedTo set t i (op.GetStatic class place) = (field : FieldRef) × (i ≡ insn.GetStatic field) × StaticTo set field class place None
LinkedTo set t i (op.GetText class n) = (field : FieldRef) × (i ≡ insn.GetStatic field) × TextTo set t field class n
LinkedTo set t i (op.PutStatic class place kind keeps) =
    (field : FieldRef) × (text : Option (List ℕ)) × (i ≡ insn.PutStatic field) × StaticTo set field class place text × PutTo field.ty kind keeps
LinkedTo set t i (op.GetField place) = (field : FieldRef) × (i ≡ insn.GetField field) × (field_place set field ≡ Some place)
LinkedTo set t i (op.PutField place kind keeps) =
    (field : FieldRef) × (i ≡ insn.PutField field) × (field_place set field ≡ Some place) × PutTo field.ty kind keeps
LinkedTo set t i (op.New n) = (class : ClassDef) × (slice_get set n ≡ Some class) × (i ≡ insn.New class.name)
LinkedTo set t i (op.NewArray n) = TypeAt t (MakesArray i) n
LinkedTo set t i (op.MultiNewArray n sizes) = TypeAt t (λ ty. i ≡ insn.MultiNewArray ty sizes) n
LinkedTo set t i (op.CheckCast n) = TypeAt t (λ ty. i ≡ insn.CheckCast ty) n
LinkedTo set t i (op.InstanceOf n) = TypeAt t (λ ty. i ≡ insn.InstanceOf ty) n
