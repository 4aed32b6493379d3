-- The instruction that a linked one stands for.
use Rattle.std.specs.Prelude.{◌≡◌, ◌<◌, length, ℕ, ℤ, List, [], ◌∷◌, true, Option, Some, None, option_map, slice_get, if◌then◌else◌, ◌==◌}
use Rattle.class_model.specs.declared.types.JType.{JType}
use Rattle.class_model.specs.declared.types.Primitive.{Primitive}
use Rattle.class_model.specs.declared.types.FieldRef.{FieldRef}
use Rattle.class_model.specs.declared.types.MethodRef.{MethodRef}
use Rattle.class_model.specs.declared.insn.Kind.{Kind}
use Rattle.class_model.specs.declared.insn.InvokeKind.{InvokeKind}
use Rattle.class_model.specs.declared.insn.InvokeKind.TheVariants as invoke
use Rattle.class_model.specs.declared.insn.Insn.{Insn}
use Rattle.class_model.specs.declared.insn.Insn.TheVariants as insn
use Rattle.class_model.specs.Descriptor.{words_of}
use Rattle.run_state.specs.Looks.{Static}
use Rattle.run_state.specs.Calls.{narrowed_type}
use Rattle.run_state.specs.Objects.{primitive_array, array_of, kind_of, is_constructor}
use Rattle.machine_frames.specs.FrameOps.{frame_insn}
use Rattle.linked_code.specs.declared.op.Op.{Op}
use Rattle.linked_code.specs.declared.op.Op.TheVariants as op
use Rattle.linked_code.specs.declared.program.Narrowing.{Narrowing}
use Rattle.linked_code.specs.declared.program.Selection.{Selection}
use Rattle.linked_code.specs.declared.program.Call.{Call}
use Rattle.linked_code.specs.declared.program.Table.{Table}
use Rattle.linked_code.specs.declared.program.Rows.{Rows}
use Rattle.linked_code.specs.declared.program.Program.{Program}
use Rattle.linked_code.specs.World.{World}
use Rattle.linked_code.specs.Kept.{kept_by}
use Rattle.linked_code.specs.Numbered.{class_at}

abbrev pub IsTable : Insn → Option Table → Type 0
IsTable i None = ⊥
IsTable i (Some t) = i ≡ insn.TableSwitch t.low t.default t.targets

abbrev pub AreRows : Insn → Option Rows → Type 0
AreRows i None = ⊥
AreRows i (Some r) = i ≡ insn.LookupSwitch r.default r.rows

-- an instruction that makes an array of numbers or of references
pub data MakesArray (i : Insn) (ty : JType) : Type 0 where
  OfNumbers : (number : Primitive) → i ≡ insn.NewArray number → primitive_array number ≡ ty → MakesArray i ty
  OfReferences : (element : JType) → i ≡ insn.ANewArray element → array_of element ≡ ty → MakesArray i ty

-- the method of a selector, the first in a list
abbrev pub selection : List Selection → ℕ → Option ℕ
selection [] n = None
selection (s ∷ ss) n = if s.selector == n then Some s.method else selection ss n

module _ {T : Type 0} (w : World T) (p : Program T) where
  -- a call of a static method
  pub record IsStaticCall (i : Insn) (n : ℕ) : Type 0 where
    pub ref : MethodRef
    pub is : i ≡ insn.Invoke invoke.Static ref
    pub method : w.looks.method ref ≡ Some (w.method n)

  -- a call on an object
  pub record IsCall (kind : InvokeKind) (i : Insn) (c : Call) : Type 0 where
    pub ref : MethodRef
    pub is : i ≡ insn.Invoke kind ref
    pub words : words_of ref.desc true ≡ c.words
    pub resolved : w.looks.method ref ≡ option_map w.method c.resolved
    pub constructor : is_constructor ref.name ≡ c.is_constructor
    pub ty : ref.class ≡ w.ty c.ty
    pub selected : (k : ℕ) → w.looks.selected (w.class k) ref ≡ option_map w.method (selection (class_at p k).selects c.selector)

  abbrev pub IsCallAt : InvokeKind → Insn → Option Call → Type 0
  IsCallAt kind i None = ⊥
  IsCallAt kind i (Some c) = IsCall kind i c

  -- a use of a static field, and what it finds
  pub record IsStaticRead (i : Insn) (class place : ℕ) (text : Option (List ℕ)) : Type 0 where
    pub field : FieldRef
    pub is : i ≡ insn.GetStatic field
    pub found : w.looks.static field ≡ Some (record { class = w.class class; place = place; text = text })

  pub record IsStaticWrite (i : Insn) (class place : ℕ) (kind : Kind) (keeps : Narrowing) : Type 0 where
    pub field : FieldRef
    pub text : Option (List ℕ)
    pub is : i ≡ insn.PutStatic field
    pub found : w.looks.static field ≡ Some (record { class = w.class class; place = place; text = text })
    pub kind_is : kind_of field.ty ≡ kind
    pub narrows : (v : ℤ) → narrowed_type field.ty v ≡ kept_by keeps v

  -- a use of a field of an object, and the field's place
  pub record IsFieldRead (i : Insn) (place : ℕ) : Type 0 where
    pub field : FieldRef
    pub is : i ≡ insn.GetField field
    pub found : w.looks.field field ≡ Some place

  pub record IsFieldWrite (i : Insn) (place : ℕ) (kind : Kind) (keeps : Narrowing) : Type 0 where
    pub field : FieldRef
    pub is : i ≡ insn.PutField field
    pub found : w.looks.field field ≡ Some place
    pub kind_is : kind_of field.ty ≡ kind
    pub narrows : (v : ℤ) → narrowed_type field.ty v ≡ kept_by keeps v

  abbrev pub Linked : Insn → Op → Type 0
  Linked i (op.Frame o) = i ≡ frame_insn o
  Linked i (op.TableSwitch n) = IsTable i (slice_get p.tables n)
  Linked i (op.LookupSwitch n) = AreRows i (slice_get p.rows n)
  Linked i op.Return = i ≡ insn.Return None
  Linked i (op.ReturnValue k) = i ≡ insn.Return (Some k)
  Linked i (op.InvokeStatic n) = IsStaticCall i n
  Linked i (op.InvokeSpecial n) = IsCallAt invoke.Special i (slice_get p.calls n)
  Linked i (op.InvokeVirtual n) = IsCallAt invoke.Virtual i (slice_get p.calls n)
  Linked i (op.InvokeInterface n) = IsCallAt invoke.Interface i (slice_get p.calls n)
  Linked i (op.PushText n) = (n < length p.texts) × (i ≡ insn.PushString (w.text n))
  Linked i (op.GetStatic class place) = IsStaticRead i class place None
  Linked i (op.GetText class n) = (n < length p.texts) × ((place : ℕ) × IsStaticRead i class place (Some (w.text n)))
  Linked i (op.PutStatic class place kind keeps) = IsStaticWrite i class place kind keeps
  Linked i (op.GetField place) = IsFieldRead i place
  Linked i (op.PutField place kind keeps) = IsFieldWrite i place kind keeps
  Linked i (op.New n) = i ≡ insn.New (w.class n)
  Linked i (op.NewArray n) = MakesArray i (w.ty n)
  Linked i (op.MultiNewArray n sizes) = i ≡ insn.MultiNewArray (w.ty n) sizes
  Linked i op.ArrayLength = i ≡ insn.ArrayLength
  Linked i (op.ArrayLoad e) = i ≡ insn.ArrayLoad e
  Linked i (op.ArrayStore e) = i ≡ insn.ArrayStore e
  Linked i op.Throw = i ≡ insn.Athrow
  Linked i (op.CheckCast n) = i ≡ insn.CheckCast (w.ty n)
  Linked i (op.InstanceOf n) = i ≡ insn.InstanceOf (w.ty n)

  abbrev pub LinkedAt : Option Insn → Option Op → Type 0
  LinkedAt None None = Unit {0}
  LinkedAt (Some i) None = ⊥
  LinkedAt None (Some o) = ⊥
  LinkedAt (Some i) (Some o) = Linked i o
