-- What a symbolic class has to be so that some bytes are that class (JVMS 4), sizes aside. Names are any units: which names a
-- class may have is no question of the format.
use Rattle.std.specs.Prelude.{◌≡◌, ℕ, ◌<◌, ◌≤◌, List, [], ◌∷◌, length, map, slice_get, Option, Some, All, IfSome, ℤ, pos}
use Rattle.modified_utf8.specs.Text.{IsText}
use Rattle.class_model.specs.declared.insn.Insn.{Insn}
use Rattle.class_model.specs.declared.insn.Insn.TheVariants.{New}
use Rattle.class_model.specs.declared.class.VType.{VType}
use Rattle.class_model.specs.declared.class.VType.TheVariants.{Top, Int, Long, Null, UninitThis, Ref, Uninit}
use Rattle.class_model.specs.declared.class.Frame.{Frame}
use Rattle.class_model.specs.declared.class.Handler.{Handler}
use Rattle.class_model.specs.declared.class.CodeDef.{CodeDef}
use Rattle.class_model.specs.declared.class.FieldDef.{FieldDef}
use Rattle.class_model.specs.declared.class.MethodDef.{MethodDef}
use Rattle.class_model.specs.declared.class.ClassDef.{ClassDef}
use Rattle.class_model.specs.Descriptor.{IsFieldType, IsMethodType}
use Rattle.class_shape.specs.ShapedInsn.{IsReferenceType, IsTarget, Ascend, ShapedInsn}

-- ---- code (JVMS 4.7.3)

-- an exception table entry among n instructions: its range has an instruction, and may end behind the last one
pub record ShapedHandler (n : ℕ) (handler : Handler) : Type 0 where
  pub ordered : handler.start < handler.end
  pub within : handler.end ≤ n
  pub target : IsTarget n handler.target

-- the instruction of a number makes an object
abbrev pub MakesObject : List Insn → ℕ → Type 0
MakesObject insns at = (class : List ℕ) × (slice_get insns at ≡ Some (New class))

-- a verification type (JVMS 4.7.4)
abbrev pub ShapedType : List Insn → VType → Type 0
ShapedType insns (Ref ty) = IsReferenceType ty
ShapedType insns (Uninit at) = MakesObject insns at
ShapedType insns _ = Unit {0}

-- a frame, at the number of an instruction
pub record ShapedFrame (insns : List Insn) (row : ℕ × Frame) : Type 0 where
  pub at : IsTarget (length insns) row.0
  pub locals : All (ShapedType insns) row.1.locals
  pub stack : All (ShapedType insns) row.1.stack

abbrev pub place_of : ℕ × Frame → ℤ
place_of row = pos row.0

-- code, which may be empty: how long it is, is a size
pub record ShapedCode (code : CodeDef) : Type 0 where
  pub insns : All (ShapedInsn (length code.insns)) code.insns
  pub handlers : All (ShapedHandler (length code.insns)) code.handlers
  pub frames : All (ShapedFrame code.insns) code.frames
  pub ascend : Ascend (map place_of code.frames)
  -- lines (JVMS 4.7.12) are in any order
  pub lines : All (λ row. IsTarget (length code.insns) row.0) code.lines

-- ---- members and the class

-- a field (JVMS 4.5)
abbrev pub ShapedField : FieldDef → Type 0
ShapedField field = IsFieldType field.ty

-- a method (JVMS 4.6)
pub record ShapedMethod (method : MethodDef) : Type 0 where
  pub desc : IsMethodType method.desc
  pub code : IfSome method.code ShapedCode

-- bytes that are a text (JVMS 4.4.7)
abbrev pub SpellText : List ℕ → Type 0
SpellText bytes = (units : List ℕ) × IsText bytes units

-- a class (JVMS 4.1); the name of its source file (JVMS 4.7.10) is kept as bytes
pub record Shaped (class : ClassDef) : Type 0 where
  pub fields : All ShapedField class.fields
  pub methods : All ShapedMethod class.methods
  pub source : IfSome class.source SpellText
