-- The members of the base's classes, and the names and descriptors that they have. This project's own.
use Rattle.std.specs.Prelude.{ℕ, false, List, [], ◌∷◌, Some, None, codes}
use Rattle.lists.specs.Texts.{units_of}
use Rattle.class_model.specs.declared.types.Primitive.TheVariants as primitives
use Rattle.class_model.specs.declared.types.BaseType.TheVariants as bases
use Rattle.class_model.specs.declared.types.JType.{JType}
use Rattle.class_model.specs.declared.types.MethodDesc.{MethodDesc}
use Rattle.class_model.specs.declared.types.MethodRef.{MethodRef}
use Rattle.class_model.specs.declared.insn.Kind.TheVariants as kinds
use Rattle.class_model.specs.declared.insn.InvokeKind.TheVariants as invokes
use Rattle.class_model.specs.declared.insn.Insn.{Insn}
use Rattle.class_model.specs.declared.insn.Insn.TheVariants.{Invoke, Load, Return}
use Rattle.class_model.specs.declared.class.CodeDef.{CodeDef}
use Rattle.class_model.specs.declared.class.FieldDef.{FieldDef}
use Rattle.class_model.specs.declared.class.MethodDef.{MethodDef}

abbrev pub object_name : List ℕ
object_name = units_of (codes "java/lang/Object")

abbrev pub string_name : List ℕ
string_name = units_of (codes "java/lang/String")

abbrev pub native_name : List ℕ
native_name = units_of (codes "sys/Native")

abbrev pub init_name : List ℕ
init_name = units_of (codes "<init>")

abbrev pub int_type : JType
int_type = record { depth = 0; base = bases.Primitive primitives.Int }

abbrev pub class_type : List ℕ → JType
class_type name = record { depth = 0; base = bases.Class name }

-- the descriptor ()V
abbrev pub takes_nothing : MethodDesc
takes_nothing = record { params = []; result = None }

-- the descriptor ()I
abbrev pub gives_int : MethodDesc
gives_int = record { params = []; result = Some int_type }

-- the descriptor (I)V
abbrev pub takes_int : MethodDesc
takes_int = record { params = int_type ∷ []; result = None }

-- the descriptor (Ljava/lang/Object;ILjava/lang/Object;II)V
abbrev pub takes_arrays : MethodDesc
takes_arrays = record { params = class_type object_name ∷ int_type ∷ class_type object_name ∷ int_type ∷ int_type ∷ []; result = None }

-- a native method: ACC_PUBLIC, ACC_STATIC and ACC_NATIVE (JVMS 4.6)
abbrev pub native_method : (name : List ℕ) → MethodDesc → MethodDef
native_method name desc = record { flags = 0x0109; name = name; desc = desc; throws = []; code = None }

-- code without frames, handlers and lines
abbrev pub straight_code : (max_stack : ℕ) → List Insn → CodeDef
straight_code max_stack insns = record { max_stack = max_stack; max_locals = 1; insns = insns; handlers = []; frames = []; lines = [] }

-- a constructor without parameters: public <init>()V
abbrev pub init_method : CodeDef → MethodDef
init_method code = record { flags = 0x0001; name = init_name; desc = takes_nothing; throws = []; code = Some code }

-- the constructor of `java/lang/Object` only returns
abbrev pub object_init : MethodDef
object_init = init_method (straight_code 0 (Return None ∷ []))

-- the constructor of a class that extends another: <init>()V
abbrev pub init_ref : (above : List ℕ) → MethodRef
init_ref above = record { class = class_type above; name = init_name; desc = takes_nothing; in_interface = false }

-- a constructor that calls the one of its superclass
abbrev pub super_init : (above : List ℕ) → MethodDef
super_init above = init_method (straight_code 1 (Load kinds.Ref 0 ∷ Invoke invokes.Special (init_ref above) ∷ Return None ∷ []))

-- the characters of a string: value:[C
abbrev pub value_field : FieldDef
value_field = record {
  flags = 0;
  name = units_of (codes "value");
  ty = record { depth = 1; base = bases.Primitive primitives.Char };
  constant = None;
}
