-- What an instruction has to be so that some bytes are that instruction (JVMS 6.5), sizes aside.
use Rattle.std.specs.Prelude.{◌≡◌, ◌≢◌, ℕ, ◌<◌, ◌≤◌, ◌^◌, ℤ, pos, ◌+ℤ◌, ◌<ℤ◌, ◌≤ℤ◌, Bool, true, false, List, [], ◌∷◌, length, map, All}
use Rattle.class_model.specs.declared.types.JType.{JType}
use Rattle.class_model.specs.declared.types.MethodRef.{MethodRef}
use Rattle.class_model.specs.declared.insn.InvokeKind.{InvokeKind}
use Rattle.class_model.specs.declared.insn.InvokeKind.TheVariants.{Virtual, Special, Static, Interface}
use Rattle.class_model.specs.declared.insn.Insn.{Insn}
use Rattle.class_model.specs.declared.insn.Insn.TheVariants.{Nop, PushNull, PushInt, PushLong, PushString, Load, Store, ArrayLoad, ArrayStore, Stack, Bin, Shift, Neg, Iinc, Convert, Lcmp, If, IfInt, IfRef, IfNull, Goto, TableSwitch, LookupSwitch, Return, GetStatic, PutStatic, GetField, PutField, Invoke, New, NewArray, ANewArray, ArrayLength, Athrow, CheckCast, InstanceOf, MultiNewArray}
use Rattle.class_model.specs.Descriptor.{IsFieldType, IsMethodType, is_primitive_type, words_of}

-- a class, an interface or an array: what a Class entry of the constant pool can name as a type (JVMS 4.4.1)
pub record IsReferenceType (ty : JType) : Type 0 where
  pub in_grammar : IsFieldType ty
  pub no_primitive : is_primitive_type ty ≡ false

-- a number of one of n instructions
abbrev pub IsTarget : ℕ → ℕ → Type 0
IsTarget n target = target < n

-- each number is above the one before it, the first above `last`
abbrev pub AscendAbove : ℤ → List ℤ → Type 0
AscendAbove last [] = Unit {0}
AscendAbove last (key ∷ keys) = (last <ℤ key) × AscendAbove key keys

-- strictly ascending numbers
abbrev pub Ascend : List ℤ → Type 0
Ascend [] = Unit {0}
Ascend (key ∷ keys) = AscendAbove key keys

abbrev pub key_of : ℤ × ℕ → ℤ
key_of row = row.0

-- tableswitch: there is a target, and the number of the last one is one of 32 bits
pub record IsTable (n : ℕ) (low : ℤ) (default : ℕ) (targets : List ℕ) : Type 0 where
  pub default_is : IsTarget n default
  pub some : targets ≢ []
  pub last_fits : (low +ℤ pos (length targets)) ≤ℤ pos (2 ^ 31)
  pub targets_are : All (IsTarget n) targets

-- lookupswitch: the keys ascend strictly
pub record IsLookup (n : ℕ) (default : ℕ) (rows : List (ℤ × ℕ)) : Type 0 where
  pub default_is : IsTarget n default
  pub ascend : Ascend (map key_of rows)
  pub targets_are : All (λ row. IsTarget n row.1) rows

-- the entry that a call names (JVMS 6.5): invokevirtual a Methodref, invokeinterface an InterfaceMethodref, the others either;
-- invokeinterface has the words of its arguments, the receiver counted, in one byte
abbrev pub FitsKind : InvokeKind → MethodRef → Type 0
FitsKind Virtual method = method.in_interface ≡ false
FitsKind Special method = Unit {0}
FitsKind Static method = Unit {0}
FitsKind Interface method = (method.in_interface ≡ true) × (words_of method.desc true ≤ 255)

-- a call, whose method may be one of an array
pub record IsCall (kind : InvokeKind) (method : MethodRef) : Type 0 where
  pub class : IsReferenceType method.class
  pub desc : IsMethodType method.desc
  pub fits : FitsKind kind method

-- multianewarray: at least one dimension is made
pub record IsMultiArray (ty : JType) (dimensions : ℕ) : Type 0 where
  pub class : IsReferenceType ty
  pub some : dimensions ≢ 0

-- an instruction among n
abbrev pub ShapedInsn : ℕ → Insn → Type 0
ShapedInsn n (If cond target) = IsTarget n target
ShapedInsn n (IfInt cond target) = IsTarget n target
ShapedInsn n (IfRef same target) = IsTarget n target
ShapedInsn n (IfNull null target) = IsTarget n target
ShapedInsn n (Goto target) = IsTarget n target
ShapedInsn n (TableSwitch low default targets) = IsTable n low default targets
ShapedInsn n (LookupSwitch default rows) = IsLookup n default rows
ShapedInsn n (GetStatic field) = IsFieldType field.ty
ShapedInsn n (PutStatic field) = IsFieldType field.ty
ShapedInsn n (GetField field) = IsFieldType field.ty
ShapedInsn n (PutField field) = IsFieldType field.ty
ShapedInsn n (Invoke kind method) = IsCall kind method
ShapedInsn n (ANewArray ty) = IsReferenceType ty
ShapedInsn n (CheckCast ty) = IsReferenceType ty
ShapedInsn n (InstanceOf ty) = IsReferenceType ty
ShapedInsn n (MultiNewArray ty dimensions) = IsMultiArray ty dimensions
ShapedInsn n _ = Unit {0}
