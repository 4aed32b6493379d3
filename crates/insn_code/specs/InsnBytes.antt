-- The bytes of one instruction whose opcode stands at an offset pc of the code (JVMS 6.5), by the operands of its opcode.
use Rattle.std.specs.Prelude.{◌≡◌, ℕ, ◌<◌, ◌==◌, true, List, [], ◌∷◌, ◌++◌, length, Option, Some, None, MatchBool, ℤ, pos, ◌+ℤ◌, ◌≤ℤ◌, ◌<ℤ◌}
use Rattle.std.specs.Int.{w8, w16, w32, cast_signed}
use Rattle.class_input.specs.Grammar.{IsBytes, IsU8, IsU16, IsU32, Each}
use Rattle.class_model.specs.Descriptor.{words_of}
use Rattle.class_model.specs.declared.insn.Insn.{Insn}
use Rattle.class_model.specs.declared.insn.Insn.TheVariants.{PushInt, PushLong, Iinc, GetStatic, PutStatic, GetField, PutField, Invoke, New, NewArray, ANewArray, CheckCast, InstanceOf, MultiNewArray}
use Rattle.class_model.specs.declared.insn.InvokeKind.TheVariants.{Virtual, Special, Static, Interface}
use Rattle.class_model.specs.declared.types.Primitive.{Primitive}
use Rattle.class_model.specs.declared.types.JType.{JType}
use Rattle.class_model.specs.declared.types.FieldRef.{FieldRef}
use Rattle.class_model.specs.declared.types.MethodRef.{MethodRef}
use Rattle.const_pool.specs.Pool.{Pool}
use Rattle.class_names.specs.declared.member.MethodEntry.TheVariants.{OfClass, OfInterface, Either}
use Rattle.class_names.specs.Names.{NamesClass, NamesType, NamesField, NamesMethod, NamesLong, NamesPushed}
use Rattle.class_names.specs.Pieces.{joined, AtIndex}
use Rattle.opcode_table.specs.declared.opcodes.OperandForm.{OperandForm}
use Rattle.opcode_table.specs.declared.opcodes.OperandForm.TheVariants as form
use Rattle.opcode_table.specs.Opcodes.{form_of}
use Rattle.opcode_table.specs.Fields.{padding}
use Rattle.insn_code.specs.declared.unlinked.Unlinked.{Unlinked}
use Rattle.insn_code.specs.declared.unlinked.Unlinked.TheVariants.{Whole, Jump, Table, Lookup}
use Rattle.insn_code.specs.Shapes.{plain, local, element}

-- two fields, one behind the other
abbrev pub Two : {A B : Type 0} → (List ℕ → A → Type 0) → (List ℕ → B → Type 0) → List ℕ → A × B → Type 0
Two R S text pair = (first second : List ℕ) × (text ≡ first ++ second) × R first pair.0 × S second pair.1

-- a signed number of four bytes, in two's complement
abbrev pub IsI32 : List ℕ → ℤ → Type 0
IsI32 text n = (k : ℕ) × IsU32 text k × (cast_signed w32 k ≡ n)

-- ---- switches

-- the bytes between a switch's opcode at pc and its operands, which begin at a multiple of four: they may be anything
abbrev pub IsPadding : ℕ → List ℕ → Type 0
IsPadding pc text = (length text ≡ padding pc) × IsBytes text

-- padding, default, low, high, and a distance for each number from low to high
pub record IsTable (pc : ℕ) (text : List ℕ) (x : Unlinked) : Type 0 where
  pub padding_text : List ℕ
  pub default_text : List ℕ
  pub low_text : List ℕ
  pub high_text : List ℕ
  pub distances_text : List ℕ
  pub spelled : text ≡ joined (padding_text ∷ default_text ∷ low_text ∷ high_text ∷ distances_text ∷ [])
  pub default : ℤ
  pub low : ℤ
  pub high : ℤ
  pub distances : List ℤ
  pub padding_is : IsPadding pc padding_text
  pub default_is : IsI32 default_text default
  pub low_is : IsI32 low_text low
  pub high_is : IsI32 high_text high
  pub ordered : low ≤ℤ high
  pub counted : (low +ℤ pos (length distances)) ≡ (high +ℤ pos 1)
  pub distances_are : Each IsI32 distances_text distances
  pub stands : Table low default distances ≡ x

-- a number above a bound, where there is one
abbrev pub IsAbove : Option ℤ → ℤ → Type 0
IsAbove None key = Unit {0}
IsAbove (Some bound) key = bound <ℤ key

-- keys that ascend strictly, the first above a bound
abbrev pub Ascend : Option ℤ → List (ℤ × ℤ) → Type 0
Ascend bound [] = Unit {0}
Ascend bound (row ∷ rows) = IsAbove bound row.0 × Ascend (Some row.0) rows

-- padding, default, how many rows there are, and rows of a key and a distance, the keys strictly ascending
pub record IsLookup (pc : ℕ) (text : List ℕ) (x : Unlinked) : Type 0 where
  pub padding_text : List ℕ
  pub default_text : List ℕ
  pub count_text : List ℕ
  pub rows_text : List ℕ
  pub spelled : text ≡ joined (padding_text ∷ default_text ∷ count_text ∷ rows_text ∷ [])
  pub default : ℤ
  pub rows : List (ℤ × ℤ)
  pub padding_is : IsPadding pc padding_text
  pub default_is : IsI32 default_text default
  pub count_is : IsI32 count_text (pos (length rows))
  pub rows_are : Each (Two IsI32 IsI32) rows_text rows
  pub ascend : Ascend None rows
  pub stands : Lookup default rows ≡ x

-- ---- operands that name an entry of the constant pool

-- ldc_w, ldc2_w, the fields, the calls but invokeinterface, new, anewarray, checkcast, and instanceof
abbrev pub IsPoolInsn : Pool → ℕ → ℕ → Insn → Type 0
IsPoolInsn p opcode k insn =
    MatchBool (opcode == 19) (NamesPushed p k insn)
    (MatchBool (opcode == 20) ((n : ℤ) × NamesLong p k n × (PushLong n ≡ insn))
    (MatchBool (opcode == 178) ((field : FieldRef) × NamesField p k field × (GetStatic field ≡ insn))
    (MatchBool (opcode == 179) ((field : FieldRef) × NamesField p k field × (PutStatic field ≡ insn))
    (MatchBool (opcode == 180) ((field : FieldRef) × NamesField p k field × (GetField field ≡ insn))
    (MatchBool (opcode == 181) ((field : FieldRef) × NamesField p k field × (PutField field ≡ insn))
    (MatchBool (opcode == 182) ((method : MethodRef) × NamesMethod OfClass p k method × (Invoke Virtual method ≡ insn))
    (MatchBool (opcode == 183) ((method : MethodRef) × NamesMethod Either p k method × (Invoke Special method ≡ insn))
    (MatchBool (opcode == 184) ((method : MethodRef) × NamesMethod Either p k method × (Invoke Static method ≡ insn))
    (MatchBool (opcode == 187) ((class : List ℕ) × NamesClass p k class × (New class ≡ insn))
    (MatchBool (opcode == 189) ((ty : JType) × NamesType p k ty × (ANewArray ty ≡ insn))
    (MatchBool (opcode == 192) ((ty : JType) × NamesType p k ty × (CheckCast ty ≡ insn))
    ((ty : JType) × NamesType p k ty × (InstanceOf ty ≡ insn)))))))))))))

-- invokeinterface: the index of an InterfaceMethodref, the words of the arguments with the receiver, and a byte 0
pub record IsInterfaceCall (p : Pool) (text : List ℕ) (x : Unlinked) : Type 0 where
  pub index_text : List ℕ
  pub count_text : List ℕ
  pub zero_text : List ℕ
  pub spelled : text ≡ joined (index_text ∷ count_text ∷ zero_text ∷ [])
  pub method : MethodRef
  pub named : AtIndex (NamesMethod OfInterface p) index_text method
  pub count_is : IsU8 count_text (words_of method.desc true)
  pub zero_is : IsU8 zero_text 0
  pub stands : Whole (Invoke Interface method) ≡ x

-- multianewarray: the index of an array class, and how many dimensions are made, at least one
pub record IsMultiArray (p : Pool) (text : List ℕ) (x : Unlinked) : Type 0 where
  pub index_text : List ℕ
  pub count_text : List ℕ
  pub spelled : text ≡ joined (index_text ∷ count_text ∷ [])
  pub ty : JType
  pub dimensions : ℕ
  pub named : AtIndex (NamesType p) index_text ty
  pub count_is : IsU8 count_text dimensions
  pub some : 0 < dimensions
  pub stands : Whole (MultiNewArray ty dimensions) ≡ x

-- ---- an instruction

-- behind `wide` and the opcode that it widens: a local of two bytes, for iinc with a step of two bytes
abbrev pub AreWide : ℕ → OperandForm → List ℕ → Unlinked → Type 0
AreWide opcode form.Local text x = (slot : ℕ) × IsU16 text slot × (Whole (local opcode slot) ≡ x)
AreWide opcode form.Increment text x = (pair : ℕ × ℕ) × Two IsU16 IsU16 text pair × (Whole (Iinc pair.0 (cast_signed w16 pair.1)) ≡ x)
AreWide opcode _ text x = ⊥

pub record IsWide (text : List ℕ) (x : Unlinked) : Type 0 where
  pub opcode : ℕ
  pub operands : List ℕ
  pub spelled : text ≡ opcode ∷ operands
  pub byte : opcode < 256
  pub operands_are : AreWide opcode (form_of opcode) operands x

-- what stands behind an opcode, by the form of its operands
abbrev pub AreOperands : Pool → ℕ → ℕ → OperandForm → List ℕ → Unlinked → Type 0
AreOperands p pc opcode form.Unknown text x = ⊥
AreOperands p pc opcode form.OutOfScope text x = ⊥
AreOperands p pc opcode form.Empty text x = (insn : Insn) × ((text ≡ []) × (plain opcode ≡ Some insn)) × (Whole insn ≡ x)
AreOperands p pc opcode form.SignedByte text x = (n : ℕ) × IsU8 text n × (Whole (PushInt (cast_signed w8 n)) ≡ x)
AreOperands p pc opcode form.SignedShort text x = (n : ℕ) × IsU16 text n × (Whole (PushInt (cast_signed w16 n)) ≡ x)
AreOperands p pc opcode form.PoolByte text x = (insn : Insn) × ((k : ℕ) × IsU8 text k × NamesPushed p k insn) × (Whole insn ≡ x)
AreOperands p pc opcode form.Pool text x = (insn : Insn) × AtIndex (IsPoolInsn p opcode) text insn × (Whole insn ≡ x)
AreOperands p pc opcode form.Local text x = (slot : ℕ) × IsU8 text slot × (Whole (local opcode slot) ≡ x)
AreOperands p pc opcode form.Increment text x = (pair : ℕ × ℕ) × Two IsU8 IsU8 text pair × (Whole (Iinc pair.0 (cast_signed w8 pair.1)) ≡ x)
AreOperands p pc opcode form.Jump text x = (n : ℕ) × IsU16 text n × (Jump opcode (cast_signed w16 n) ≡ x)
AreOperands p pc opcode form.WideJump text x = (distance : ℤ) × IsI32 text distance × (Jump opcode distance ≡ x)
AreOperands p pc opcode form.Table text x = IsTable pc text x
AreOperands p pc opcode form.Lookup text x = IsLookup pc text x
AreOperands p pc opcode form.Interface text x = IsInterfaceCall p text x
AreOperands p pc opcode form.ArrayType text x = (code : ℕ) × IsU8 text code × ((ty : Primitive) × (element code ≡ Some ty) × (Whole (NewArray ty) ≡ x))
AreOperands p pc opcode form.Dimensions text x = IsMultiArray p text x
AreOperands p pc opcode form.Wide text x = IsWide text x

-- an instruction whose opcode stands at pc, up to where its branches lead
pub record IsUnlinked (p : Pool) (pc : ℕ) (text : List ℕ) (x : Unlinked) : Type 0 where
  pub opcode : ℕ
  pub operands : List ℕ
  pub spelled : text ≡ opcode ∷ operands
  pub byte : opcode < 256
  pub operands_are : AreOperands p pc opcode (form_of opcode) operands x
