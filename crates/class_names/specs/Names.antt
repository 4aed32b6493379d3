-- What an index of the constant pool names (JVMS 4.4), for each use that a class file makes of one.
use Rattle.std.specs.Prelude.{◌≡◌, ℕ, ℤ, ◌==◌, Bool, true, false, List, [], ◌∷◌, Option, Some, None, MatchBool}
use Rattle.modified_utf8.specs.Text.{IsText}
use Rattle.class_model.specs.declared.types.BaseType.TheVariants as bases
use Rattle.class_model.specs.declared.types.JType.{JType}
use Rattle.class_model.specs.declared.types.MethodDesc.{MethodDesc}
use Rattle.class_model.specs.declared.types.FieldRef.{FieldRef}
use Rattle.class_model.specs.declared.types.MethodRef.{MethodRef}
use Rattle.class_model.specs.declared.class.Constant.{Constant}
use Rattle.class_model.specs.declared.class.Constant.TheVariants as constants
use Rattle.class_model.specs.declared.insn.Insn.{Insn}
use Rattle.class_model.specs.declared.insn.Insn.TheVariants.{PushInt, PushString}
use Rattle.class_model.specs.Descriptor.{IsClassName, SpellsField, SpellsMethod}
use Rattle.const_pool.specs.declared.entry.Entry.{Entry}
use Rattle.const_pool.specs.declared.entry.Entry.TheVariants as entries
use Rattle.const_pool.specs.Pool.{Pool, entry_at, names, as_text, as_class, as_name_and_type}
use Rattle.class_names.specs.declared.member.MethodEntry.{MethodEntry}
use Rattle.class_names.specs.declared.member.MethodEntry.TheVariants as methods

-- ---- texts

-- the bytes of a Utf8 entry
abbrev pub NamesBytes : Pool → ℕ → List ℕ → Type 0
NamesBytes p k bytes = names as_text p k ≡ Some bytes

-- a text, as its UTF-16 units: a Utf8 entry
abbrev pub NamesText : Pool → ℕ → List ℕ → Type 0
NamesText p k units = (bytes : List ℕ) × NamesBytes p k bytes × IsText bytes units

-- an index that may be 0, which stands for nothing
abbrev pub MayName : {A : Type 0} → (ℕ → A → Type 0) → ℕ → Option A → Type 0
MayName Names k None = k ≡ 0
MayName Names k (Some a) = Names k a

-- ---- classes and types

-- the name of a class, whatever its text: a Class entry (JVMS 4.4.1)
abbrev pub NamesClass : Pool → ℕ → List ℕ → Type 0
NamesClass p k name = (text : ℕ) × (names as_class p k ≡ Some text) × NamesText p text name

-- whether the name of a class is that of an array: it begins with '['
abbrev pub is_array_name : List ℕ → Bool
is_array_name [] = false
is_array_name (unit ∷ units) = unit == 91

abbrev pub class_type : List ℕ → JType
class_type name = record { depth = 0; base = bases.Class name }

-- the name of a class as a type: an array descriptor, or else a class name
abbrev pub IsClassType : List ℕ → JType → Type 0
IsClassType name ty = MatchBool (is_array_name name) (SpellsField name ty) ((ty ≡ class_type name) × IsClassName name)

-- a class, interface or array, as a type: a Class entry
abbrev pub NamesType : Pool → ℕ → JType → Type 0
NamesType p k ty = (name : List ℕ) × NamesClass p k name × IsClassType name ty

-- the type of a field: a Utf8 entry that is a field descriptor (JVMS 4.3.2)
abbrev pub NamesFieldType : Pool → ℕ → JType → Type 0
NamesFieldType p k ty = (text : List ℕ) × NamesText p k text × SpellsField text ty

-- the types of a method: a Utf8 entry that is a method descriptor (JVMS 4.3.3)
abbrev pub NamesMethodDesc : Pool → ℕ → MethodDesc → Type 0
NamesMethodDesc p k desc = (text : List ℕ) × NamesText p k text × SpellsMethod text desc

-- ---- members (JVMS 4.4.2)

abbrev pub as_field : Entry → Option (ℕ × ℕ)
as_field (entries.Field k m) = Some (k, m)
as_field e = None

-- a field: a Fieldref with its class by name, its name and its type
pub record NamesField (p : Pool) (k : ℕ) (field : FieldRef) : Type 0 where
  pub class_index : ℕ
  pub pair_index : ℕ
  pub name_index : ℕ
  pub type_index : ℕ
  pub entry : names as_field p k ≡ Some (class_index, pair_index)
  pub class_named : NamesClass p class_index field.class
  pub pair : names as_name_and_type p pair_index ≡ Some (name_index, type_index)
  pub named : NamesText p name_index field.name
  pub typed : NamesFieldType p type_index field.ty

-- the class, the name with its types, and whether the entry is an InterfaceMethodref
abbrev pub as_method : MethodEntry → Entry → Option (ℕ × ℕ × Bool)
as_method methods.OfClass (entries.Method k m) = Some (k, m, false)
as_method methods.OfInterface (entries.InterfaceMethod k m) = Some (k, m, true)
as_method methods.Either (entries.Method k m) = Some (k, m, false)
as_method methods.Either (entries.InterfaceMethod k m) = Some (k, m, true)
as_method kind e = None

-- a method: an entry of a kind that is taken here, with its class as a type, its name and its types
pub record NamesMethod (kind : MethodEntry) (p : Pool) (k : ℕ) (method : MethodRef) : Type 0 where
  pub class_index : ℕ
  pub pair_index : ℕ
  pub name_index : ℕ
  pub desc_index : ℕ
  pub entry : names (as_method kind) p k ≡ Some (class_index, pair_index, method.in_interface)
  pub class_typed : NamesType p class_index method.class
  pub pair : names as_name_and_type p pair_index ≡ Some (name_index, desc_index)
  pub named : NamesText p name_index method.name
  pub typed : NamesMethodDesc p desc_index method.desc

-- ---- constants

abbrev pub as_string : Entry → Option ℕ
as_string (entries.Text k) = Some k
as_string e = None

-- the text of a String entry (JVMS 4.4.3)
abbrev pub NamesString : Pool → ℕ → List ℕ → Type 0
NamesString p k units = (text : ℕ) × (names as_string p k ≡ Some text) × NamesText p text units

abbrev pub as_long : Entry → Option ℤ
as_long (entries.Long n) = Some n
as_long e = None

-- the number of a Long entry (JVMS 4.4.5)
abbrev pub NamesLong : Pool → ℕ → ℤ → Type 0
NamesLong p k n = names as_long p k ≡ Some n

-- what `ldc` of an entry pushes: an Integer or a String
abbrev pub IsPushed : Pool → Entry → Insn → Type 0
IsPushed p (entries.Integer n) insn = insn ≡ PushInt n
IsPushed p (entries.Text k) insn = (units : List ℕ) × NamesText p k units × (insn ≡ PushString units)
IsPushed p e insn = ⊥

abbrev pub NamesPushed : Pool → ℕ → Insn → Type 0
NamesPushed p k insn = (e : Entry) × (entry_at p k ≡ Some e) × IsPushed p e insn

-- the value of a ConstantValue attribute (JVMS 4.7.2): an Integer, a Long or a String
abbrev pub IsConstant : Pool → Entry → Constant → Type 0
IsConstant p (entries.Integer n) constant = constant ≡ constants.Int n
IsConstant p (entries.Long n) constant = constant ≡ constants.Long n
IsConstant p (entries.Text k) constant = (units : List ℕ) × NamesText p k units × (constant ≡ constants.Text units)
IsConstant p e constant = ⊥

abbrev pub NamesConstant : Pool → ℕ → Constant → Type 0
NamesConstant p k constant = (e : Entry) × (entry_at p k ≡ Some e) × IsConstant p e constant
