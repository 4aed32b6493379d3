-- The lengths of the contents of attributes (JVMS 4.7), in file order; that of an attribute stands before those of the attributes in it.
use Rattle.std.specs.Prelude.{ℕ, ◌+◌, ◌*◌, List, [], ◌∷◌, ◌++◌, length, sum_by, Option, Some, None, option_to_list}
use Rattle.std.specs.List.{flat_map}
use Rattle.class_model.specs.declared.class.VType.{VType}
use Rattle.class_model.specs.declared.class.VType.TheVariants.{Ref, Uninit}
use Rattle.class_model.specs.declared.class.Frame.{Frame}
use Rattle.class_model.specs.declared.class.CodeDef.{CodeDef}
use Rattle.class_model.specs.declared.class.FieldDef.{FieldDef}
use Rattle.class_model.specs.declared.class.MethodDef.{MethodDef}
use Rattle.class_model.specs.declared.class.ClassDef.{ClassDef}
use Rattle.class_limits.specs.Sizes.{code_size}

-- ---- tables: the attribute is there where its table is not empty

-- a count, and rows of so many bytes
abbrev pub table_length : {A : Type 0} → ℕ → List A → Option ℕ
table_length row [] = None
table_length row (x ∷ xs) = Some (2 + row * length (x ∷ xs))

-- a verification type (JVMS 4.7.4): a tag, and for a class or an uninitialised object two bytes more
abbrev pub type_length : VType → ℕ
type_length (Ref ty) = 3
type_length (Uninit at) = 3
type_length _ = 1

-- a full frame: its tag, its delta, and locals and stack, each with a count
abbrev pub frame_length : ℕ × Frame → ℕ
frame_length row = 7 + sum_by type_length row.1.locals + sum_by type_length row.1.stack

-- StackMapTable: a count, and frames
abbrev pub frames_length : List (ℕ × Frame) → Option ℕ
frames_length [] = None
frames_length (row ∷ rows) = Some (2 + sum_by frame_length (row ∷ rows))

-- ---- code

-- an attribute that may be absent: the index of its name, its length, and its content
abbrev pub whole_length : Option ℕ → ℕ
whole_length None = 0
whole_length (Some content) = 6 + content

-- the content of Code (JVMS 4.7.3): the maxima, the code with its length, handlers and attributes with their counts;
-- a line (JVMS 4.7.12) has four bytes
unfoldable pub code_length : CodeDef → ℕ
code_length code =
    12 + code_size code + 8 * length code.handlers + whole_length (frames_length code.frames) + whole_length (table_length 4 code.lines)

-- a length
unfoldable pub length_of : ℕ → List ℕ
length_of n = n ∷ []

-- the length of an attribute that may be absent
unfoldable pub lengths_if : Option ℕ → List ℕ
lengths_if length = option_to_list length

-- Code, and in it StackMapTable and LineNumberTable
abbrev pub code_lengths : CodeDef → List ℕ
code_lengths code = length_of (code_length code) ++ lengths_if (frames_length code.frames) ++ lengths_if (table_length 4 code.lines)

-- ---- members and the class

-- ConstantValue (JVMS 4.7.2) and SourceFile (4.7.10): an index
abbrev pub index_length : {A : Type 0} → Option A → Option ℕ
index_length None = None
index_length (Some a) = Some 2

abbrev pub field_lengths : FieldDef → List ℕ
field_lengths field = lengths_if (index_length field.constant)

-- Code, then Exceptions (JVMS 4.7.5), with two bytes a class
abbrev pub method_lengths : MethodDef → List ℕ
method_lengths method = flat_map code_lengths (option_to_list method.code) ++ lengths_if (table_length 2 method.throws)

-- fields, methods, SourceFile, then InnerClasses (JVMS 4.7.6), with eight bytes a row
unfoldable pub class_lengths : ClassDef → List ℕ
class_lengths class =
    flat_map field_lengths class.fields
    ++ flat_map method_lengths class.methods
    ++ lengths_if (index_length class.source)
    ++ lengths_if (table_length 8 class.inner)
