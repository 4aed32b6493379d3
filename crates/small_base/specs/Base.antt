-- The small base: the classes that stand beside those of a folder without a `java/lang/Object` of its own. This project's own.
use Rattle.std.specs.Prelude.{ℕ, List, [], ◌∷◌, ◌++◌, map, Option, Some, None, codes}
use Rattle.lists.specs.Texts.{units_of}
use Rattle.class_model.specs.declared.class.FieldDef.{FieldDef}
use Rattle.class_model.specs.declared.class.MethodDef.{MethodDef}
use Rattle.class_model.specs.declared.class.ClassDef.{ClassDef}
use Rattle.small_base.specs.Members.{object_name, string_name, native_name, gives_int, takes_int, takes_arrays, native_method, object_init, super_init, value_field}

-- a class of major 52 with these members
abbrev pub class_with : (flags : ℕ) → (name : List ℕ) → Option (List ℕ) → List FieldDef → List MethodDef → ClassDef
class_with flags name super_name fields methods = record {
  minor = 0;
  major = 52;
  flags = flags;
  name = name;
  super_name = super_name;
  interfaces = [];
  fields = fields;
  methods = methods;
  source = None;
  inner = [];
}

-- java/lang/Object, with its constructor alone
abbrev pub object_class : ClassDef
object_class = class_with 0x0021 object_name None [] (object_init ∷ [])

-- java/lang/String, which is final, with its characters alone
abbrev pub string_class : ClassDef
string_class = class_with 0x0031 string_name (Some object_name) (value_field ∷ []) []

-- java/lang/System: arraycopy(Object, int, Object, int, int)
abbrev pub system_class : ClassDef
system_class = class_with 0x0021 (units_of (codes "java/lang/System")) (Some object_name) [] (native_method (units_of (codes "arraycopy")) takes_arrays ∷ [])

abbrev pub native_methods : List MethodDef
native_methods = native_method (units_of (codes "read")) gives_int ∷ native_method (units_of (codes "write")) takes_int ∷ native_method (units_of (codes "exit")) takes_int ∷ []

-- sys/Native: read()I, write(I)V and exit(I)V
abbrev pub native_class : ClassDef
native_class = class_with 0x0021 native_name (Some object_name) [] native_methods

-- a class below java/lang/Throwable, or that class itself: its constructor calls the one of its superclass
abbrev pub thrown_class : (name above : List ℕ) → ClassDef
thrown_class name above = class_with 0x0021 name (Some above) [] (super_init above ∷ [])

abbrev pub throwable_name : List ℕ
throwable_name = units_of (codes "java/lang/Throwable")

abbrev pub exception_name : List ℕ
exception_name = units_of (codes "java/lang/Exception")

abbrev pub runtime_exception_name : List ℕ
runtime_exception_name = units_of (codes "java/lang/RuntimeException")

abbrev pub error_name : List ℕ
error_name = units_of (codes "java/lang/Error")

abbrev pub linkage_error_name : List ℕ
linkage_error_name = units_of (codes "java/lang/LinkageError")

abbrev pub illegal_argument_name : List ℕ
illegal_argument_name = units_of (codes "java/lang/IllegalArgumentException")

abbrev pub out_of_bounds_name : List ℕ
out_of_bounds_name = units_of (codes "java/lang/IndexOutOfBoundsException")

-- the classes before java/lang/Object, in the order of their names
abbrev pub first_classes : List ClassDef
first_classes =
    thrown_class (units_of (codes "java/io/IOException")) exception_name
    ∷ thrown_class (units_of (codes "java/lang/ArithmeticException")) runtime_exception_name
    ∷ thrown_class (units_of (codes "java/lang/ArrayIndexOutOfBoundsException")) out_of_bounds_name
    ∷ thrown_class (units_of (codes "java/lang/ArrayStoreException")) runtime_exception_name
    ∷ thrown_class (units_of (codes "java/lang/ClassCastException")) runtime_exception_name
    ∷ thrown_class error_name throwable_name
    ∷ thrown_class exception_name throwable_name
    ∷ thrown_class illegal_argument_name runtime_exception_name
    ∷ thrown_class (units_of (codes "java/lang/IllegalStateException")) runtime_exception_name
    ∷ thrown_class (units_of (codes "java/lang/IncompatibleClassChangeError")) linkage_error_name
    ∷ thrown_class out_of_bounds_name runtime_exception_name
    ∷ thrown_class linkage_error_name error_name
    ∷ thrown_class (units_of (codes "java/lang/NegativeArraySizeException")) runtime_exception_name
    ∷ thrown_class (units_of (codes "java/lang/NullPointerException")) runtime_exception_name
    ∷ thrown_class (units_of (codes "java/lang/NumberFormatException")) illegal_argument_name
    ∷ []

-- the small base, in the order of its names
unfoldable pub small_base : List ClassDef
small_base =
    first_classes ++ object_class
    ∷ thrown_class runtime_exception_name exception_name
    ∷ string_class
    ∷ system_class
    ∷ thrown_class throwable_name object_name
    ∷ native_class
    ∷ []

-- their names
abbrev pub base_names : List (List ℕ)
base_names = map (λ class. class.name) small_base
