-- The profile: which classes Phosphor takes, and what is told of another. This project's own.
use Rattle.std.specs.Prelude.{◌≡◌, ◌≤◌, ℕ, List, [], ◌∷◌, ◌++◌, length, All, IfSome, Option, Some, None}
use Rattle.class_model.specs.declared.class.CodeDef.{CodeDef}
use Rattle.class_model.specs.declared.class.MethodDef.{MethodDef}
use Rattle.class_model.specs.declared.class.ClassDef.{ClassDef}
use Rattle.profile_check.specs.declared.profile.Names.{Names}
use Rattle.profile_check.specs.declared.profile.OutOfProfile.{OutOfProfile}
use Rattle.profile_check.specs.First.{first}
use Rattle.profile_check.specs.Rows.{version_row, class_flags_row, field_flags_row, method_flags_row, float_type_row, bad_name_row, reserved_row, code_shape_row, native_row, interface_method_row, initializer_row, constant_row, twice_row, params_row, super_row, out_name_row, array_member_row}

abbrev pub Row : Type 0
Row = ClassDef → Option OutOfProfile

abbrev pub flag_rows : List Row
flag_rows = version_row ∷ class_flags_row ∷ field_flags_row ∷ method_flags_row ∷ []

abbrev pub name_rows : Names → List Row
name_rows names = float_type_row ∷ bad_name_row ∷ reserved_row names ∷ []

abbrev pub method_rows : Names → List Row
method_rows names = code_shape_row ∷ native_row names ∷ interface_method_row ∷ initializer_row ∷ []

abbrev pub last_rows : List Row
last_rows = constant_row ∷ twice_row ∷ params_row ∷ super_row ∷ out_name_row ∷ array_member_row ∷ []

-- the rows, in the order in which they are judged
abbrev pub rows : Names → List Row
rows names = flag_rows ++ (name_rows names ++ (method_rows names ++ last_rows))

-- what a row answers of a class
abbrev pub answer : ClassDef → Row → Option OutOfProfile
answer class row = row class

-- no row refuses the class
abbrev pub Profile : Names → ClassDef → Type 0
Profile names class = All (λ row. row class ≡ None) (rows names)

-- the first row that refuses the class, with the first place that it refuses
abbrev pub FirstProfile : Names → ClassDef → OutOfProfile → Type 0
FirstProfile names class fault = first (answer class) (rows names) ≡ Some fault

-- the counts that the code of a class file can have
pub record IsCodeCounted (code : CodeDef) : Type 0 where
  pub insns : length code.insns ≤ 65535
  pub handlers : length code.handlers ≤ 65535

-- the counts that a class file can have, by which places are numbered
pub record IsCounted (class : ClassDef) : Type 0 where
  pub interfaces : length class.interfaces ≤ 65535
  pub fields : length class.fields ≤ 65535
  pub methods : length class.methods ≤ 65535
  pub codes : All (λ method. IfSome method.code IsCodeCounted) class.methods
