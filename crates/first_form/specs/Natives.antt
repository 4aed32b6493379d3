-- The natives that straight-line code calls, with their names and descriptors. These are this project's own.
use Rattle.std.specs.Prelude.{ℕ, false, List, [], ◌∷◌, None, codes}
use Rattle.lists.specs.Texts.{units_of}
use Rattle.class_model.specs.declared.types.MethodDesc.{MethodDesc}
use Rattle.class_model.specs.declared.types.MethodRef.{MethodRef}
use Rattle.small_base.specs.Members.{int_type, native_name, gives_int, takes_int, class_type}
use Rattle.first_form.specs.declared.natives.Native.{Native}
use Rattle.first_form.specs.declared.natives.Native.TheVariants.{Read, Write, Report}

abbrev pub report_name : List ℕ
report_name = units_of (codes "phosphor/Report")

-- the descriptor (III)V
abbrev pub takes_three : MethodDesc
takes_three = record { params = int_type ∷ int_type ∷ int_type ∷ []; result = None }

abbrev pub class_of : Native → List ℕ
class_of Read = native_name
class_of Write = native_name
class_of Report = report_name

abbrev pub name_of : Native → List ℕ
name_of Read = units_of (codes "read")
name_of Write = units_of (codes "write")
name_of Report = units_of (codes "tag")

abbrev pub desc_of : Native → MethodDesc
desc_of Read = gives_int
desc_of Write = takes_int
desc_of Report = takes_three

-- the reference by which code calls a native: `sys/Native.read()I`, `sys/Native.write(I)V`, `phosphor/Report.tag(III)V`
abbrev pub ref_of : Native → MethodRef
ref_of native = record {
  class = class_type (class_of native);
  name = name_of native;
  desc = desc_of native;
  in_interface = false;
}
