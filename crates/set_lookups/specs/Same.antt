-- When two types, or two descriptors, are the same.
use Rattle.std.specs.Prelude.{◌==◌, ◌&&◌, Bool, true, false, Option, Some, None}
use Rattle.std.specs.Cmp.Lexicographic.{pointwise}
use Rattle.class_model.specs.declared.types.BaseType.{BaseType}
use Rattle.class_model.specs.declared.types.BaseType.TheVariants as bases
use Rattle.class_model.specs.declared.types.JType.{JType}
use Rattle.class_model.specs.declared.types.MethodDesc.{MethodDesc}
use Rattle.class_model.specs.Descriptor.{letter_of}
use Rattle.set_lookups.specs.Above.{same_name}

abbrev pub same_base : BaseType → BaseType → Bool
same_base (bases.Primitive primitive) (bases.Primitive other) = letter_of primitive == letter_of other
same_base (bases.Class name) (bases.Class other) = same_name name other
same_base (bases.Primitive primitive) (bases.Class other) = false
same_base (bases.Class name) (bases.Primitive other) = false

abbrev pub same_type : JType → JType → Bool
same_type ty other = (ty.depth == other.depth) && same_base ty.base other.base

abbrev pub same_result : Option JType → Option JType → Bool
same_result None None = true
same_result (Some ty) (Some other) = same_type ty other
same_result None (Some other) = false
same_result (Some ty) None = false

abbrev pub same_desc : MethodDesc → MethodDesc → Bool
same_desc desc other = pointwise same_type desc.params other.params && same_result desc.result other.result
