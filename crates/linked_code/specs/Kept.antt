-- What a narrowing keeps of an int, whether a number is in a list, and of which numbers an array is.
use Rattle.std.specs.Prelude.{ℕ, ℤ, ◌==◌, Bool, true, false, List, [], ◌∷◌, Option, Some, None, if◌then◌else◌}
use Rattle.class_model.specs.declared.types.Primitive.{Primitive}
use Rattle.class_model.specs.declared.types.BaseType.{BaseType}
use Rattle.class_model.specs.declared.types.BaseType.TheVariants as base
use Rattle.class_model.specs.declared.types.JType.{JType}
use Rattle.run_state.specs.Numbers.{as_byte, as_char, as_short, as_boolean}
use Rattle.linked_code.specs.declared.program.Narrowing.{Narrowing}
use Rattle.linked_code.specs.declared.program.Narrowing.TheVariants as narrowing

abbrev pub kept_by : Narrowing → ℤ → ℤ
kept_by narrowing.Whole v = v
kept_by narrowing.Byte v = as_byte v
kept_by narrowing.Char v = as_char v
kept_by narrowing.Short v = as_short v
kept_by narrowing.Boolean v = as_boolean v

abbrev pub is_among : List ℕ → ℕ → Bool
is_among [] b = false
is_among (a ∷ rest) b = if a == b then true else is_among rest b

abbrev pub primitive_of : BaseType → Option Primitive
primitive_of (base.Primitive p) = Some p
primitive_of (base.Class name) = None

abbrev pub numbers_of : JType → Option Primitive
numbers_of ty = if ty.depth == 1 then primitive_of ty.base else None
