-- The methods of a set.
use Rattle.std.specs.Prelude.{◌≤◌, ℕ, List, length, Option, IfSome, All, slice_get, option_map, option_and_then}
use Rattle.class_model.specs.declared.class.Frame.{Frame}
use Rattle.std.specs.List.Sorted.{IsNonDecreasingBy}
use Rattle.class_model.specs.declared.class.ClassDef.{ClassDef}
use Rattle.class_model.specs.declared.class.MethodDef.{MethodDef}
use Rattle.class_model.specs.declared.class.CodeDef.{CodeDef}
use Rattle.set_lookups.specs.declared.ids.MethodId.{MethodId}
use Rattle.type_rows.specs.Method.{Method}

abbrev pub with_code : List ClassDef → ℕ → ClassDef → MethodDef → CodeDef → Method
with_code set number class method code = record { set = set; number = number; class = class; method = method; code = code }

abbrev pub method_in : List ClassDef → ℕ → ClassDef → MethodDef → Option Method
method_in set number class method = option_map (with_code set number class method) method.code

abbrev pub method_from : List ClassDef → MethodId → ClassDef → Option Method
method_from set id class = option_and_then (method_in set id.class class) (slice_get class.methods id.index)

-- the method of a number, with its code, if it is there and has code
abbrev pub method_of : List ClassDef → MethodId → Option Method
method_of set id = option_and_then (method_from set id) (slice_get set id.class)

abbrev pub place_of : ℕ × Frame → ℕ
place_of row = row.0

-- what the check asks of code: few instructions, and frames in the order of their instructions
pub record IsCheckable (code : CodeDef) : Type 0 where
  pub counted : length code.insns ≤ 65535
  pub ordered : IsNonDecreasingBy place_of code.frames

-- what the check asks of a class: few methods, each with such code
pub record IsCheckableClass (class : ClassDef) : Type 0 where
  pub methods : length class.methods ≤ 65535
  pub codes : All (λ method. IfSome method.code IsCheckable) class.methods

-- what the check asks of a set
pub record IsCheckableSet (set : List ClassDef) : Type 0 where
  pub classes : length set ≤ 1001000
  pub each : All IsCheckableClass set
