-- Literals, casts and throws (JVMS 4.10.1.9).
use Rattle.std.specs.Prelude.{[], ◌∷◌, Result}
use Rattle.class_model.specs.declared.types.JType.{JType}
use Rattle.class_model.specs.declared.class.VType.TheVariants.{Int, Ref}
use Rattle.class_set.specs.Assignable.{class_type}
use Rattle.type_rows.specs.declared.state.TypeState.{TypeState}
use Rattle.type_rows.specs.declared.rule.VerifyRule.{VerifyRule}
use Rattle.type_rows.specs.Method.{Method, string_name, throwable_name}
use Rattle.type_rows.specs.Operands.{push, takes, turns}
use Rattle.type_rows.specs.Arrays.{object_type}

abbrev pub row_push_string : Method → TypeState → Result TypeState VerifyRule
row_push_string m s = push m (Ref (class_type string_name)) s.locals s.stack

abbrev pub row_throw : Method → TypeState → Result TypeState VerifyRule
row_throw m s = takes m (Ref (class_type throwable_name) ∷ []) s

abbrev pub row_cast : Method → JType → TypeState → Result TypeState VerifyRule
row_cast m ty s = turns m (Ref object_type ∷ []) (Ref ty) s

abbrev pub row_instance_of : Method → TypeState → Result TypeState VerifyRule
row_instance_of m s = turns m (Ref object_type ∷ []) Int s
