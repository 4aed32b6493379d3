-- Fields (JVMS 4.10.1.9). Access and protected members are no question here.
use Rattle.std.specs.Prelude.{ℕ, ◌==◌, Bool, false, List, [], ◌∷◌, Option, Some, None, Result, Ok, Err}
use Rattle.class_model.specs.declared.types.FieldRef.{FieldRef}
use Rattle.class_model.specs.declared.class.VType.{VType}
use Rattle.class_model.specs.declared.class.VType.TheVariants.{Top, Int, Long, Null, UninitThis, Ref, Uninit}
use Rattle.set_lookups.specs.Lookups.{Member, resolve_field}
use Rattle.class_set.specs.Assignable.{assignable, class_type, type_of}
use Rattle.type_rows.specs.declared.state.TypeState.{TypeState}
use Rattle.type_rows.specs.declared.rule.VerifyRule.{VerifyRule}
use Rattle.type_rows.specs.declared.rule.VerifyRule.TheVariants.{Operand}
use Rattle.type_rows.specs.Method.{Method}
use Rattle.type_rows.specs.State.{state, on_ok, need}
use Rattle.type_rows.specs.Operands.{push, pop, takes, turns}

abbrev pub row_get_static : Method → FieldRef → TypeState → Result TypeState VerifyRule
row_get_static m field s = push m (type_of field.ty) s.locals s.stack

abbrev pub row_put_static : Method → FieldRef → TypeState → Result TypeState VerifyRule
row_put_static m field s = takes m (type_of field.ty ∷ []) s

abbrev pub row_get_field : Method → FieldRef → TypeState → Result TypeState VerifyRule
row_get_field m field s = turns m (Ref (class_type field.class) ∷ []) (type_of field.ty) s

abbrev pub is_member_of : ℕ → Option Member → Bool
is_member_of number None = false
is_member_of number (Some member) = member.class == number

-- the class of the method declares the field that is named
abbrev pub declares_field : Method → FieldRef → Bool
declares_field m field = is_member_of m.number (resolve_field m.set field)

-- the object of a put: one that is not initialised has only the fields that the class of its constructor declares
abbrev pub has_field : Method → FieldRef → VType → Bool
has_field m field UninitThis = declares_field m field
has_field m field Top = false
has_field m field Int = false
has_field m field Long = false
has_field m field Null = assignable m.set Null (Ref (class_type field.class))
has_field m field (Ref ty) = assignable m.set (Ref ty) (Ref (class_type field.class))
has_field m field (Uninit at) = false

abbrev pub into_field : Method → FieldRef → List VType → List VType → Result TypeState VerifyRule
into_field m field locals [] = Err Operand
into_field m field locals (ty ∷ stack) = need (has_field m field ty) Operand (Ok (state locals stack))

abbrev pub row_put_field : Method → FieldRef → TypeState → Result TypeState VerifyRule
row_put_field m field s = on_ok (pop m (type_of field.ty) s.stack) (λ rest. into_field m field s.locals rest)
