-- Arrays (JVMS 4.10.1.9).
use Rattle.std.specs.Prelude.{ℕ, zero, suc, ◌+◌, ◌-◌, ◌==◌, nat_le, not, Bool, true, false, List, [], ◌∷◌, replicate, Result, Ok, Err}
use Rattle.class_model.specs.declared.types.Primitive.{Primitive}
use Rattle.class_model.specs.declared.types.Primitive.TheVariants as primitives
use Rattle.class_model.specs.declared.types.BaseType.{BaseType}
use Rattle.class_model.specs.declared.types.BaseType.TheVariants as bases
use Rattle.class_model.specs.declared.types.JType.{JType}
use Rattle.class_model.specs.declared.insn.Elem.{Elem}
use Rattle.class_model.specs.declared.insn.Elem.TheVariants as elems
use Rattle.class_model.specs.declared.class.VType.{VType}
use Rattle.class_model.specs.declared.class.VType.TheVariants.{Top, Int, Long, Null, UninitThis, Ref, Uninit}
use Rattle.set_lookups.specs.Lookups.{object_name}
use Rattle.class_set.specs.Assignable.{class_type}
use Rattle.type_rows.specs.declared.state.TypeState.{TypeState}
use Rattle.type_rows.specs.declared.rule.VerifyRule.{VerifyRule}
use Rattle.type_rows.specs.declared.rule.VerifyRule.TheVariants.{Operand}
use Rattle.type_rows.specs.Method.{Method}
use Rattle.type_rows.specs.State.{state, on_ok, need}
use Rattle.type_rows.specs.Operands.{push, pop, pops, turns}

-- an array instruction is for arrays of the primitive; that of bytes serves booleans too
abbrev pub is_for : Elem → Primitive → Bool
is_for elems.Int primitives.Int = true
is_for elems.Long primitives.Long = true
is_for elems.Byte primitives.Byte = true
is_for elems.Byte primitives.Boolean = true
is_for elems.Char primitives.Char = true
is_for elems.Short primitives.Short = true
is_for _ _ = false

abbrev pub is_for_references : Elem → Bool
is_for_references elems.Ref = true
is_for_references _ = false

-- an array instruction is for an array of so many dimensions
abbrev pub takes_array : Elem → ℕ → BaseType → Bool
takes_array elem zero base = false
takes_array elem (suc zero) (bases.Primitive primitive) = is_for elem primitive
takes_array elem (suc zero) (bases.Class name) = is_for_references elem
takes_array elem (suc (suc depth)) base = is_for_references elem

-- an array instruction is for this type; null is every array
abbrev pub is_array_for : Elem → VType → Bool
is_array_for elem Null = true
is_array_for elem (Ref ty) = takes_array elem ty.depth ty.base
is_array_for elem Top = false
is_array_for elem Int = false
is_array_for elem Long = false
is_array_for elem UninitThis = false
is_array_for elem (Uninit at) = false

-- the element of an array of references
abbrev pub reference_in : VType → VType
reference_in (Ref ty) = Ref (record ty { depth = ty.depth - 1 })
reference_in Null = Null
reference_in Top = Null
reference_in Int = Null
reference_in Long = Null
reference_in UninitThis = Null
reference_in (Uninit at) = Null

-- what is in an array
abbrev pub element : Elem → VType → VType
element elems.Int array = Int
element elems.Long array = Long
element elems.Byte array = Int
element elems.Char array = Int
element elems.Short array = Int
element elems.Ref array = reference_in array

abbrev pub object_type : JType
object_type = class_type object_name

-- what is stored into an array: any reference where it is one of references, since the array's own class is looked at when it is done
abbrev pub stored_element : Elem → VType
stored_element elems.Int = Int
stored_element elems.Long = Long
stored_element elems.Byte = Int
stored_element elems.Char = Int
stored_element elems.Short = Int
stored_element elems.Ref = Ref object_type

abbrev pub from_array : Method → Elem → List VType → List VType → Result TypeState VerifyRule
from_array m elem locals [] = Err Operand
from_array m elem locals (ty ∷ stack) = need (is_array_for elem ty) Operand (push m (element elem ty) locals stack)

abbrev pub row_array_load : Method → Elem → TypeState → Result TypeState VerifyRule
row_array_load m elem s = on_ok (pop m Int s.stack) (λ rest. from_array m elem s.locals rest)

abbrev pub into_array : Elem → List VType → List VType → Result TypeState VerifyRule
into_array elem locals [] = Err Operand
into_array elem locals (ty ∷ stack) = need (is_array_for elem ty) Operand (Ok (state locals stack))

abbrev pub row_array_store : Method → Elem → TypeState → Result TypeState VerifyRule
row_array_store m elem s =
    on_ok (pops m (stored_element elem ∷ Int ∷ []) s.stack) (λ rest. into_array elem s.locals rest)

abbrev pub is_array : VType → Bool
is_array Null = true
is_array (Ref ty) = not (ty.depth == 0)
is_array Top = false
is_array Int = false
is_array Long = false
is_array UninitThis = false
is_array (Uninit at) = false

abbrev pub length_of : Method → List VType → List VType → Result TypeState VerifyRule
length_of m locals [] = Err Operand
length_of m locals (ty ∷ stack) = need (is_array ty) Operand (push m Int locals stack)

abbrev pub row_array_length : Method → TypeState → Result TypeState VerifyRule
row_array_length m s = length_of m s.locals s.stack

abbrev pub array_of_primitive : Primitive → JType
array_of_primitive primitive = record { depth = 1; base = bases.Primitive primitive }

abbrev pub row_new_array : Method → Primitive → TypeState → Result TypeState VerifyRule
row_new_array m primitive s = turns m (Int ∷ []) (Ref (array_of_primitive primitive)) s

abbrev pub array_of : JType → JType
array_of ty = record ty { depth = ty.depth + 1 }

abbrev pub row_a_new_array : Method → JType → TypeState → Result TypeState VerifyRule
row_a_new_array m ty s = need (nat_le ty.depth 254) Operand (turns m (Int ∷ []) (Ref (array_of ty)) s)

abbrev pub row_multi_new_array : Method → JType → ℕ → TypeState → Result TypeState VerifyRule
row_multi_new_array m ty dimensions s =
    need (nat_le dimensions ty.depth) Operand (on_ok (pops m (replicate dimensions Int) s.stack) (λ rest. push m (Ref ty) s.locals rest))
