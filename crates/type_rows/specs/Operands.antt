-- Operands that are taken and given (JVMS 4.10.1.4).
use Rattle.std.specs.Prelude.{nat_le, Bool, true, false, List, [], ◌∷◌, Option, Some, None, Result, Ok, Err, sum_by}
use Rattle.class_model.specs.declared.insn.Kind.{Kind}
use Rattle.class_model.specs.declared.insn.Kind.TheVariants as kinds
use Rattle.class_model.specs.declared.types.JType.{JType}
use Rattle.class_model.specs.declared.class.VType.{VType}
use Rattle.class_model.specs.declared.class.VType.TheVariants.{Top, Int, Long, Null, UninitThis, Ref, Uninit}
use Rattle.class_set.specs.Assignable.{assignable, type_of, width, is_int, is_long}
use Rattle.type_rows.specs.declared.state.TypeState.{TypeState}
use Rattle.type_rows.specs.declared.rule.VerifyRule.{VerifyRule}
use Rattle.type_rows.specs.declared.rule.VerifyRule.TheVariants.{Operand, Room}
use Rattle.type_rows.specs.Method.{Method}
use Rattle.type_rows.specs.State.{state, on_ok, need}

-- room: the words of the operands are at most `max_stack`
abbrev pub room : Method → TypeState → Result TypeState VerifyRule
room m s = need (nat_le (sum_by width s.stack) m.code.max_stack) Room (Ok s)

-- an operand is given
abbrev pub push : Method → VType → List VType → List VType → Result TypeState VerifyRule
push m ty locals stack = room m (state locals (ty ∷ stack))

-- the topmost operand is taken, which goes to the type that is wanted
abbrev pub pop : Method → VType → List VType → Result (List VType) VerifyRule
pop m wanted [] = Err Operand
pop m wanted (ty ∷ stack) = need (assignable m.set ty wanted) Operand (Ok stack)

-- several are taken, the topmost first
abbrev pub pops : Method → List VType → List VType → Result (List VType) VerifyRule
pops m [] stack = Ok stack
pops m (wanted ∷ more) stack = on_ok (pop m wanted stack) (λ rest. pops m more rest)

-- operands are taken
abbrev pub takes : Method → List VType → TypeState → Result TypeState VerifyRule
takes m wanted s = on_ok (pops m wanted s.stack) (λ rest. Ok (state s.locals rest))

-- operands are taken, and one is given
abbrev pub turns : Method → List VType → VType → TypeState → Result TypeState VerifyRule
turns m wanted ty s = on_ok (pops m wanted s.stack) (λ rest. push m ty s.locals rest)

-- the result of a call is given, where there is one
abbrev pub gives : Method → Option JType → List VType → List VType → Result TypeState VerifyRule
gives m None locals stack = Ok (state locals stack)
gives m (Some ty) locals stack = push m (type_of ty) locals stack

-- a reference, also of an object that is not initialised
abbrev pub is_reference : VType → Bool
is_reference Null = true
is_reference UninitThis = true
is_reference (Ref ty) = true
is_reference (Uninit at) = true
is_reference Top = false
is_reference Int = false
is_reference Long = false

-- what an instruction of that kind moves
abbrev pub is_kind : Kind → VType → Bool
is_kind kinds.Int ty = is_int ty
is_kind kinds.Long ty = is_long ty
is_kind kinds.Ref ty = is_reference ty

-- an operand, and those below it
pub record Taken : Type 0 where
  pub ty : VType
  pub rest : List VType

-- the topmost operand is taken, which is of the kind
abbrev pub take_kind : Kind → List VType → Result Taken VerifyRule
take_kind kind [] = Err Operand
take_kind kind (ty ∷ stack) = need (is_kind kind ty) Operand (Ok (record { ty = ty; rest = stack }))
