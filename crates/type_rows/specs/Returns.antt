-- Returns (JVMS 4.10.1.9).
use Rattle.std.specs.Prelude.{not, is_none, List, Option, Some, None, Result, Ok, Err, if◌then◌else◌}
use Rattle.class_model.specs.declared.insn.Kind.{Kind}
use Rattle.class_model.specs.declared.types.JType.{JType}
use Rattle.class_model.specs.declared.class.VType.{VType}
use Rattle.class_set.specs.Assignable.{assignable, type_of, has_uninit_this}
use Rattle.type_rows.specs.declared.state.TypeState.{TypeState}
use Rattle.type_rows.specs.declared.rule.VerifyRule.{VerifyRule}
use Rattle.type_rows.specs.declared.rule.VerifyRule.TheVariants.{Operand, Init, Result as ResultRule}
use Rattle.type_rows.specs.Method.{Method}
use Rattle.type_rows.specs.State.{state, on_ok, need}
use Rattle.type_rows.specs.Operands.{Taken, is_kind, take_kind}

-- a return of nothing: the object of a constructor is initialised, and the method has no result
abbrev pub row_return_nothing : Method → TypeState → Result TypeState VerifyRule
row_return_nothing m s =
    need (not (has_uninit_this s.locals s.stack)) Init (need (is_none m.method.desc.result) ResultRule (Ok s))

-- a value of a kind goes to the result where that is of this kind; another kind is another rule
abbrev pub returned : Method → Kind → Option JType → Taken → List VType → Result TypeState VerifyRule
returned m kind None taken locals = Err ResultRule
returned m kind (Some result) taken locals =
    if is_kind kind (type_of result) then need (assignable m.set taken.ty (type_of result)) Operand (Ok (state locals taken.rest)) else Err ResultRule

abbrev pub row_return : Method → Option Kind → TypeState → Result TypeState VerifyRule
row_return m None s = row_return_nothing m s
row_return m (Some kind) s = on_ok (take_kind kind s.stack) (λ taken. returned m kind m.method.desc.result taken s.locals)
