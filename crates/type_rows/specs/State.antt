-- The types at an instruction, and rules that hold or fail one after another.
use Rattle.std.specs.Prelude.{Bool, true, false, List, Result, Ok, Err}
use Rattle.class_model.specs.declared.class.VType.{VType}
use Rattle.type_rows.specs.declared.state.TypeState.{TypeState}
use Rattle.type_rows.specs.declared.rule.VerifyRule.{VerifyRule}

-- the locals word by word, as many as `max_locals`, and the operands, the topmost first
abbrev pub state : List VType → List VType → TypeState
state locals stack = record { locals = locals; stack = stack }

-- on, where the first went well
abbrev pub on_ok : {A B : Type 0} → Result A VerifyRule → (A → Result B VerifyRule) → Result B VerifyRule
on_ok (Ok a) go = go a
on_ok (Err rule) go = Err rule

-- the rule fails where the test does
abbrev pub need : {A : Type 0} → Bool → VerifyRule → Result A VerifyRule → Result A VerifyRule
need true rule go = go
need false rule go = Err rule
