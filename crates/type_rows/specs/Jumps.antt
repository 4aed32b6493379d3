-- Where an instruction goes on (JVMS 4.10.1.9), and the branches' rows.
use Rattle.std.specs.Prelude.{ℕ, ℤ, Bool, true, false, List, [], ◌∷◌, map, Result, Ok}
use Rattle.class_model.specs.declared.insn.Kind.TheVariants as kinds
use Rattle.class_model.specs.declared.insn.Insn.{Insn}
use Rattle.class_model.specs.declared.insn.Insn.TheVariants.{If, IfInt, IfRef, IfNull, Goto, TableSwitch, LookupSwitch, Return, Athrow}
use Rattle.type_rows.specs.declared.state.TypeState.{TypeState}
use Rattle.type_rows.specs.declared.rule.VerifyRule.{VerifyRule}
use Rattle.type_rows.specs.State.{state, on_ok}
use Rattle.type_rows.specs.Operands.{take_kind}

abbrev pub row_of_reference : TypeState → Result TypeState VerifyRule
row_of_reference s = on_ok (take_kind kinds.Ref s.stack) (λ taken. Ok (state s.locals taken.rest))

abbrev pub row_of_references : TypeState → Result TypeState VerifyRule
row_of_references s = on_ok (row_of_reference s) (λ t. row_of_reference t)

abbrev pub target_of : ℤ × ℕ → ℕ
target_of row = row.1

-- the instructions that an instruction can go on to, the next one aside
unfoldable pub targets : Insn → List ℕ
targets (If cond target) = target ∷ []
targets (IfInt cond target) = target ∷ []
targets (IfRef same target) = target ∷ []
targets (IfNull null target) = target ∷ []
targets (Goto target) = target ∷ []
targets (TableSwitch low default table) = default ∷ table
targets (LookupSwitch default rows) = default ∷ map target_of rows
targets _ = []

-- an instruction goes on to the next one
unfoldable pub falls : Insn → Bool
falls (Goto target) = false
falls (TableSwitch low default table) = false
falls (LookupSwitch default rows) = false
falls (Return kind) = false
falls Athrow = false
falls _ = true
