-- The operations on stack words (JVMS 4.10.1.9), each row for all its forms: a block is so many words from the top, and no long is cut.
use Rattle.std.specs.Prelude.{not, List, [], ◌∷◌, ◌++◌, Result, Ok, Err, if◌then◌else◌}
use Rattle.class_model.specs.declared.insn.StackOp.{StackOp}
use Rattle.class_model.specs.declared.insn.StackOp.TheVariants.{Pop, Pop2, Dup, DupX1, DupX2, Dup2, Dup2X1, Dup2X2, Swap}
use Rattle.class_model.specs.declared.class.VType.{VType}
use Rattle.class_set.specs.Assignable.{is_long}
use Rattle.type_rows.specs.declared.blocks.Words.{Words}
use Rattle.type_rows.specs.declared.blocks.Words.TheVariants.{One, Two}
use Rattle.type_rows.specs.declared.state.TypeState.{TypeState}
use Rattle.type_rows.specs.declared.rule.VerifyRule.{VerifyRule}
use Rattle.type_rows.specs.declared.rule.VerifyRule.TheVariants.{Operand}
use Rattle.type_rows.specs.Method.{Method}
use Rattle.type_rows.specs.State.{state, on_ok, need}
use Rattle.type_rows.specs.Operands.{room}

-- operands from the top, and those below them
pub record Split : Type 0 where
  pub block : List VType
  pub rest : List VType

abbrev pub with_top : VType → Split → Split
with_top ty split = record { block = ty ∷ split.block; rest = split.rest }

-- one word: an operand that is no long
abbrev pub one_word : List VType → Result Split VerifyRule
one_word [] = Err Operand
one_word (ty ∷ stack) = need (not (is_long ty)) Operand (Ok (record { block = ty ∷ []; rest = stack }))

-- two words: a long, or two operands of one word
abbrev pub two_words : List VType → Result Split VerifyRule
two_words [] = Err Operand
two_words (ty ∷ stack) =
    if is_long ty then Ok (record { block = ty ∷ []; rest = stack }) else on_ok (one_word stack) (λ split. Ok (with_top ty split))

-- so many words, at most two
abbrev pub words : Words → List VType → Result Split VerifyRule
words One stack = one_word stack
words Two stack = two_words stack

abbrev pub dropped : Words → List VType → Result (List VType) VerifyRule
dropped size stack = on_ok (words size stack) (λ top. Ok top.rest)

-- the topmost words once more
abbrev pub copied : Words → List VType → Result (List VType) VerifyRule
copied size stack = on_ok (words size stack) (λ top. Ok (top.block ++ (top.block ++ top.rest)))

-- the topmost words once more, under those below them
abbrev pub copied_under : Words → Words → List VType → Result (List VType) VerifyRule
copied_under size under stack =
    on_ok (words size stack) (λ top. on_ok (words under top.rest) (λ below. Ok (top.block ++ (below.block ++ (top.block ++ below.rest)))))

abbrev pub swapped : List VType → Result (List VType) VerifyRule
swapped stack =
    on_ok (one_word stack) (λ top. on_ok (one_word top.rest) (λ below. Ok (below.block ++ (top.block ++ below.rest))))

abbrev pub moved : StackOp → List VType → Result (List VType) VerifyRule
moved Pop stack = dropped One stack
moved Pop2 stack = dropped Two stack
moved Dup stack = copied One stack
moved DupX1 stack = copied_under One One stack
moved DupX2 stack = copied_under One Two stack
moved Dup2 stack = copied Two stack
moved Dup2X1 stack = copied_under Two One stack
moved Dup2X2 stack = copied_under Two Two stack
moved Swap stack = swapped stack

abbrev pub row_stack : Method → StackOp → TypeState → Result TypeState VerifyRule
row_stack m op s = on_ok (moved op s.stack) (λ stack. room m (state s.locals stack))
