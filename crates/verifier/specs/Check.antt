-- The check of an instruction: the rules in their order. Of the rules on the instruction itself those on objects that are not initialised
-- and on results stand behind that on branches; no instruction that branches has them.
use Rattle.std.specs.Prelude.{ℕ, ◌+◌, ◌==◌, ◌&&◌, ◌||◌, not, nat_le, nat_lt, Bool, true, false, List, [], ◌∷◌, length, Option, Some, None, Result, Ok, Err, if◌then◌else◌}
use Rattle.class_model.specs.declared.insn.Insn.{Insn}
use Rattle.class_model.specs.declared.class.VType.{VType}
use Rattle.class_model.specs.declared.class.VType.TheVariants.{Ref}
use Rattle.class_model.specs.declared.class.Handler.{Handler}
use Rattle.class_model.specs.declared.class.Frame.{Frame}
use Rattle.class_set.specs.Assignable.{assignable, class_type, in_words, words_go, has_uninit_this}
use Rattle.type_rows.specs.declared.state.TypeState.{TypeState}
use Rattle.type_rows.specs.declared.rule.VerifyRule.{VerifyRule}
use Rattle.type_rows.specs.declared.rule.VerifyRule.TheVariants.{NoFrame, Merge, Shape, Handler as HandlerRule, Branch, End}
use Rattle.type_rows.specs.Method.{Method, throwable_name}
use Rattle.type_rows.specs.State.{on_ok, need}
use Rattle.type_rows.specs.Jumps.{targets, falls}
use Rattle.type_rows.specs.Rows.{row}
use Rattle.verifier.specs.declared.typing.Typing.{Typing}
use Rattle.verifier.specs.Frames.{declared_at, types_of, frame_of, goes, is_shaped}
use Rattle.verifier.specs.First.{first_fits}

-- at instruction 0 the first frame fits too
abbrev pub is_start_shaped : Method → ℕ → Bool
is_start_shaped m at = not (at == 0) || first_fits m

-- what falls in goes to the frame that is declared
abbrev pub merges : Method → Option TypeState → Frame → Bool
merges m None frame = true
merges m (Some s) frame = goes m s frame

-- the types at an instruction to which `came` falls in, and where a frame may be declared
abbrev pub enter : Method → ℕ → Option TypeState → Option Frame → Result TypeState VerifyRule
enter m at None None = Err NoFrame
enter m at (Some s) None = need (is_start_shaped m at) Shape (Ok s)
enter m at came (Some frame) =
    need (merges m came frame) Merge (need (is_shaped m frame && is_start_shaped m at) Shape (Ok (types_of m frame)))

abbrev pub caught_name : Option (List ℕ) → List ℕ
caught_name None = throwable_name
caught_name (Some name) = name

abbrev pub caught_type : Handler → VType
caught_type handler = Ref (class_type (caught_name handler.caught))

-- what is caught is a Throwable and goes to the one entry of a stack
abbrev pub is_caught : Method → VType → List VType → Bool
is_caught m caught [] = false
is_caught m caught (ty ∷ []) = assignable m.set caught ty && assignable m.set caught (Ref (class_type throwable_name))
is_caught m caught (ty ∷ other ∷ stack) = false

-- a handler takes what is thrown at an instruction: its frame is there, no object is left that is not initialised, and the locals go on
abbrev pub is_handled : Method → TypeState → Handler → Option Frame → Bool
is_handled m s handler None = false
is_handled m s handler (Some frame) =
    not (has_uninit_this s.locals s.stack) && (is_caught m (caught_type handler) frame.stack && words_go m.set s.locals (in_words frame.locals))

abbrev pub covers : Handler → ℕ → Bool
covers handler at = nat_le handler.start at && nat_lt at handler.end

abbrev pub one_handled : Method → ℕ → TypeState → Handler → Result (Unit {0}) VerifyRule
one_handled m at s handler =
    need (not (covers handler at) || is_handled m s handler (declared_at m.code.frames handler.target)) HandlerRule (Ok tt)

-- each handler over an instruction
abbrev pub handled : Method → ℕ → TypeState → List Handler → Result (Unit {0}) VerifyRule
handled m at s [] = Ok tt
handled m at s (handler ∷ handlers) = on_ok (one_handled m at s handler) (λ _. handled m at s handlers)

abbrev pub leads : Method → TypeState → Option Frame → Bool
leads m s None = false
leads m s (Some frame) = goes m s frame

abbrev pub one_branched : Method → TypeState → ℕ → Result (Unit {0}) VerifyRule
one_branched m s target = need (leads m s (declared_at m.code.frames target)) Branch (Ok tt)

-- each target of an instruction
abbrev pub branched : Method → TypeState → List ℕ → Result (Unit {0}) VerifyRule
branched m s [] = Ok tt
branched m s (target ∷ more) = on_ok (one_branched m s target) (λ _. branched m s more)

abbrev pub typing : Insn → Frame → TypeState → Typing
typing insn frame behind = record { frame = frame; falls_on = if falls insn then Some behind else None }

-- where the types behind an instruction go on to
abbrev pub leave : Method → ℕ → Insn → Frame → TypeState → Result Typing VerifyRule
leave m at insn frame behind =
    on_ok (branched m behind (targets insn)) (λ _. need (not (falls insn) || nat_lt (at + 1) (length m.code.insns)) End (Ok (typing insn frame behind)))

-- an instruction with its types
abbrev pub pass : Method → ℕ → Insn → TypeState → Result Typing VerifyRule
pass m at insn s = on_ok (handled m at s m.code.handlers) (λ _. on_ok (row m at insn s) (λ behind. leave m at insn (frame_of s) behind))

-- the typing of the instruction of a number, or the first rule that fails
abbrev pub judge : Method → ℕ → Insn → Option TypeState → Result Typing VerifyRule
judge m at insn came = on_ok (enter m at came (declared_at m.code.frames at)) (λ s. pass m at insn s)
