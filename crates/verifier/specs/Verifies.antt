-- Code that verifies (JVMS 4.10.1), and the first rule that fails.
use Rattle.std.specs.Prelude.{◌≡◌, ℕ, zero, suc, List, length, map, Option, Some, None, Ok, Err, slice_get}
use Rattle.class_model.specs.declared.insn.Insn.{Insn}
use Rattle.class_model.specs.declared.class.Frame.{Frame}
use Rattle.type_rows.specs.declared.state.TypeState.{TypeState}
use Rattle.type_rows.specs.declared.rule.VerifyRule.{VerifyRule}
use Rattle.type_rows.specs.Method.{Method}
use Rattle.verifier.specs.declared.typing.Typing.{Typing}
use Rattle.verifier.specs.declared.typed_code.VerifyStop.{VerifyStop}
use Rattle.verifier.specs.declared.typed_code.VerifyStop.TheVariants.{Unverified, Memory}
use Rattle.verifier.specs.Frames.{types_of}
use Rattle.verifier.specs.First.{first_frame}
use Rattle.verifier.specs.Check.{judge}

abbrev pub falls_from : Option Typing → Option TypeState
falls_from None = None
falls_from (Some typing) = typing.falls_on

-- what falls in at an instruction: the first frame, or what the instruction before goes on with
abbrev pub came : Method → List Typing → ℕ → Option TypeState
came m typings zero = Some (types_of m (first_frame m))
came m typings (suc at) = falls_from (slice_get typings at)

-- typings of the first instructions: each is what the rules give from what falls in
pub record AreTypings (m : Method) (typings : List Typing) : Type 0 where
  pub each : (at : ℕ) (insn : Insn) (typing : Typing) → slice_get m.code.insns at ≡ Some insn → slice_get typings at ≡ Some typing → judge m at insn (came m typings at) ≡ Ok typing

-- a frame for each instruction, with which each rule holds
abbrev pub HasFrames : Method → List Frame → Type 0
HasFrames m frames =
    (typings : List Typing) × (map (λ typing. typing.frame) typings ≡ frames) × (length typings ≡ length m.code.insns) × AreTypings m typings

-- a frame can be given to each instruction
abbrev pub Verifies : Method → Type 0
Verifies m = (frames : List Frame) × HasFrames m frames

-- the instructions before this one have typings, and it fails by this rule
abbrev pub FirstUnverified : Method → ℕ → VerifyRule → Type 0
FirstUnverified m at rule =
    (typings : List Typing) × (length typings ≡ at) × AreTypings m typings × (insn : Insn) × (slice_get m.code.insns at ≡ Some insn) × (judge m at insn (came m typings at) ≡ Err rule)

-- a rule that is told is the first that fails
abbrev pub Stops : Method → VerifyStop → Type 0
Stops m (Unverified at rule) = FirstUnverified m at rule
Stops m Memory = Unit {0}
