-- What is written for an instruction: this project's own layout. Values stay on the stack. The tag of local i lies in
-- local L + i, and that of word j of the stack in local 2L + j, where L is the method's own locals.
use Rattle.std.specs.Prelude.{ℕ, ◌+◌, ◌-◌, ◌*◌, ◌<◌, ◌≤◌, pos, List, [], ◌∷◌, ◌++◌, Option, Some, None, codes, if◌then◌else◌, false}
use Rattle.lists.specs.Texts.{units_of}
use Rattle.class_model.specs.declared.types.Primitive.TheVariants as primitive
use Rattle.class_model.specs.declared.types.BaseType.TheVariants as base
use Rattle.class_model.specs.declared.types.JType.{JType}
use Rattle.class_model.specs.declared.types.MethodRef.{MethodRef}
use Rattle.class_model.specs.declared.insn.Kind.TheVariants as kind
use Rattle.class_model.specs.declared.insn.Width.TheVariants as width
use Rattle.class_model.specs.declared.insn.BinOp.TheVariants as operation
use Rattle.class_model.specs.declared.insn.InvokeKind.TheVariants as invoke
use Rattle.class_model.specs.declared.insn.Insn.{Insn}
use Rattle.class_model.specs.declared.insn.Insn.TheVariants.{PushInt, Load, Store, Stack, Bin, Return, Invoke}
use Rattle.instrument_set.specs.declared.marks.Marks.{Marks}

abbrev pub int_type : JType
int_type = record { depth = 0; base = base.Primitive primitive.Int }

-- the native that reports: `phosphor/Report.tag(III)V`
abbrev pub report_ref : MethodRef
report_ref = record {
  class = record { depth = 0; base = base.Class (units_of (codes "phosphor/Report")) };
  name = units_of (codes "tag");
  desc = record { params = int_type ∷ int_type ∷ int_type ∷ []; result = None };
  in_interface = false;
}

-- the slot of a local's tag, and that of a word of the stack
abbrev pub local_tag : (locals : ℕ) → ℕ → ℕ
local_tag locals i = locals + i

abbrev pub word_tag : (locals : ℕ) → ℕ → ℕ
word_tag locals j = 2 * locals + j

abbrev pub load : ℕ → Insn
load slot = Load kind.Int slot

abbrev pub store : ℕ → Insn
store slot = Store kind.Int slot

-- what reports the tag in a slot, where `write` is listed
abbrev pub reported : Marks → ℕ → List Insn
reported marks slot = if marks.write then PushInt (pos 0) ∷ PushInt (pos 0) ∷ load slot ∷ Invoke invoke.Static report_ref ∷ [] else []

-- the piece of a call, by what the method gives: `read` gives an int, `write` takes one
abbrev pub call_piece : (locals : ℕ) → Marks → Insn → Option JType → ℕ → List Insn
call_piece locals marks insn (Some given) d = insn ∷ PushInt marks.read ∷ store (word_tag locals d) ∷ []
call_piece locals marks insn None d = reported marks (word_tag locals (d - 1)) ++ insn ∷ []

-- the piece of an instruction that finds d words on the stack: it stands with what moves tags, and a local changes last
abbrev pub piece_of : (locals : ℕ) → Marks → Insn → ℕ → List Insn
piece_of locals marks (PushInt number) d = PushInt number ∷ PushInt (pos 0) ∷ store (word_tag locals d) ∷ []
piece_of locals marks (Load k slot) d = Load k slot ∷ load (local_tag locals slot) ∷ store (word_tag locals d) ∷ []
piece_of locals marks (Store k slot) d = load (word_tag locals (d - 1)) ∷ store (local_tag locals slot) ∷ Store k slot ∷ []
piece_of locals marks (Bin w op) d = Bin w op ∷ load (word_tag locals (d - 2)) ∷ load (word_tag locals (d - 1)) ∷ Bin width.Int operation.Or ∷ store (word_tag locals (d - 2)) ∷ []
piece_of locals marks (Invoke k method) d = call_piece locals marks (Invoke k method) method.desc.result d
piece_of locals marks insn d = insn ∷ []

-- how deep the stack is behind a call, and behind an instruction
abbrev pub after_call : Option JType → ℕ → ℕ
after_call (Some given) d = d + 1
after_call None d = d - 1

abbrev pub after : Insn → ℕ → ℕ
after (PushInt number) d = d + 1
after (Load k slot) d = d + 1
after (Store k slot) d = d - 1
after (Stack op) d = d - 1
after (Bin w op) d = d - 1
after (Invoke k method) d = after_call method.desc.result d
after insn d = d

-- the pieces of instructions, one after the other, from a stack of d words
abbrev pub pieces : (locals : ℕ) → Marks → List Insn → ℕ → List Insn
pieces locals marks [] d = []
pieces locals marks (insn ∷ insns) d = piece_of locals marks insn d ++ pieces locals marks insns (after insn d)

-- a call finds its words on a stack of d, of at most `words`
abbrev pub FitsCall : (words : ℕ) → Option JType → ℕ → Type 0
FitsCall words (Some given) d = d < words
FitsCall words None d = 1 ≤ d

-- an instruction finds its words on a stack of d, and its local
abbrev pub Fits : (locals words : ℕ) → Insn → ℕ → Type 0
Fits locals words (PushInt number) d = d < words
Fits locals words (Load k slot) d = (slot < locals) × (d < words)
Fits locals words (Store k slot) d = (slot < locals) × (1 ≤ d)
Fits locals words (Stack op) d = 1 ≤ d
Fits locals words (Bin w op) d = 2 ≤ d
Fits locals words (Invoke k method) d = FitsCall words method.desc.result d
Fits locals words (Return k) d = Unit {0}
Fits locals words insn d = ⊥

-- so does each of instructions that follow one another
abbrev pub AllFit : (locals words : ℕ) → List Insn → ℕ → Type 0
AllFit locals words [] d = Unit {0}
AllFit locals words (insn ∷ insns) d = (d ≤ words) × Fits locals words insn d × AllFit locals words insns (after insn d)
