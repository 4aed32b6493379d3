-- Loads, stores and the increment of a local (JVMS 4.10.1.9).
use Rattle.std.specs.Prelude.{ℕ, ◌+◌, ◌-◌, nat_le, nat_lt, ◌&&◌, List, unwrap_or, Result, Ok, slice_get, slice_set, if◌then◌else◌}
use Rattle.class_model.specs.declared.insn.Kind.{Kind}
use Rattle.class_model.specs.declared.insn.Kind.TheVariants as kinds
use Rattle.class_model.specs.declared.class.VType.{VType}
use Rattle.class_model.specs.declared.class.VType.TheVariants.{Top}
use Rattle.class_set.specs.Assignable.{is_int, is_long}
use Rattle.type_rows.specs.declared.state.TypeState.{TypeState}
use Rattle.type_rows.specs.declared.rule.VerifyRule.{VerifyRule}
use Rattle.type_rows.specs.declared.rule.VerifyRule.TheVariants.{Local, Operand}
use Rattle.type_rows.specs.Method.{Method}
use Rattle.type_rows.specs.State.{state, on_ok, need}
use Rattle.type_rows.specs.Operands.{push, is_kind, take_kind}

abbrev pub kind_words : Kind → ℕ
kind_words kinds.Int = 1
kind_words kinds.Long = 2
kind_words kinds.Ref = 1

-- the word of a number
abbrev pub word_at : List VType → ℕ → VType
word_at words slot = unwrap_or (slice_get words slot) Top

-- a long whose second word is this one is no longer there
abbrev pub cut : ℕ → List VType → List VType
cut slot words = if nat_lt 0 slot && is_long (word_at words (slot - 1)) then slice_set words (slot - 1) Top else words

-- the second word of a long
abbrev pub with_second : ℕ → VType → List VType → List VType
with_second slot ty words = if is_long ty then slice_set words (slot + 1) Top else words

-- the words after a store
abbrev pub stored : ℕ → VType → List VType → List VType
stored slot ty words = slice_set (with_second slot ty (cut slot words)) slot ty

-- the local is one of the method's
abbrev pub has_local : {A : Type 0} → Method → ℕ → Result A VerifyRule → Result A VerifyRule
has_local m behind go = need (nat_le behind m.code.max_locals) Local go

abbrev pub row_load : Method → Kind → ℕ → TypeState → Result TypeState VerifyRule
row_load m kind slot s =
    has_local m (slot + kind_words kind) (need (is_kind kind (word_at s.locals slot)) Operand (push m (word_at s.locals slot) s.locals s.stack))

abbrev pub row_store : Method → Kind → ℕ → TypeState → Result TypeState VerifyRule
row_store m kind slot s =
    has_local m (slot + kind_words kind) (on_ok (take_kind kind s.stack) (λ taken. Ok (state (stored slot taken.ty s.locals) taken.rest)))

abbrev pub row_iinc : Method → ℕ → TypeState → Result TypeState VerifyRule
row_iinc m slot s = has_local m (slot + 1) (need (is_int (word_at s.locals slot)) Operand (Ok s))
