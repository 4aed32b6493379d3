-- What a word holds where a reference is wanted.
use Rattle.std.specs.Prelude.{ℕ, Option, Some, None}
use Rattle.class_model.specs.declared.insn.Kind.{Kind}
use Rattle.class_model.specs.declared.insn.Kind.TheVariants as kind
use Rattle.run_state.specs.Words.{Word, Empty, Num, Long, Half, Null, Ref}
use Rattle.machine.specs.declared.operands.Held.{Held}
use Rattle.machine.specs.declared.operands.Held.TheVariants as holds

abbrev pub held_by : {T : Type 0} → Option (Word T) → Held
held_by None = holds.Nothing
held_by (Some Empty) = holds.Nothing
held_by (Some (Num v t)) = holds.Nothing
held_by (Some (Long v t)) = holds.Nothing
held_by (Some Half) = holds.Nothing
held_by (Some Null) = holds.Null
held_by (Some (Ref a)) = holds.Item a

-- the words of a value of a kind
abbrev pub kind_words : Kind → ℕ
kind_words kind.Int = 1
kind_words kind.Long = 2
kind_words kind.Ref = 1
