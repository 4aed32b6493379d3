-- What bytes spell is well-formed.
use Rattle.std.proofs.Common.{inl, inr, ℕ, ◌+◌, ◌^◌, ◌<◌, List, [], ◌∷◌, length, take, get_or, Result, Ok, Err, sym, ap, subst, ◌∙◌, arith, rules, Fits, length-take}
use Rattle.std.specs.Prelude.{ℤ, pos, negsuc, ◌+ℤ◌, ◌≤ℤ◌, IfOk}
use Rattle.std.specs.Int.{w16, w32, from_be_bytes}
use Rattle.std.specs.Int.RustNames.{FitsSigned}
use Rattle.std.proofs.Math.Facts.{sfits_to_z}
use Rattle.std.proofs.lemmas.Bool.{cases_lt}
use Rattle.std.proofs.lemmas.Int.{ints}
use Rattle.std.proofs.lemmas.List.{get_or-take, get_or_past}
use Rattle.opcode_table.specs.declared.code_stop.CodeStop.{CodeStop}
use Rattle.opcode_table.specs.Judging.{Answers, decoding}
use Rattle.opcode_table.proofs.Laws.{clause_found}
use Rattle.opcode_table.specs.declared.raw_insn.RawInsn.{RawInsn}
use Rattle.opcode_table.specs.declared.raw_insn.RawInsn.TheVariants.{Plain, Byte, Short, Local, Inc, Pool, Jump, Table, Lookup, Interface, NewArray, Multi}
use Rattle.opcode_table.specs.Opcodes.{form_of}
use Rattle.opcode_table.specs.Fields.{u8_at, i16_at, i32_at, padding}
use Rattle.opcode_table.specs.Spelling.{Spells, IsWellFormed}

two_fit : (a b : ℕ) → a < 256 → b < 256 → from_be_bytes w16 (a ∷ b ∷ []) < 2 ^ 16
two_fit a b p q = omega arith

four_fit : (a b c d : ℕ) → a < 256 → b < 256 → c < 256 → d < 256 → from_be_bytes w32 (a ∷ b ∷ c ∷ d ∷ []) < 2 ^ 32
four_fit a b c d p q r s = omega arith

abbrev pub AreBytes : List ℕ → Type 0
AreBytes text = (i : ℕ) → get_or text i 0 < 256

u8_fits : (text : List ℕ) (at : ℕ) → AreBytes text → u8_at text at < 2 ^ 8
unfolding u8_at
u8_fits text at bytes = bytes at

i16_fits : (text : List ℕ) (at : ℕ) → AreBytes text → FitsSigned w16 (i16_at text at)
unfolding i16_at
i16_fits text at bytes = let n : Fits w16 (from_be_bytes w16 (get_or text at 0 ∷ get_or text (at + 1) 0 ∷ [])) = search (rules, arith, two_fit, bytes) in sfits_to_z n

i32_fits : (text : List ℕ) (at : ℕ) → AreBytes text → FitsSigned w32 (i32_at text at)
unfolding i32_at
i32_fits text at bytes =
    let n : Fits w32 (from_be_bytes w32 (get_or text at 0 ∷ get_or text (at + 1) 0 ∷ get_or text (at + 2) 0 ∷ get_or text (at + 3) 0 ∷ [])) = search (rules, arith, four_fit, bytes) in
    sfits_to_z n

below_top : (z : ℤ) → FitsSigned w32 z → (z +ℤ pos 1) ≤ℤ pos (2 ^ 31)
below_top (pos n) fits = omega (arith, ints)
below_top (negsuc n) fits = omega (arith, ints)

count_small : (n : ℕ) → FitsSigned w32 (pos n) → n < 2 ^ 31
count_small n fits = omega (arith, ints)

formed : (pc : ℕ) (insn : RawInsn) (text : List ℕ) → AreBytes text → Spells pc insn text → IsWellFormed insn
unfolding Spells
formed pc (Plain op) text bytes h = ap form_of (sym h.1) ∙ h.0.1
formed pc (Byte op n) text bytes h = ap form_of (sym h.1) ∙ h.0.1
formed pc (Short op n) text bytes h = ap form_of (sym h.1) ∙ h.0.1
formed pc (Local op local) text bytes (inl h) = ap form_of (sym h.1) ∙ h.0.1
formed pc (Local op local) text bytes (inr h) = ap form_of (sym h.2) ∙ h.1
formed pc (Inc local step) text bytes h = tt
formed pc (Pool op index) text bytes (inl h) = let fits = u8_fits text 1 bytes in inl (ap form_of (sym h.1) ∙ h.0.1, omega (arith, h.2))
formed pc (Pool op index) text bytes (inr h) = inr (ap form_of (sym h.1) ∙ h.0.1)
formed pc (Jump op offset) text bytes (inl h) = inl (ap form_of (sym h.1) ∙ h.0.1, subst (λ (z : ℤ). FitsSigned w16 z) h.2 (i16_fits text 1 bytes))
formed pc (Jump op offset) text bytes (inr h) = inr (ap form_of (sym h.1) ∙ h.0.1)
formed pc (Table low default offsets) text bytes h =
    (h.some, subst (λ (z : ℤ). z ≤ℤ pos (2 ^ 31)) h.high_is (below_top (i32_at text (9 + padding pc)) (i32_fits text (9 + padding pc) bytes)))
formed pc (Lookup default rows) text bytes h = (h.ascend, count_small (length rows) (subst (λ (z : ℤ). FitsSigned w32 z) h.count_is (i32_fits text (5 + padding pc) bytes)))
formed pc (Interface index count) text bytes h = h.3
formed pc (NewArray ty) text bytes h = (h.2, h.3)
formed pc (Multi index dimensions) text bytes h = h.3

cut_bytes : (text : List ℕ) (n : ℕ) → AreBytes text → AreBytes (take n text)
cut_bytes text n bytes i =
    elim (cases_lt i n) [
      | inl lt ↦ rw (get_or-take n text i 0 lt) (bytes i)
      | inr le ↦ rw (get_or_past (take n text) i 0 (omega (arith, length-take n text))) (omega arith)
    ]

pub clause_formed : (pc : ℕ) (text : List ℕ) (result : Result (RawInsn × ℕ) CodeStop) → AreBytes text → Answers result (decoding pc text) → IfOk result (λ a. IsWellFormed a.0)
clause_formed pc text (Ok x) bytes h = formed pc x.0 (take x.1 text) (cut_bytes text x.1 bytes) (clause_found pc text (Ok x) h).1
clause_formed pc text (Err e) bytes h = tt
