-- What is judged to be an instruction is what spells it.
use Rattle.std.proofs.Common.{◌≡◌, ◌≢◌, inl, inr, ℕ, ◌+◌, ◌*◌, ◌<◌, ◌≤◌, Bool, true, false, not, List, ◌++◌, length, take, Result, Ok, Err, refl, sym, ap, subst, ◌∙◌, arith, tests, rules, length-take}
use Rattle.std.specs.Prelude.{ℤ, pos, ◌+ℤ◌, ◌-ℤ◌, unsigned_abs, nat_lt, ◌||◌, ◌==◌, IfOk}
use Rattle.std.specs.Int.{is_negative}
use Rattle.std.proofs.lemmas.Bool.{ltb-false, le-ltb}
use Rattle.std.proofs.lemmas.List.{take_at, length-append}
use Rattle.opcode_table.specs.declared.code_stop.CodeStop.{CodeStop}
use Rattle.opcode_table.specs.declared.opcodes.OperandForm.{OperandForm}
use Rattle.opcode_table.specs.declared.opcodes.OperandForm.TheVariants as form
use Rattle.opcode_table.specs.declared.raw_insn.RawInsn.{RawInsn}
use Rattle.opcode_table.specs.declared.raw_insn.RawInsn.TheVariants.{Plain, Byte, Short, Local, Inc, Pool, Jump, Table, Lookup, Interface, NewArray, Multi}
use Rattle.opcode_table.specs.Opcodes.{form_of}
use Rattle.opcode_table.specs.Fields.{u8_at, u16_at, i8_at, i16_at, i32_at, offsets_at, rows_at, padding}
use Rattle.opcode_table.specs.Judging.{fixed_size, whole_size, has_bad_operand, is_out_of_order, may_be_wide, wide_size, wide_insn, insn_of, judged, form_at, decoding, Answers}
use Rattle.opcode_table.specs.Spelling.{HasForm, Ascends, SpellsLocal, SpellsInc, SpellsPool, SpellsJump, SpellsTable, SpellsLookup, Spells}
use Rattle.opcode_table.proofs.FieldLaws.{u8_at-take, u16_at-take, i8_at-take, i16_at-take, i32_at-take, offsets_at-take, rows_at-take, length-offsets_at, length-rows_at}
use Rattle.opcode_table.proofs.Keys.{ascends_from, no_low_key, count_is, span_is, in_order, span_count}
use Rattle.opcode_table.proofs.Refusals.{chain, chain_ok}

cut_form : (text : List ℕ) (n : ℕ) (f : OperandForm) → 0 < n → n ≤ length text → form_of (u8_at text 0) ≡ f → HasForm (take n text) n f
cut_form text n f some le e =
    let size : length (take n text) ≡ n = omega (arith, length-take n text) in
    (size, ap form_of (u8_at-take text n 0 some) ∙ e)

positive : (n : ℕ) → (n == 0) ≡ false → 0 < n
positive n e = search (tests, rules, arith)

not_nonzero : (n : ℕ) → not (n == 0) ≡ false → n ≡ 0
not_nonzero n e = grind (arith, tests)

neither : (a b : Bool) → a || b ≡ false → (a ≡ false) × (b ≡ false)
neither true b e = absurd cc
neither false b e = (refl, e)

nonzero : (n : ℕ) → 0 < n → (n == 0) ≡ false
nonzero n some = search (tests, rules, arith)

interface_good : (count last : ℕ) → 0 < count → last ≡ 0 → (count == 0) || not (last == 0) ≡ false
interface_good count last some none = rw (nonzero count some, none) refl

type_good : (ty : ℕ) → 4 ≤ ty → ty ≤ 11 → nat_lt ty 4 || nat_lt 11 ty ≡ false
type_good ty low high = rw (le-ltb ty 4 low, le-ltb 11 ty high) refl

wide_found : (pc : ℕ) (text : List ℕ) (f : OperandForm) → form_of (u8_at text 0) ≡ form.Wide → form_of (u8_at text 1) ≡ f → not (may_be_wide f) ≡ false → wide_size f ≤ length text → Spells pc (wide_insn text f) (take (wide_size f) text)
unfolding Spells
wide_found pc text form.Local e g ok le =
    inr (cut_form text 4 form.Wide (omega arith) le e, ap form_of (u8_at-take text 4 1 (omega arith)) ∙ g, u8_at-take text 4 1 (omega arith), u16_at-take text 4 2 (omega arith))
wide_found pc text form.Increment e g ok le =
    inr (cut_form text 6 form.Wide (omega arith) le e, ap form_of (u8_at-take text 6 1 (omega arith)) ∙ g, u16_at-take text 6 2 (omega arith), i16_at-take text 6 4 (omega arith))
wide_found pc text _ e g ok le = absurd cc

table_found : (pc : ℕ) (text : List ℕ) → form_of (u8_at text 0) ≡ form.Table → is_out_of_order pc text form.Table ≡ false → whole_size pc text form.Table ≤ length text → Spells pc (insn_of pc text form.Table) (take (whole_size pc text form.Table) text)
unfolding Spells
table_found pc text e order le =
    let low = i32_at text (5 + padding pc) in
    let high = i32_at text (9 + padding pc) in
    let count = unsigned_abs (high -ℤ low) + 1 in
    let n = 13 + padding pc + 4 * count in
    let size : length (offsets_at text (13 + padding pc) count) ≡ count = length-offsets_at text (13 + padding pc) count in
    record {
      has_form = subst (λ (k : ℕ). HasForm (take n text) (13 + padding pc + 4 * k) form.Table) (sym size) (cut_form text n form.Table (omega arith) le e);
      default_is = i32_at-take text n (1 + padding pc) (omega arith);
      low_is = i32_at-take text n (5 + padding pc) (omega arith);
      high_is = ap (λ (z : ℤ). z +ℤ pos 1) (i32_at-take text n (9 + padding pc) (omega arith)) ∙ span_is low high order ∙ ap (λ (k : ℕ). low +ℤ pos k) (sym size);
      some = omega (arith, size);
      offsets_are = ap (offsets_at (take n text) (13 + padding pc)) size ∙ offsets_at-take text n (13 + padding pc) count (omega arith);
    }

lookup_found : (pc : ℕ) (text : List ℕ) → form_of (u8_at text 0) ≡ form.Lookup → has_bad_operand pc text form.Lookup ≡ false → is_out_of_order pc text form.Lookup ≡ false → whole_size pc text form.Lookup ≤ length text
    → Spells pc (insn_of pc text form.Lookup) (take (whole_size pc text form.Lookup) text)
unfolding Spells
lookup_found pc text e good order le =
    let declared = i32_at text (5 + padding pc) in
    let count = unsigned_abs declared in
    let n = 9 + padding pc + 8 * count in
    let size : length (rows_at text (9 + padding pc) count) ≡ count = length-rows_at text (9 + padding pc) count in
    record {
      has_form = subst (λ (k : ℕ). HasForm (take n text) (9 + padding pc + 8 * k) form.Lookup) (sym size) (cut_form text n form.Lookup (omega arith) le e);
      default_is = i32_at-take text n (1 + padding pc) (omega arith);
      count_is = i32_at-take text n (5 + padding pc) (omega arith) ∙ count_is declared good ∙ ap pos (sym size);
      rows_are = ap (rows_at (take n text) (9 + padding pc)) size ∙ rows_at-take text n (9 + padding pc) count (omega arith);
      ascend = ascends_from text (9 + padding pc) count le order;
    }

found : (pc : ℕ) (text : List ℕ) (f : OperandForm) → form_of (u8_at text 0) ≡ f → f ≢ form.Unknown → f ≢ form.OutOfScope → has_bad_operand pc text f ≡ false → is_out_of_order pc text f ≡ false → whole_size pc text f ≤ length text
    → Spells pc (insn_of pc text f) (take (whole_size pc text f) text)
unfolding Spells
found pc text form.Unknown e u o bad order le = absurd (u refl)
found pc text form.OutOfScope e u o bad order le = absurd (o refl)
found pc text form.Empty e u o bad order le = (cut_form text 1 form.Empty (omega arith) le e, u8_at-take text 1 0 (omega arith))
found pc text form.SignedByte e u o bad order le = (cut_form text 2 form.SignedByte (omega arith) le e, u8_at-take text 2 0 (omega arith), i8_at-take text 2 1 (omega arith))
found pc text form.SignedShort e u o bad order le = (cut_form text 3 form.SignedShort (omega arith) le e, u8_at-take text 3 0 (omega arith), i16_at-take text 3 1 (omega arith))
found pc text form.PoolByte e u o bad order le = inl (cut_form text 2 form.PoolByte (omega arith) le e, u8_at-take text 2 0 (omega arith), u8_at-take text 2 1 (omega arith))
found pc text form.Pool e u o bad order le = inr (cut_form text 3 form.Pool (omega arith) le e, u8_at-take text 3 0 (omega arith), u16_at-take text 3 1 (omega arith))
found pc text form.Local e u o bad order le = inl (cut_form text 2 form.Local (omega arith) le e, u8_at-take text 2 0 (omega arith), u8_at-take text 2 1 (omega arith))
found pc text form.Increment e u o bad order le = inl (cut_form text 3 form.Increment (omega arith) le e, u8_at-take text 3 1 (omega arith), i8_at-take text 3 2 (omega arith))
found pc text form.Jump e u o bad order le = inl (cut_form text 3 form.Jump (omega arith) le e, u8_at-take text 3 0 (omega arith), i16_at-take text 3 1 (omega arith))
found pc text form.WideJump e u o bad order le = inr (cut_form text 5 form.WideJump (omega arith) le e, u8_at-take text 5 0 (omega arith), i32_at-take text 5 1 (omega arith))
found pc text form.Table e u o bad order le = table_found pc text e order le
found pc text form.Lookup e u o bad order le = lookup_found pc text e bad order le
found pc text form.Interface e u o bad order le =
    let h = neither (u8_at text 3 == 0) (not (u8_at text 4 == 0)) bad in
    (cut_form text 5 form.Interface (omega arith) le e, u16_at-take text 5 1 (omega arith), u8_at-take text 5 3 (omega arith), positive (u8_at text 3) h.0, u8_at-take text 5 4 (omega arith) ∙ not_nonzero (u8_at text 4) h.1)
found pc text form.ArrayType e u o bad order le =
    let h = neither (nat_lt (u8_at text 1) 4) (nat_lt 11 (u8_at text 1)) bad in
    (cut_form text 2 form.ArrayType (omega arith) le e, u8_at-take text 2 1 (omega arith), ltb-false _ _ h.0, ltb-false _ _ h.1)
found pc text form.Dimensions e u o bad order le = (cut_form text 4 form.Dimensions (omega arith) le e, u16_at-take text 4 1 (omega arith), u8_at-take text 4 3 (omega arith), positive (u8_at text 3) bad)
found pc text form.Wide e u o bad order le = wide_found pc text (form_of (u8_at text 1)) e refl bad le

judged_ok : (pc : ℕ) (text : List ℕ) (f : OperandForm) (insn : RawInsn) (n : ℕ) → form_of (u8_at text 0) ≡ f → judged pc text f ≡ Ok (insn, n) → (n ≤ length text) × Spells pc insn (take n text)
unfolding judged
judged_ok pc text form.Unknown insn n e h = absurd cc
judged_ok pc text form.OutOfScope insn n e h = absurd cc
judged_ok pc text f insn n e h =
    let k = chain_ok (nat_lt (length text) (fixed_size pc f)) (has_bad_operand pc text f) (is_out_of_order pc text f) (nat_lt (length text) (whole_size pc text f)) (insn_of pc text f, whole_size pc text f) (insn, n) h in
    let le = ltb-false (length text) (whole_size pc text f) k.2 in
    let is_insn : insn_of pc text f ≡ insn = ap (λ (x : RawInsn × ℕ). x.0) k.3 in
    let is_size : whole_size pc text f ≡ n = ap (λ (x : RawInsn × ℕ). x.1) k.3 in
    (omega (arith, le, is_size), subst (λ (m : ℕ). Spells pc insn (take m text)) is_size (subst (λ (i : RawInsn). Spells pc i (take (whole_size pc text f) text)) is_insn (found pc text f e (λ d. cc) (λ d. cc) k.0 k.1 le)))

pub clause_found : (pc : ℕ) (text : List ℕ) (result : Result (RawInsn × ℕ) CodeStop) → Answers result (decoding pc text) → IfOk result (λ a. (a.1 ≤ length text) × Spells pc a.0 (take a.1 text))
clause_found pc text (Ok x) h = judged_ok pc text (form_at text) x.0 x.1 refl h
clause_found pc text (Err e) h = tt

-- ---- and what spells an instruction is judged to be it

chain_accepts : (a b c d : Bool) (x : RawInsn × ℕ) → a ≡ false → b ≡ false → c ≡ false → d ≡ false → chain a b c d x ≡ Ok x
chain_accepts a b c d x p q r s = rw (p, q, r, s) refl

judged_accepts : (pc : ℕ) (text : List ℕ) (f : OperandForm) → f ≢ form.Unknown → f ≢ form.OutOfScope → fixed_size pc f ≤ length text → has_bad_operand pc text f ≡ false → is_out_of_order pc text f ≡ false → whole_size pc text f ≤ length text
    → judged pc text f ≡ Ok (insn_of pc text f, whole_size pc text f)
unfolding judged
judged_accepts pc text form.Unknown u o fixed bad order le = absurd (u refl)
judged_accepts pc text form.OutOfScope u o fixed bad order le = absurd (o refl)
judged_accepts pc text f u o fixed bad order le =
    chain_accepts (nat_lt (length text) (fixed_size pc f)) (has_bad_operand pc text f) (is_out_of_order pc text f) (nat_lt (length text) (whole_size pc text f)) (insn_of pc text f, whole_size pc text f) (le-ltb _ _ fixed) bad order (le-ltb _ _ le)

-- the first n bytes begin with an opcode of the form and have m bytes
record Uncut (text : List ℕ) (n m : ℕ) (f : OperandForm) : Type 0 where
  size : n ≡ m
  form_is : form_of (u8_at text 0) ≡ f

uncut : (text : List ℕ) (n m : ℕ) (f : OperandForm) → n ≤ length text → 0 < m → HasForm (take n text) m f → Uncut text n m f
uncut text n m f le some h =
    let size : n ≡ m = omega (arith, length-take n text, h.0) in
    record { size = size; form_is = ap form_of (sym (u8_at-take text n 0 (omega arith))) ∙ h.1 }

accepted : (pc : ℕ) (text : List ℕ) (f : OperandForm) (insn : RawInsn) (n : ℕ) → f ≢ form.Unknown → f ≢ form.OutOfScope → form_of (u8_at text 0) ≡ f → n ≤ length text → fixed_size pc f ≤ n → has_bad_operand pc text f ≡ false → is_out_of_order pc text f ≡ false
    → n ≡ whole_size pc text f → insn_of pc text f ≡ insn → decoding pc text ≡ Ok (insn, n)
accepted pc text f insn n u o e le fixed bad order size made =
    let one : decoding pc text ≡ judged pc text f = ap (judged pc text) e in
    let two = judged_accepts pc text f u o (omega arith) bad order (omega arith) in
    let three : (let r : Result (RawInsn × ℕ) CodeStop = Ok (insn_of pc text f, whole_size pc text f) in r) ≡ Ok (insn, n) = cc in
    one ∙ two ∙ three

local_only : (pc : ℕ) (text : List ℕ) (op local n : ℕ) → n ≤ length text → SpellsLocal (take n text) op local → decoding pc text ≡ Ok (Local op local, n)
local_only pc text op local n le (inl h) =
    let k = uncut text n 2 form.Local le (omega arith) h.0 in
    let a = u8_at-take text n 0 (omega arith) in
    let b = u8_at-take text n 1 (omega arith) in
    let made : Local (u8_at text 0) (u8_at text 1) ≡ Local op local = cc in
    accepted pc text form.Local (Local op local) n (λ e. cc) (λ e. cc) k.form_is le (omega arith) refl refl k.size made
local_only pc text op local n le (inr h) =
    let k = uncut text n 4 form.Wide le (omega arith) h.0 in
    let a = u8_at-take text n 1 (omega arith) in
    let b = u16_at-take text n 2 (omega arith) in
    let f : form_of (u8_at text 1) ≡ form.Local = ap form_of (sym a) ∙ h.1 in
    let made : Local (u8_at text 1) (u16_at text 2) ≡ Local op local = cc in
    accepted pc text form.Wide (Local op local) n (λ e. cc) (λ e. cc) k.form_is le (omega arith) (ap (λ (g : OperandForm). not (may_be_wide g)) f) refl (k.size ∙ ap wide_size (sym f)) (ap (wide_insn text) f ∙ made)

inc_only : (pc : ℕ) (text : List ℕ) (local : ℕ) (step : ℤ) (n : ℕ) → n ≤ length text → SpellsInc (take n text) local step → decoding pc text ≡ Ok (Inc local step, n)
inc_only pc text local step n le (inl h) =
    let k = uncut text n 3 form.Increment le (omega arith) h.0 in
    let a = u8_at-take text n 1 (omega arith) in
    let b = i8_at-take text n 2 (omega arith) in
    let made : Inc (u8_at text 1) (i8_at text 2) ≡ Inc local step = cc in
    accepted pc text form.Increment (Inc local step) n (λ e. cc) (λ e. cc) k.form_is le (omega arith) refl refl k.size made
inc_only pc text local step n le (inr h) =
    let k = uncut text n 6 form.Wide le (omega arith) h.0 in
    let a = u8_at-take text n 1 (omega arith) in
    let b = u16_at-take text n 2 (omega arith) in
    let c = i16_at-take text n 4 (omega arith) in
    let f : form_of (u8_at text 1) ≡ form.Increment = ap form_of (sym a) ∙ h.1 in
    let made : Inc (u16_at text 2) (i16_at text 4) ≡ Inc local step = cc in
    accepted pc text form.Wide (Inc local step) n (λ e. cc) (λ e. cc) k.form_is le (omega arith) (ap (λ (g : OperandForm). not (may_be_wide g)) f) refl (k.size ∙ ap wide_size (sym f)) (ap (wide_insn text) f ∙ made)

pool_only : (pc : ℕ) (text : List ℕ) (op index n : ℕ) → n ≤ length text → SpellsPool (take n text) op index → decoding pc text ≡ Ok (Pool op index, n)
pool_only pc text op index n le (inl h) =
    let k = uncut text n 2 form.PoolByte le (omega arith) h.0 in
    let a = u8_at-take text n 0 (omega arith) in
    let b = u8_at-take text n 1 (omega arith) in
    let made : Pool (u8_at text 0) (u8_at text 1) ≡ Pool op index = cc in
    accepted pc text form.PoolByte (Pool op index) n (λ e. cc) (λ e. cc) k.form_is le (omega arith) refl refl k.size made
pool_only pc text op index n le (inr h) =
    let k = uncut text n 3 form.Pool le (omega arith) h.0 in
    let a = u8_at-take text n 0 (omega arith) in
    let b = u16_at-take text n 1 (omega arith) in
    let made : Pool (u8_at text 0) (u16_at text 1) ≡ Pool op index = cc in
    accepted pc text form.Pool (Pool op index) n (λ e. cc) (λ e. cc) k.form_is le (omega arith) refl refl k.size made

jump_only : (pc : ℕ) (text : List ℕ) (op : ℕ) (offset : ℤ) (n : ℕ) → n ≤ length text → SpellsJump (take n text) op offset → decoding pc text ≡ Ok (Jump op offset, n)
jump_only pc text op offset n le (inl h) =
    let k = uncut text n 3 form.Jump le (omega arith) h.0 in
    let a = u8_at-take text n 0 (omega arith) in
    let b = i16_at-take text n 1 (omega arith) in
    let made : Jump (u8_at text 0) (i16_at text 1) ≡ Jump op offset = cc in
    accepted pc text form.Jump (Jump op offset) n (λ e. cc) (λ e. cc) k.form_is le (omega arith) refl refl k.size made
jump_only pc text op offset n le (inr h) =
    let k = uncut text n 5 form.WideJump le (omega arith) h.0 in
    let a = u8_at-take text n 0 (omega arith) in
    let b = i32_at-take text n 1 (omega arith) in
    let made : Jump (u8_at text 0) (i32_at text 1) ≡ Jump op offset = cc in
    accepted pc text form.WideJump (Jump op offset) n (λ e. cc) (λ e. cc) k.form_is le (omega arith) refl refl k.size made

table_only : (pc : ℕ) (text : List ℕ) (low default : ℤ) (offsets : List ℤ) (n : ℕ) → n ≤ length text → SpellsTable pc (take n text) low default offsets → decoding pc text ≡ Ok (Table low default offsets, n)
table_only pc text low default offsets n le h =
    let k = uncut text n (13 + padding pc + 4 * length offsets) form.Table le (omega arith) h.has_form in
    let a = i32_at-take text n (1 + padding pc) (omega arith) in
    let b = i32_at-take text n (5 + padding pc) (omega arith) in
    let c = i32_at-take text n (9 + padding pc) (omega arith) in
    let d = offsets_at-take text n (13 + padding pc) (length offsets) (omega arith) in
    let low_is : i32_at text (5 + padding pc) ≡ low = sym b ∙ h.low_is in
    let high = i32_at text (9 + padding pc) in
    let high_is : high +ℤ pos 1 ≡ i32_at text (5 + padding pc) +ℤ pos (length offsets) = ap (λ (z : ℤ). z +ℤ pos 1) (sym c) ∙ h.high_is ∙ ap (λ (z : ℤ). z +ℤ pos (length offsets)) (sym low_is) in
    let count = span_count (i32_at text (5 + padding pc)) high (length offsets) h.some high_is in
    let are : offsets_at text (13 + padding pc) (unsigned_abs (high -ℤ i32_at text (5 + padding pc)) + 1) ≡ offsets = ap (offsets_at text (13 + padding pc)) count ∙ sym d ∙ h.offsets_are in
    let default_is : i32_at text (1 + padding pc) ≡ default = sym a ∙ h.default_is in
    let made : insn_of pc text form.Table ≡ Table low default offsets = cc in
    accepted pc text form.Table (Table low default offsets) n (λ e. cc) (λ e. cc) k.form_is le (omega arith) refl (in_order (i32_at text (5 + padding pc)) high (length offsets) h.some high_is)
    (k.size ∙ ap (λ (m : ℕ). 13 + padding pc + 4 * m) (sym count)) made

lookup_only : (pc : ℕ) (text : List ℕ) (default : ℤ) (rows : List (ℤ × ℤ)) (n : ℕ) → n ≤ length text → SpellsLookup pc (take n text) default rows → decoding pc text ≡ Ok (Lookup default rows, n)
lookup_only pc text default rows n le h =
    let k = uncut text n (9 + padding pc + 8 * length rows) form.Lookup le (omega arith) h.has_form in
    let a = i32_at-take text n (1 + padding pc) (omega arith) in
    let b = i32_at-take text n (5 + padding pc) (omega arith) in
    let d = rows_at-take text n (9 + padding pc) (length rows) (omega arith) in
    let count_is : i32_at text (5 + padding pc) ≡ pos (length rows) = sym b ∙ h.count_is in
    let count : unsigned_abs (i32_at text (5 + padding pc)) ≡ length rows = ap unsigned_abs count_is in
    let are : rows_at text (9 + padding pc) (length rows) ≡ rows = sym d ∙ h.rows_are in
    let all : rows_at text (9 + padding pc) (unsigned_abs (i32_at text (5 + padding pc))) ≡ rows = ap (rows_at text (9 + padding pc)) count ∙ are in
    let default_is : i32_at text (1 + padding pc) ≡ default = sym a ∙ h.default_is in
    let made : insn_of pc text form.Lookup ≡ Lookup default rows = cc in
    let ascend : Ascends (rows_at text (9 + padding pc) (unsigned_abs (i32_at text (5 + padding pc)))) = subst Ascends (sym all) h.ascend in
    accepted pc text form.Lookup (Lookup default rows) n (λ e. cc) (λ e. cc) k.form_is le (omega arith) (ap is_negative count_is ∙ le-ltb (length rows) 0 (omega arith))
    (no_low_key text (9 + padding pc) (unsigned_abs (i32_at text (5 + padding pc))) ascend) (k.size ∙ ap (λ (m : ℕ). 9 + padding pc + 8 * m) (sym count)) made

only : (pc : ℕ) (text : List ℕ) (insn : RawInsn) (n : ℕ) → n ≤ length text → Spells pc insn (take n text) → decoding pc text ≡ Ok (insn, n)
unfolding Spells
only pc text (Plain op) n le h =
    let k = uncut text n 1 form.Empty le (omega arith) h.0 in
    let a = u8_at-take text n 0 (omega arith) in
    accepted pc text form.Empty (Plain op) n (λ e. cc) (λ e. cc) k.form_is le (omega arith) refl refl k.size (ap Plain (sym a ∙ h.1))
only pc text (Byte op v) n le h =
    let k = uncut text n 2 form.SignedByte le (omega arith) h.0 in
    let a = u8_at-take text n 0 (omega arith) in
    let b = i8_at-take text n 1 (omega arith) in
    let made : Byte (u8_at text 0) (i8_at text 1) ≡ Byte op v = cc in
    accepted pc text form.SignedByte (Byte op v) n (λ e. cc) (λ e. cc) k.form_is le (omega arith) refl refl k.size made
only pc text (Short op v) n le h =
    let k = uncut text n 3 form.SignedShort le (omega arith) h.0 in
    let a = u8_at-take text n 0 (omega arith) in
    let b = i16_at-take text n 1 (omega arith) in
    let made : Short (u8_at text 0) (i16_at text 1) ≡ Short op v = cc in
    accepted pc text form.SignedShort (Short op v) n (λ e. cc) (λ e. cc) k.form_is le (omega arith) refl refl k.size made
only pc text (Local op local) n le h = local_only pc text op local n le h
only pc text (Inc local step) n le h = inc_only pc text local step n le h
only pc text (Pool op index) n le h = pool_only pc text op index n le h
only pc text (Jump op offset) n le h = jump_only pc text op offset n le h
only pc text (Table low default offsets) n le h = table_only pc text low default offsets n le h
only pc text (Lookup default rows) n le h = lookup_only pc text default rows n le h
only pc text (Interface index count) n le h =
    let k = uncut text n 5 form.Interface le (omega arith) h.0 in
    let a = u16_at-take text n 1 (omega arith) in
    let b = u8_at-take text n 3 (omega arith) in
    let c = u8_at-take text n 4 (omega arith) in
    let made : Interface (u16_at text 1) (u8_at text 3) ≡ Interface index count = cc in
    let good : (u8_at text 3 == 0) || not (u8_at text 4 == 0) ≡ false = interface_good (u8_at text 3) (u8_at text 4) (omega arith) (omega arith) in
    accepted pc text form.Interface (Interface index count) n (λ e. cc) (λ e. cc) k.form_is le (omega arith) good refl k.size made
only pc text (NewArray ty) n le h =
    let k = uncut text n 2 form.ArrayType le (omega arith) h.0 in
    let a = u8_at-take text n 1 (omega arith) in
    let good : nat_lt (u8_at text 1) 4 || nat_lt 11 (u8_at text 1) ≡ false = type_good (u8_at text 1) (omega arith) (omega arith) in
    accepted pc text form.ArrayType (NewArray ty) n (λ e. cc) (λ e. cc) k.form_is le (omega arith) good refl k.size (ap NewArray (sym a ∙ h.1))
only pc text (Multi index dimensions) n le h =
    let k = uncut text n 4 form.Dimensions le (omega arith) h.0 in
    let a = u16_at-take text n 1 (omega arith) in
    let b = u8_at-take text n 3 (omega arith) in
    let made : Multi (u16_at text 1) (u8_at text 3) ≡ Multi index dimensions = cc in
    accepted pc text form.Dimensions (Multi index dimensions) n (λ e. cc) (λ e. cc) k.form_is le (omega arith) (nonzero (u8_at text 3) (omega arith)) refl k.size made

pub clause_only : (pc : ℕ) (text : List ℕ) (result : Result (RawInsn × ℕ) CodeStop) (insn : RawInsn) (n : ℕ) → n ≤ length text → Spells pc insn (take n text) → Answers result (decoding pc text) → Answers result (Ok (insn, n))
clause_only pc text result insn n le spells h = subst (λ (r : Result (RawInsn × ℕ) CodeStop). Answers result r) (only pc text insn n le spells) h

-- what begins with a spelling is judged to be the instruction
pub back : (pc : ℕ) (insn : RawInsn) (text spelled rest : List ℕ) → text ≡ spelled ++ rest → Spells pc insn spelled → decoding pc text ≡ Ok (insn, length spelled)
back pc insn text spelled rest parts spells =
    let front : take (length spelled) text ≡ spelled = ap (take (length spelled)) parts ∙ take_at spelled rest (length spelled) refl in
    only pc text insn (length spelled) (omega (arith, ap length parts, length-append spelled rest)) (subst (λ (t : List ℕ). Spells pc insn t) (sym front) spells)
