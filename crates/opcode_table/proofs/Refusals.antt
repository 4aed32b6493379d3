-- When each refusal comes.
use Rattle.std.proofs.Common.{◌≡◌, ◌≢◌, ◌⊎◌, inl, inr, ℕ, ◌<◌, ◌≤◌, ◌^◌, Bool, true, false, List, length, Result, Ok, Err, refl, sym, ap, ◌∙◌, arith}
use Rattle.std.specs.Prelude.{◌↔◌, nat_lt}
use Rattle.std.proofs.lemmas.Bool.{ltb-true, ltb-false, lt-ltb, le-ltb}
use Rattle.opcode_table.specs.declared.code_stop.CodeStop.{CodeStop}
use Rattle.opcode_table.specs.declared.code_stop.CodeStop.TheVariants as stop
use Rattle.opcode_table.specs.declared.opcodes.OperandForm.{OperandForm}
use Rattle.opcode_table.specs.declared.opcodes.OperandForm.TheVariants as form
use Rattle.opcode_table.specs.declared.raw_insn.RawInsn.{RawInsn}
use Rattle.opcode_table.specs.Opcodes.{form_of}
use Rattle.opcode_table.specs.Fields.{u8_at}
use Rattle.opcode_table.proofs.Runs.{unknown_is, form_of_unknown}
use Rattle.opcode_table.specs.Judging.{fixed_size, whole_size, has_bad_operand, is_out_of_order, insn_of, refused, operands, judged, decoding, Answers, IsShort, IsBadOperand, IsOutOfOrder}

-- ---- from what a function returned to what is judged

abbrev Judged : Type 0
Judged = Result (RawInsn × ℕ) CodeStop

refusal_is : (e f : CodeStop) → (let x : Judged = Err e in x) ≡ Err f → e ≡ f
refusal_is e f h = cc

pub same_refusal : (result expected : Judged) (why : CodeStop) → why ≢ stop.Memory → Answers result expected → (result ≡ Err why) ↔ (expected ≡ Err why)
same_refusal (Ok x) expected why other h = (λ e. absurd cc, λ e. absurd cc)
same_refusal (Err stop.Memory) expected why other h = let is = h.1 in (λ e. absurd (other (sym (refusal_is stop.Memory why e))), λ e. absurd cc)
same_refusal (Err _) expected why other h = (λ e. h ∙ e, λ e. sym h ∙ e)

-- ---- the opcode alone

pub judged_unknown : (pc : ℕ) (text : List ℕ) → judged pc text form.Unknown ≡ Err (stop.Unknown (u8_at text 0))
unfolding judged
judged_unknown pc text = refl

pub judged_out_of_scope : (pc : ℕ) (text : List ℕ) → judged pc text form.OutOfScope ≡ Err (stop.OutOfScope (u8_at text 0))
unfolding judged
judged_out_of_scope pc text = refl

-- ---- the four tests of the operands

abbrev pub chain : Bool → Bool → Bool → Bool → RawInsn × ℕ → Judged
chain a b c d x = refused a stop.Short (refused b stop.Operand (refused c stop.Order (refused d stop.Short (Ok x))))

chain_short : (a b c d : Bool) (x : RawInsn × ℕ) → (chain a b c d x ≡ Err stop.Short) ↔ ((a ≡ true) ⊎ ((b ≡ false) × (c ≡ false) × (d ≡ true)))
chain_short true b c d x = (λ e. inl refl, λ h. refl)
chain_short false true c d x = (λ e. absurd cc, λ h. elim h [ inl k ↦ absurd cc | inr k ↦ absurd (let e = k.0 in cc) ])
chain_short false false true d x = (λ e. absurd cc, λ h. elim h [ inl k ↦ absurd cc | inr k ↦ absurd (let e = k.1 in cc) ])
chain_short false false false true x = (λ e. inr (refl, refl, refl), λ h. refl)
chain_short false false false false x = (λ e. absurd cc, λ h. elim h [ inl k ↦ absurd cc | inr k ↦ absurd (let e = k.2 in cc) ])

chain_operand : (a b c d : Bool) (x : RawInsn × ℕ) → (chain a b c d x ≡ Err stop.Operand) ↔ ((a ≡ false) × (b ≡ true))
chain_operand true b c d x = (λ e. absurd cc, λ h. absurd (let e = h.0 in cc))
chain_operand false true c d x = (λ e. (refl, refl), λ h. refl)
chain_operand false false true d x = (λ e. absurd cc, λ h. absurd (let e = h.1 in cc))
chain_operand false false false true x = (λ e. absurd cc, λ h. absurd (let e = h.1 in cc))
chain_operand false false false false x = (λ e. absurd cc, λ h. absurd (let e = h.1 in cc))

chain_order : (a b c d : Bool) (x : RawInsn × ℕ) → (chain a b c d x ≡ Err stop.Order) ↔ ((a ≡ false) × (b ≡ false) × (c ≡ true))
chain_order true b c d x = (λ e. absurd cc, λ h. absurd (let e = h.0 in cc))
chain_order false true c d x = (λ e. absurd cc, λ h. absurd (let e = h.1 in cc))
chain_order false false true d x = (λ e. (refl, refl, refl), λ h. refl)
chain_order false false false true x = (λ e. absurd cc, λ h. absurd (let e = h.2 in cc))
chain_order false false false false x = (λ e. absurd cc, λ h. absurd (let e = h.2 in cc))

pub chain_ok : (a b c d : Bool) (x y : RawInsn × ℕ) → chain a b c d x ≡ Ok y → (b ≡ false) × (c ≡ false) × (d ≡ false) × (x ≡ y)
chain_ok true b c d x y e = absurd cc
chain_ok false true c d x y e = absurd cc
chain_ok false false true d x y e = absurd cc
chain_ok false false false true x y e = absurd cc
chain_ok false false false false x y e = (refl, refl, refl, cc)

chain_other : (a b c d : Bool) (x : RawInsn × ℕ) (why : CodeStop) → why ≢ stop.Short → why ≢ stop.Operand → why ≢ stop.Order → chain a b c d x ≢ Err why
chain_other true b c d x why p q r e = p (sym (refusal_is stop.Short why e))
chain_other false true c d x why p q r e = q (sym (refusal_is stop.Operand why e))
chain_other false false true d x why p q r e = r (sym (refusal_is stop.Order why e))
chain_other false false false true x why p q r e = p (sym (refusal_is stop.Short why e))
chain_other false false false false x why p q r e = absurd cc

-- ---- the causes

operands_short : (pc : ℕ) (text : List ℕ) (f : OperandForm) → (operands pc text f ≡ Err stop.Short) ↔ IsShort pc text f
operands_short pc text f =
    let k = chain_short (nat_lt (length text) (fixed_size pc f)) (has_bad_operand pc text f) (is_out_of_order pc text f) (nat_lt (length text) (whole_size pc text f)) (insn_of pc text f, whole_size pc text f) in (
      λ e. elim (k.0 e) [ inl a ↦ inl (ltb-true _ _ a) | inr b ↦ inr (b.0, b.1, ltb-true _ _ b.2) ],
      λ h. k.1 (elim h [ inl a ↦ inl (lt-ltb _ _ a) | inr b ↦ inr (b.0, b.1, lt-ltb _ _ b.2) ]),
    )

operands_operand : (pc : ℕ) (text : List ℕ) (f : OperandForm) → (operands pc text f ≡ Err stop.Operand) ↔ IsBadOperand pc text f
operands_operand pc text f =
    let k = chain_operand (nat_lt (length text) (fixed_size pc f)) (has_bad_operand pc text f) (is_out_of_order pc text f) (nat_lt (length text) (whole_size pc text f)) (insn_of pc text f, whole_size pc text f) in
    (λ e. let h = k.0 e in (ltb-false _ _ h.0, h.1), λ h. k.1 (le-ltb _ _ h.0, h.1))

operands_order : (pc : ℕ) (text : List ℕ) (f : OperandForm) → (operands pc text f ≡ Err stop.Order) ↔ IsOutOfOrder pc text f
operands_order pc text f =
    let k = chain_order (nat_lt (length text) (fixed_size pc f)) (has_bad_operand pc text f) (is_out_of_order pc text f) (nat_lt (length text) (whole_size pc text f)) (insn_of pc text f, whole_size pc text f) in
    (λ e. let h = k.0 e in (ltb-false _ _ h.0, h.1, h.2), λ h. k.1 (le-ltb _ _ h.0, h.1, h.2))

pub short_is : (pc : ℕ) (text : List ℕ) (f : OperandForm) → 0 < length text → (judged pc text f ≡ Err stop.Short) ↔ IsShort pc text f
unfolding judged
short_is pc text form.Unknown some = (λ e. absurd cc, λ h. absurd (elim h [ inl k ↦ omega arith | inr k ↦ omega (arith, k.2) ]))
short_is pc text form.OutOfScope some = (λ e. absurd cc, λ h. absurd (elim h [ inl k ↦ omega arith | inr k ↦ omega (arith, k.2) ]))
short_is pc text f some = operands_short pc text f

pub operand_is : (pc : ℕ) (text : List ℕ) (f : OperandForm) → (judged pc text f ≡ Err stop.Operand) ↔ IsBadOperand pc text f
unfolding judged
operand_is pc text form.Unknown = (λ e. absurd cc, λ h. absurd (let e = h.1 in cc))
operand_is pc text form.OutOfScope = (λ e. absurd cc, λ h. absurd (let e = h.1 in cc))
operand_is pc text f = operands_operand pc text f

pub order_is : (pc : ℕ) (text : List ℕ) (f : OperandForm) → (judged pc text f ≡ Err stop.Order) ↔ IsOutOfOrder pc text f
unfolding judged
order_is pc text form.Unknown = (λ e. absurd cc, λ h. absurd (let e = h.2 in cc))
order_is pc text form.OutOfScope = (λ e. absurd cc, λ h. absurd (let e = h.2 in cc))
order_is pc text f = operands_order pc text f

other_stop : (pc : ℕ) (text : List ℕ) (f : OperandForm) (why : CodeStop) → why ≢ stop.Short → why ≢ stop.Operand → why ≢ stop.Order → operands pc text f ≢ Err why
other_stop pc text f why p q r = chain_other (nat_lt (length text) (fixed_size pc f)) (has_bad_operand pc text f) (is_out_of_order pc text f) (nat_lt (length text) (whole_size pc text f)) (insn_of pc text f, whole_size pc text f) why p q r

unknown_op : (a b : ℕ) → stop.Unknown a ≡ stop.Unknown b → a ≡ b
unknown_op a b e = cc

scope_op : (a b : ℕ) → stop.OutOfScope a ≡ stop.OutOfScope b → a ≡ b
scope_op a b e = cc

judged_as_unknown : (pc : ℕ) (text : List ℕ) (f : OperandForm) (op : ℕ) → (judged pc text f ≡ Err (stop.Unknown op)) ↔ ((u8_at text 0 ≡ op) × (f ≡ form.Unknown))
unfolding judged
judged_as_unknown pc text form.Unknown op = (λ e. (unknown_op _ _ (refusal_is _ _ e), refl), λ h. ap (λ (n : ℕ). let r : Judged = Err (stop.Unknown n) in r) h.0)
judged_as_unknown pc text form.OutOfScope op = (λ e. absurd cc, λ h. absurd (let e = h.1 in cc))
judged_as_unknown pc text f op = (λ e. absurd (other_stop pc text f (stop.Unknown op) (λ e. cc) (λ e. cc) (λ e. cc) e), λ h. absurd (let e = h.1 in cc))

judged_as_out : (pc : ℕ) (text : List ℕ) (f : OperandForm) (op : ℕ) → (judged pc text f ≡ Err (stop.OutOfScope op)) ↔ ((u8_at text 0 ≡ op) × (f ≡ form.OutOfScope))
unfolding judged
judged_as_out pc text form.Unknown op = (λ e. absurd cc, λ h. absurd (let e = h.1 in cc))
judged_as_out pc text form.OutOfScope op = (λ e. (scope_op _ _ (refusal_is _ _ e), refl), λ h. ap (λ (n : ℕ). let r : Judged = Err (stop.OutOfScope n) in r) h.0)
judged_as_out pc text f op = (λ e. absurd (other_stop pc text f (stop.OutOfScope op) (λ e. cc) (λ e. cc) (λ e. cc) e), λ h. absurd (let e = h.1 in cc))

-- ---- the clauses of a function that answers what is judged

chained : {P Q R : Type 0} → P ↔ Q → Q ↔ R → P ↔ R
chained f g = (λ p. g.0 (f.0 p), λ r. f.1 (g.1 r))

pub clause_short : (pc : ℕ) (text : List ℕ) (result : Judged) → 0 < length text → Answers result (decoding pc text) → (result ≡ Err stop.Short) ↔ IsShort pc text (form_of (u8_at text 0))
clause_short pc text result some h = chained (same_refusal result _ stop.Short (λ e. cc) h) (short_is pc text _ some)

pub clause_operand : (pc : ℕ) (text : List ℕ) (result : Judged) → Answers result (decoding pc text) → (result ≡ Err stop.Operand) ↔ IsBadOperand pc text (form_of (u8_at text 0))
clause_operand pc text result h = chained (same_refusal result _ stop.Operand (λ e. cc) h) (operand_is pc text _)

pub clause_order : (pc : ℕ) (text : List ℕ) (result : Judged) → Answers result (decoding pc text) → (result ≡ Err stop.Order) ↔ IsOutOfOrder pc text (form_of (u8_at text 0))
clause_order pc text result h = chained (same_refusal result _ stop.Order (λ e. cc) h) (order_is pc text _)

pub clause_out_of_scope : (pc : ℕ) (text : List ℕ) (result : Judged) (op : ℕ) → Answers result (decoding pc text) → (result ≡ Err (stop.OutOfScope op)) ↔ ((u8_at text 0 ≡ op) × (form_of op ≡ form.OutOfScope))
clause_out_of_scope pc text result op h =
    chained (chained (same_refusal result _ (stop.OutOfScope op) (λ e. cc) h) (judged_as_out pc text _ op))
    (λ k. (k.0, ap form_of (sym k.0) ∙ k.1), λ k. (k.0, ap form_of k.0 ∙ k.1))

pub clause_unknown : (pc : ℕ) (text : List ℕ) (result : Judged) (op : ℕ) → u8_at text 0 < 2 ^ 8 → Answers result (decoding pc text) → (result ≡ Err (stop.Unknown op)) ↔ ((u8_at text 0 ≡ op) × (202 ≤ op))
clause_unknown pc text result op fits h =
    chained (chained (same_refusal result _ (stop.Unknown op) (λ e. cc) h) (judged_as_unknown pc text _ op))
    (λ k. (k.0, let le : 202 ≤ u8_at text 0 = unknown_is _ k.1 in omega (arith, k.0)), λ k. (k.0, form_of_unknown _ (omega (arith, k.0, k.1)) fits))
