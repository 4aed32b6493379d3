-- The runs are those of the table.
use Rattle.std.proofs.Common.{◌≡◌, inl, inr, Bool, true, false, ℕ, zero, suc, ◌+◌, ◌-◌, ◌^◌, ◌<◌, ◌≤◌, List, [], ◌∷◌, refl, ap, sym, ◌∙◌, arith, get_or}
use Rattle.std.proofs.lemmas.Bool.{cases_lt}
use Rattle.opcode_table.specs.declared.opcodes.OperandForm.{OperandForm}
use Rattle.opcode_table.specs.declared.opcodes.OperandForm.TheVariants.{Unknown}
use Rattle.opcode_table.specs.Opcodes.{opcodes, form_of}
use Rattle.opcode_table.specs.Runs.{run_in, early_runs, late_runs}

pub values : {A : Type 0} → (ℕ → A) → ℕ → ℕ → List A
values f at zero = []
values f at (suc n) = f at ∷ values f (suc at) n

values_at : {A : Type 0} (f : ℕ → A) (d : A) (at n i : ℕ) → i < n → get_or (values f at n) i d ≡ f (at + i)
unfolding values
values_at f d at zero i lt = absurd (omega arith)
values_at f d at (suc n) zero lt = ap f (omega arith)
values_at f d at (suc n) (suc i) lt = values_at f d (suc at) n i (omega arith) ∙ ap f (omega arith)

-- two functions that agree at each of n numbers, as the checker computes
from_values : {A : Type 0} (f g : ℕ → A) (at n op : ℕ) → values f at n ≡ values g at n → at ≤ op → op < at + n → f op ≡ g op
from_values {A} f g at n op same le lt =
    let i : at + (op - at) ≡ op = omega arith in
    let by_f : get_or (values f at n) (op - at) (f 0) ≡ f op = values_at f (f 0) at n (op - at) (omega arith) ∙ ap f i in
    let by_g : get_or (values g at n) (op - at) (f 0) ≡ g op = values_at g (f 0) at n (op - at) (omega arith) ∙ ap g i in
    sym by_f ∙ ap (λ (l : List A). get_or l (op - at) (f 0)) same ∙ by_g

early_same : values form_of 0 133 ≡ values (run_in early_runs) 0 133
unfolding form_of opcodes run_in early_runs values
early_same = refl

late_same : values form_of 133 123 ≡ values (run_in late_runs) 133 123
unfolding form_of opcodes run_in late_runs values
late_same = refl

pub form_of_early : (op : ℕ) → op ≤ 132 → form_of op ≡ run_in early_runs op
form_of_early op le = from_values form_of (run_in early_runs) 0 133 op early_same (omega arith) (omega arith)

pub form_of_late : (op : ℕ) → 132 < op → op < 2 ^ 8 → form_of op ≡ run_in late_runs op
form_of_late op lt fits = from_values form_of (run_in late_runs) 133 123 op late_same (omega arith) (omega arith)

-- ---- the numbers that are no opcode

is_unknown : OperandForm → Bool
is_unknown Unknown = true
is_unknown _ = false

known_below : values (λ op. is_unknown (form_of op)) 0 202 ≡ values (λ op. false) 0 202
unfolding form_of opcodes values is_unknown
known_below = refl

unknown_from : values form_of 202 54 ≡ values (λ op. Unknown) 202 54
unfolding form_of opcodes values
unknown_from = refl

pub form_of_unknown : (op : ℕ) → 202 ≤ op → op < 2 ^ 8 → form_of op ≡ Unknown
form_of_unknown op le fits = from_values form_of (λ n. Unknown) 202 54 op unknown_from (omega arith) (omega arith)

pub unknown_is : (op : ℕ) → form_of op ≡ Unknown → 202 ≤ op
unfolding is_unknown
unknown_is op e =
    elim (cases_lt op 202) [
      | inl lt ↦ absurd (let f = from_values (λ n. is_unknown (form_of n)) (λ n. false) 0 202 op known_below (omega arith) lt in let t = ap is_unknown e in let b : true ≡ false = sym t ∙ f in cc)
      | inr le ↦ le
    ]
