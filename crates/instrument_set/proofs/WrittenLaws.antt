-- Written code, piece by piece.
use Rattle.std.proofs.Common.{◌≡◌, ◌∙◌, ℕ, zero, suc, ◌+◌, ◌-◌, ◌<◌, ◌≤◌, List, [], ◌∷◌, ◌++◌, length, get_or, drop, drop-cons, sym, ap, subst, arith, add-one, add-zero, append_assoc, length-drop}
use Rattle.std.specs.Prelude.{pos}
use Rattle.std.proofs.lemmas.List.{append-nil, nil_from_length}
use Rattle.class_model.specs.declared.insn.Insn.{Insn}
use Rattle.class_model.specs.declared.insn.Insn.TheVariants.{PushInt}
use Rattle.instrument_set.specs.declared.marks.Marks.{Marks}
use Rattle.instrument_set.specs.Pieces.{store, piece_of, pieces, after, Fits, AllFit}
use Rattle.instrument_set.specs.Written.{cleared}

cleared_more : (from n : ℕ) → cleared from (n + 1) ≡ cleared from n ++ PushInt (pos 0) ∷ store (from + n) ∷ []
cleared_more from zero = ap (λ (k : ℕ). PushInt (pos 0) ∷ store k ∷ []) (sym (add-zero from))
cleared_more from (suc n) =
    let place : from + 1 + n ≡ from + suc n = omega arith in
    rw (add-one (suc n)) (ap (λ (xs : List Insn). PushInt (pos 0) ∷ store from ∷ xs)
    (ap (λ (k : ℕ). cleared (from + 1) k) (sym (add-one n)) ∙ cleared_more (from + 1) n ∙ ap (λ (k : ℕ). cleared (from + 1) n ++ PushInt (pos 0) ∷ store k ∷ []) place))

-- one slot more is set to 0
pub prologue_more : (old out new : List Insn) (from slot : ℕ) → from ≤ slot → out ≡ old ++ cleared from (slot - from)
    → new ≡ (out ++ PushInt (pos 0) ∷ []) ++ store slot ∷ [] → new ≡ old ++ cleared from (slot + 1 - from)
prologue_more old out new from slot le so_far is =
    let count : slot + 1 - from ≡ slot - from + 1 = omega arith in
    let place : from + (slot - from) ≡ slot = omega arith in
    is
    ∙ append_assoc out (PushInt (pos 0) ∷ []) (store slot ∷ [])
    ∙ ap (λ (xs : List Insn). xs ++ PushInt (pos 0) ∷ store slot ∷ []) so_far
    ∙ append_assoc old (cleared from (slot - from)) (PushInt (pos 0) ∷ store slot ∷ [])
    ∙ ap (λ (k : ℕ). old ++ (cleared from (slot - from) ++ PushInt (pos 0) ∷ store k ∷ [])) (sym place)
    ∙ ap (λ (xs : List Insn). old ++ xs) (sym (cleared_more from (slot - from)))
    ∙ ap (λ (k : ℕ). old ++ cleared from k) (sym count)

-- the instruction that comes
drop_next : (insns : List Insn) (i : ℕ) (x : Insn) → i < length insns → x ≡ get_or insns i x → drop i insns ≡ x ∷ drop (i + 1) insns
drop_next insns i x lt is = rw (add-one, drop-cons insns i x lt) (ap (λ (y : Insn). y ∷ drop (suc i) insns) (sym is))

-- the instruction that comes fits, and so do those behind it
pub fit_next : (locals words : ℕ) (insns : List Insn) (i d : ℕ) (x : Insn) → i < length insns → x ≡ get_or insns i x
    → AllFit locals words (drop i insns) d → (d ≤ words) × Fits locals words x d × AllFit locals words (drop (i + 1) insns) (after x d)
fit_next locals words insns i d x lt is fit = subst (λ (xs : List Insn). AllFit locals words xs d) (drop_next insns i x lt is) fit

-- the piece of the instruction that comes is put behind those that are there
pub pieces_next : (locals : ℕ) (marks : Marks) (insns whole out new : List Insn) (i d e : ℕ) (x : Insn) → i < length insns → x ≡ get_or insns i x
    → out ++ pieces locals marks (drop i insns) d ≡ whole → new ≡ out ++ piece_of locals marks x d → e ≡ after x d
    → new ++ pieces locals marks (drop (i + 1) insns) e ≡ whole
pieces_next locals marks insns whole out new i d e x lt is so_far put deeper =
    ap (λ (xs : List Insn). xs ++ pieces locals marks (drop (i + 1) insns) e) put
    ∙ append_assoc out (piece_of locals marks x d) (pieces locals marks (drop (i + 1) insns) e)
    ∙ ap (λ (k : ℕ). out ++ (piece_of locals marks x d ++ pieces locals marks (drop (i + 1) insns) k)) deeper
    ∙ ap (λ (xs : List Insn). out ++ pieces locals marks xs d) (sym (drop_next insns i x lt is))
    ∙ so_far

pub pieces_end : (locals : ℕ) (marks : Marks) (insns whole out : List Insn) (i d : ℕ) → length insns ≤ i
    → out ++ pieces locals marks (drop i insns) d ≡ whole → out ≡ whole
pieces_end locals marks insns whole out i d le so_far =
    let none : drop i insns ≡ [] = nil_from_length (drop i insns) (omega (arith, length-drop i insns)) in
    sym (append-nil out) ∙ ap (λ (xs : List Insn). out ++ pieces locals marks xs d) (sym none) ∙ so_far
