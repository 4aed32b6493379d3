-- Typings, one after another.
use Rattle.std.proofs.Common.{◌≡◌, ℕ, zero, suc, ◌+◌, ◌<◌, ◌≤◌, List, [], ◌∷◌, ◌++◌, length, map, refl, sym, ap, ◌∙◌, Option, Some, Ok, Err, add-one, length-append, ◌⊎◌, inl, inr, arith}
use Rattle.std.specs.Prelude.{slice_get}
use Rattle.std.proofs.lemmas.Bool.{cases_lt}
use Rattle.std.proofs.lemmas.Option.{same_Some}
use Rattle.class_model.specs.declared.insn.Insn.{Insn}
use Rattle.class_model.specs.declared.class.Frame.{Frame}
use Rattle.type_rows.specs.declared.state.TypeState.{TypeState}
use Rattle.type_rows.specs.declared.rule.VerifyRule.{VerifyRule}
use Rattle.type_rows.specs.Method.{Method}
use Rattle.verifier.specs.declared.typing.Typing.{Typing}
use Rattle.verifier.specs.Check.{judge}
use Rattle.verifier.specs.Verifies.{falls_from, came, AreTypings, FirstUnverified}

get_front : {A : Type 0} (xs ys : List A) (k : ℕ) → k < length xs → slice_get (xs ++ ys) k ≡ slice_get xs k
get_front [] ys k h = absurd (omega arith)
get_front (x ∷ xs) ys zero h = refl
get_front (x ∷ xs) ys (suc k) h = get_front xs ys k (omega arith)

get_seam : {A : Type 0} (xs : List A) (y : A) (ys : List A) → slice_get (xs ++ y ∷ ys) (length xs) ≡ Some y
get_seam [] y ys = refl
get_seam (x ∷ xs) y ys = get_seam xs y ys

-- what falls in rests on the typings before
came_front : (m : Method) (ts us : List Typing) (k : ℕ) → k ≤ length ts → came m (ts ++ us) k ≡ came m ts k
came_front m ts us zero h = refl
came_front m ts us (suc k) h = ap falls_from (get_front ts us k (omega arith))

came_seam : (m : Method) (ts : List Typing) (t : Typing) → came m (ts ++ t ∷ []) (length ts + 1) ≡ t.falls_on
came_seam m ts t = rw add-one (ap falls_from (get_seam ts t []))

split_last : {A : Type 0} (xs : List A) (y z : A) (k : ℕ) → slice_get (xs ++ y ∷ []) k ≡ Some z → (length xs ≤ k) → (k ≡ length xs) × (y ≡ z)
split_last [] y z zero e h = (refl, same_Some y z e)
split_last [] y z (suc k) e h = cc
split_last (x ∷ xs) y z zero e h = absurd (omega arith)
split_last (x ∷ xs) y z (suc k) e h = let r = split_last xs y z k e (omega arith) in (ap suc r.0, r.1)

extend_at : (m : Method) (ts : List Typing) (i : Insn) (t : Typing) → AreTypings m ts → slice_get m.code.insns (length ts) ≡ Some i → judge m (length ts) i (came m ts (length ts)) ≡ Ok t → (at : ℕ) (j : Insn) (u : Typing) → slice_get m.code.insns at ≡ Some j → slice_get (ts ++ t ∷ []) at ≡ Some u → (at < length ts) ⊎ (length ts ≤ at) → judge m at j (came m (ts ++ t ∷ []) at) ≡ Ok u
extend_at m ts i t r here e at j u hj hu (inl l) =
    ap (judge m at j) (came_front m ts (t ∷ []) at (omega arith)) ∙ r.each at j u hj (sym (get_front ts (t ∷ []) at l) ∙ hu)
extend_at m ts i t r here e at j u hj hu (inr l) =
    let s = split_last ts t u at hu l in
    let same_insn : i ≡ j = same_Some i j (sym here ∙ ap (slice_get m.code.insns) (sym s.0) ∙ hj) in
    ap (judge m at j) (came_front m ts (t ∷ []) at (omega arith)) ∙ ap (λ x. judge m at x (came m ts at)) (sym same_insn) ∙ ap (λ k. judge m k i (came m ts k)) s.0 ∙ e ∙ ap Ok s.1

-- one more
extend : (m : Method) (ts : List Typing) (i : Insn) (t : Typing) → AreTypings m ts → slice_get m.code.insns (length ts) ≡ Some i → judge m (length ts) i (came m ts (length ts)) ≡ Ok t → AreTypings m (ts ++ t ∷ [])
extend m ts i t r here e = record { each = λ at j u hj hu. extend_at m ts i t r here e at j u hj hu (cases_lt at (length ts)) }

none_yet : (m : Method) → AreTypings m []
none_yet m = record { each = λ at j u hj hu. cc }

map_push : (ts : List Typing) (t : Typing) → map (λ t. t.frame) (ts ++ t ∷ []) ≡ map (λ t. t.frame) ts ++ t.frame ∷ []
map_push [] t = refl
map_push (u ∷ ts) t = ap (λ l. u.frame ∷ l) (map_push ts t)

-- the state of the pass: the frames of the first instructions, and what falls on
abbrev pub Passed : Method → List Frame → ℕ → Option TypeState → Type 0
Passed m frames n next = (ts : List Typing) × (map (λ t. t.frame) ts ≡ frames) × (length ts ≡ n) × AreTypings m ts × (came m ts n ≡ next)

pub starts : (m : Method) (next : Option TypeState) → came m [] 0 ≡ next → Passed m [] 0 next
starts m next e = ([], refl, refl, none_yet m, e)

pub passes : (m : Method) (frames : List Frame) (n : ℕ) (next : Option TypeState) (i : Insn) (t : Typing) → Passed m frames n next → slice_get m.code.insns n ≡ Some i → judge m n i next ≡ Ok t → Passed m (frames ++ t.frame ∷ []) (n + 1) t.falls_on
passes m frames n next i t p here e =
    let ts = p.0 in
    let here2 : slice_get m.code.insns (length ts) ≡ Some i = ap (slice_get m.code.insns) p.2 ∙ here in
    let e2 : judge m (length ts) i (came m ts (length ts)) ≡ Ok t = ap (λ k. judge m k i (came m ts k)) p.2 ∙ ap (judge m n i) p.4 ∙ e in
    (ts ++ t ∷ [], map_push ts t ∙ ap (λ l. l ++ t.frame ∷ []) p.1, length-append ts (t ∷ []) ∙ ap (λ k. k + 1) p.2, extend m ts i t p.3 here2 e2, ap (λ k. came m (ts ++ t ∷ []) (k + 1)) (sym p.2) ∙ came_seam m ts t)

pub stopped : (m : Method) (frames : List Frame) (n : ℕ) (next : Option TypeState) (i : Insn) (rule : VerifyRule) → Passed m frames n next → slice_get m.code.insns n ≡ Some i → judge m n i next ≡ Err rule → FirstUnverified m n rule
stopped m frames n next i rule p here e = (p.0, p.2, p.3, i, here, ap (judge m n i) p.4 ∙ e)
