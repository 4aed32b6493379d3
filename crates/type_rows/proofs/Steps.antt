-- Steps of a check.
use Rattle.std.proofs.Common.{◌≡◌, ℕ, ◌+◌, ◌<◌, ◌≤◌, List, [], ◌∷◌, length, get_or, take, map, reverse, sym, ap, subst, ◌∙◌, add-one, Result, Ok, arith}
use Rattle.std.specs.Prelude.{replicate}
use Rattle.std.proofs.Math.Seq.{take-length}
use Rattle.std.proofs.lemmas.List.{reverse-append, take_more}
use Rattle.class_model.specs.declared.types.JType.{JType}
use Rattle.class_model.specs.declared.class.VType.{VType}
use Rattle.class_model.specs.declared.class.VType.TheVariants.{Int}
use Rattle.class_set.specs.Assignable.{type_of}
use Rattle.type_rows.specs.Method.{Method}
use Rattle.type_rows.specs.Operands.{pop, pops}
use Rattle.type_rows.specs.declared.rule.VerifyRule.{VerifyRule}
use Rattle.type_rows.specs.declared.rule.Halt.{Halt}
use Rattle.type_rows.specs.declared.rule.Halt.TheVariants.{Broken, Memory}
use Rattle.type_rows.specs.Halts.{Halts}
use Rattle.type_rows.specs.State.{on_ok}

-- what ends the first part ends the whole
pub halts_on : {A B : Type 0} (halt : Halt) (judged : Result A VerifyRule) (go : A → Result B VerifyRule) → Halts halt judged → Halts halt (on_ok judged go)
halts_on (Broken rule) judged go e = ap (λ r. on_ok r go) e
halts_on Memory judged go e = tt

on_first : {A B : Type 0} (judged : Result A VerifyRule) (a : A) (go : A → Result B VerifyRule) → judged ≡ Ok a → on_ok judged go ≡ go a
on_first judged a go e = ap (λ r. on_ok r go) e

-- the arguments of the first parameters, the last one on top
abbrev pub arguments_of : ℕ → List JType → List VType
arguments_of count params = map type_of (reverse (take count params))

arguments_more : (params : List JType) (k : ℕ) (d : JType) → k < length params → arguments_of (k + 1) params ≡ type_of (get_or params k d) ∷ arguments_of k params
arguments_more params k d h =
    ap (λ types. map type_of (reverse types)) (take_more params k d h) ∙ ap (map type_of) (reverse-append (take k params) (get_or params k d ∷ []))

pub arguments_whole : (params : List JType) → arguments_of (length params) params ≡ map type_of (reverse params)
arguments_whole params = ap (λ types. map type_of (reverse types)) (take-length params)

pub pops_on : (m : Method) (params : List JType) (k left : ℕ) (ty : JType) (stack rest : List VType) → k + 1 ≡ left → left ≤ length params → ty ≡ get_or params k ty → pop m (type_of ty) stack ≡ Ok rest → pops m (arguments_of k params) rest ≡ pops m (arguments_of left params) stack
pops_on m params k left ty stack rest n h is e =
    let here : pop m (type_of (get_or params k ty)) stack ≡ Ok rest = ap (λ t. pop m (type_of t) stack) (sym is) ∙ e in
    sym (ap (λ l. pops m (arguments_of l params) stack) (sym n) ∙ ap (λ types. pops m types stack) (arguments_more params k ty (omega arith)) ∙ on_first _ rest (λ s. pops m (arguments_of k params) s) here)

pub pops_halt : (halt : Halt) (m : Method) (params : List JType) (k left : ℕ) (ty : JType) (stack : List VType) → k + 1 ≡ left → left ≤ length params → ty ≡ get_or params k ty → Halts halt (pop m (type_of ty) stack) → Halts halt (pops m (arguments_of left params) stack)
pops_halt halt m params k left ty stack n h is e =
    let here = subst (λ t. Halts halt (pop m (type_of t) stack)) is e in
    let whole = halts_on halt (pop m (type_of (get_or params k ty)) stack) (λ s. pops m (arguments_of k params) s) here in
    subst (λ l. Halts halt (pops m (arguments_of l params) stack)) n (subst (λ types. Halts halt (pops m types stack)) (sym (arguments_more params k ty (omega arith))) whole)

pub lengths_on : (m : Method) (k : ℕ) (stack rest : List VType) → pop m Int stack ≡ Ok rest → pops m (replicate k Int) rest ≡ pops m (replicate (k + 1) Int) stack
lengths_on m k stack rest e = sym (ap (λ n. pops m (replicate n Int) stack) (add-one k) ∙ on_first _ rest (λ s. pops m (replicate k Int) s) e)

pub lengths_halt : (halt : Halt) (m : Method) (k : ℕ) (stack : List VType) → Halts halt (pop m Int stack) → Halts halt (pops m (replicate (k + 1) Int) stack)
lengths_halt halt m k stack e =
    subst (λ n. Halts halt (pops m (replicate n Int) stack)) (sym (add-one k)) (halts_on halt (pop m Int stack) (λ s. pops m (replicate k Int) s) e)
