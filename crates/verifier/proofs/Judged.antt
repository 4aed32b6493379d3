-- Steps of the check of an instruction.
use Rattle.std.proofs.Common.{◌≡◌, ℕ, ◌+◌, ◌<◌, List, length, get_or, drop, map, sym, ap, subst, ◌∙◌, ℤ, Result, Ok, add-one}
use Rattle.std.proofs.Math.Seq.{drop-cons}
use Rattle.class_model.specs.declared.insn.Insn.{Insn}
use Rattle.class_model.specs.declared.class.Handler.{Handler}
use Rattle.type_rows.specs.declared.state.TypeState.{TypeState}
use Rattle.type_rows.specs.declared.rule.VerifyRule.{VerifyRule}
use Rattle.type_rows.specs.declared.rule.Halt.{Halt}
use Rattle.type_rows.specs.Method.{Method}
use Rattle.type_rows.specs.State.{on_ok}
use Rattle.type_rows.specs.Halts.{Halts}
use Rattle.type_rows.specs.Jumps.{target_of}
use Rattle.type_rows.specs.Rows.{row}
use Rattle.type_rows.proofs.Steps.{halts_on}
use Rattle.verifier.specs.Frames.{frame_of}
use Rattle.verifier.specs.Check.{one_handled, handled, one_branched, branched, leave, pass as pass_of}

on_first : {A B : Type 0} (judged : Result A VerifyRule) (a : A) (go : A → Result B VerifyRule) → judged ≡ Ok a → on_ok judged go ≡ go a
on_first judged a go e = ap (λ r. on_ok r go) e

handled_more : (m : Method) (at : ℕ) (s : TypeState) (handlers : List Handler) (i : ℕ) (d : Handler) → i < length handlers → handled m at s (drop i handlers) ≡ on_ok (one_handled m at s (get_or handlers i d)) (λ _. handled m at s (drop (i + 1) handlers))
handled_more m at s handlers i d h = rw (add-one, drop-cons handlers i d)

pub handled_on : (m : Method) (at : ℕ) (s : TypeState) (handlers : List Handler) (i : ℕ) (d : Handler) → i < length handlers → one_handled m at s (get_or handlers i d) ≡ Ok tt → handled m at s (drop (i + 1) handlers) ≡ handled m at s (drop i handlers)
handled_on m at s handlers i d h e =
    sym (handled_more m at s handlers i d h ∙ on_first _ tt (λ _. handled m at s (drop (i + 1) handlers)) e)

pub handled_halt : (halt : Halt) (m : Method) (at : ℕ) (s : TypeState) (handlers : List Handler) (i : ℕ) (d : Handler) → i < length handlers → Halts halt (one_handled m at s (get_or handlers i d)) → Halts halt (handled m at s (drop i handlers))
handled_halt halt m at s handlers i d h e =
    subst (Halts halt) (sym (handled_more m at s handlers i d h)) (halts_on halt (one_handled m at s (get_or handlers i d)) (λ _. handled m at s (drop (i + 1) handlers)) e)

branched_more : (m : Method) (s : TypeState) (targets : List ℕ) (i d : ℕ) → i < length targets → branched m s (drop i targets) ≡ on_ok (one_branched m s (get_or targets i d)) (λ _. branched m s (drop (i + 1) targets))
branched_more m s targets i d h = rw (add-one, drop-cons targets i d)

pub branched_on : (m : Method) (s : TypeState) (targets : List ℕ) (i d : ℕ) → i < length targets → one_branched m s (get_or targets i d) ≡ Ok tt → branched m s (drop (i + 1) targets) ≡ branched m s (drop i targets)
branched_on m s targets i d h e =
    sym (branched_more m s targets i d h ∙ on_first _ tt (λ _. branched m s (drop (i + 1) targets)) e)

pub branched_halt : (halt : Halt) (m : Method) (s : TypeState) (targets : List ℕ) (i d : ℕ) → i < length targets → Halts halt (one_branched m s (get_or targets i d)) → Halts halt (branched m s (drop i targets))
branched_halt halt m s targets i d h e =
    subst (Halts halt) (sym (branched_more m s targets i d h)) (halts_on halt (one_branched m s (get_or targets i d)) (λ _. branched m s (drop (i + 1) targets)) e)

rows_more : (m : Method) (s : TypeState) (rows : List (ℤ × ℕ)) (i : ℕ) (d : ℤ × ℕ) → i < length rows → branched m s (map target_of (drop i rows)) ≡ on_ok (one_branched m s (get_or rows i d).1) (λ _. branched m s (map target_of (drop (i + 1) rows)))
rows_more m s rows i d h = rw (add-one, drop-cons rows i d)

pub rows_on : (m : Method) (s : TypeState) (rows : List (ℤ × ℕ)) (i : ℕ) (d : ℤ × ℕ) → i < length rows → one_branched m s (get_or rows i d).1 ≡ Ok tt → branched m s (map target_of (drop (i + 1) rows)) ≡ branched m s (map target_of (drop i rows))
rows_on m s rows i d h e =
    sym (rows_more m s rows i d h ∙ on_first _ tt (λ _. branched m s (map target_of (drop (i + 1) rows))) e)

pub rows_halt : (halt : Halt) (m : Method) (s : TypeState) (rows : List (ℤ × ℕ)) (i : ℕ) (d : ℤ × ℕ) → i < length rows → Halts halt (one_branched m s (get_or rows i d).1) → Halts halt (branched m s (map target_of (drop i rows)))
rows_halt halt m s rows i d h e =
    subst (Halts halt) (sym (rows_more m s rows i d h)) (halts_on halt (one_branched m s (get_or rows i d).1) (λ _. branched m s (map target_of (drop (i + 1) rows))) e)

pub pass_is : (m : Method) (at : ℕ) (insn : Insn) (s behind : TypeState) → handled m at s m.code.handlers ≡ Ok tt → row m at insn s ≡ Ok behind → pass_of m at insn s ≡ leave m at insn (frame_of s) behind
pass_is m at insn s behind h e =
    on_first _ tt (λ _. on_ok (row m at insn s) (λ x. leave m at insn (frame_of s) x)) h ∙ on_first _ behind (λ x. leave m at insn (frame_of s) x) e

pub pass_halts : (halt : Halt) (m : Method) (at : ℕ) (insn : Insn) (s : TypeState) → handled m at s m.code.handlers ≡ Ok tt → Halts halt (row m at insn s) → Halts halt (pass_of m at insn s)
pass_halts halt m at insn s h r =
    subst (Halts halt) (sym (on_first _ tt (λ _. on_ok (row m at insn s) (λ x. leave m at insn (frame_of s) x)) h)) (halts_on halt (row m at insn s) (λ x. leave m at insn (frame_of s) x) r)
