-- What is kept of methods, one after another.
use Rattle.std.proofs.Common.{◌≡◌, ℕ, zero, suc, ◌+◌, ◌<◌, ◌≤◌, List, [], ◌∷◌, ◌++◌, length, refl, sym, ap, ◌∙◌, subst, Option, Some, None, length-append, ◌⊎◌, inl, inr, arith}
use Rattle.std.specs.Prelude.{slice_get, option_and_then, IfSome}
use Rattle.std.proofs.lemmas.Bool.{cases_lt}
use Rattle.std.proofs.lemmas.Option.{same_Some, slice_get_past, slice_get_within, get_or_from_slice_get}
use Rattle.class_model.specs.declared.class.ClassDef.{ClassDef}
use Rattle.class_model.specs.declared.class.MethodDef.{MethodDef}
use Rattle.type_rows.specs.declared.rule.VerifyRule.{VerifyRule}
use Rattle.type_rows.specs.Method.{Method}
use Rattle.verifier.specs.declared.typed_code.VerifyStop.{VerifyStop}
use Rattle.verifier.specs.declared.typed_code.VerifyStop.TheVariants.{Unverified, Memory}
use Rattle.verifier.specs.declared.sets.Found.{Found}
use Rattle.verifier.specs.declared.sets.Found.TheVariants as founds
use Rattle.set_lookups.specs.declared.ids.MethodId.{MethodId}
use Rattle.verifier.specs.Set.{method_in, method_from, method_of, IsCheckableClass, IsCheckableSet}
use Rattle.verifier.specs.Verifies.{Verifies}
use Rattle.verifier.specs.Typed.{Typed}
use Rattle.verifier.specs.WholeSet.{Keeps, KeepsTyped, Fails, Refuses, Earlier, FirstInSet, kept_in, kept_at, IsRow, FailsInClass, StopsClass, told, AreRows, StopsSet}

row_front : (row : List (Option Typed)) (kept : Option Typed) (k : ℕ) → k < length row → kept_in (row ++ kept ∷ []) k ≡ kept_in row k
row_front [] kept k h = absurd (omega arith)
row_front (r ∷ row) kept zero h = refl
row_front (r ∷ row) kept (suc k) h = row_front row kept k (omega arith)

row_seam : (row : List (Option Typed)) (kept : Option Typed) → kept_in (row ++ kept ∷ []) (length row) ≡ kept
row_seam [] kept = refl
row_seam (r ∷ row) kept = row_seam row kept

pub row_starts : (set : List ClassDef) (number : ℕ) (class : ClassDef) → IsRow set number class [] 0
row_starts set number class = record { counted = refl; each = λ k method h e. absurd (omega arith) }

row_each : (set : List ClassDef) (number : ℕ) (class : ClassDef) (row : List (Option Typed)) (kept : Option Typed) (i : ℕ) (method : MethodDef) → IsRow set number class row i → slice_get class.methods i ≡ Some method → Keeps (method_in set number class method) kept → (k : ℕ) (other : MethodDef) → k < i + 1 → slice_get class.methods k ≡ Some other → (k < i) ⊎ (i ≤ k) → Keeps (method_in set number class other) (kept_in (row ++ kept ∷ []) k)
row_each set number class row kept i method r here keeps k other h e (inl l) =
    subst (λ x. Keeps (method_in set number class other) x) (sym (row_front row kept k (let c = r.counted in omega arith))) (r.each k other l e)
row_each set number class row kept i method r here keeps k other h e (inr l) =
    let same_k : k ≡ length row = (let c = r.counted in omega arith) in
    let at_k : kept_in (row ++ kept ∷ []) k ≡ kept = ap (kept_in (row ++ kept ∷ [])) same_k ∙ row_seam row kept in
    let k_is_i : i ≡ k = omega arith in
    let same_method : method ≡ other = same_Some method other (sym here ∙ ap (slice_get class.methods) k_is_i ∙ e) in
    subst (λ x. Keeps (method_in set number class other) x) (sym at_k) (subst (λ x. Keeps (method_in set number class x) kept) same_method keeps)

pub row_more : (set : List ClassDef) (number : ℕ) (class : ClassDef) (row : List (Option Typed)) (kept : Option Typed) (i : ℕ) (method : MethodDef) → IsRow set number class row i → slice_get class.methods i ≡ Some method → Keeps (method_in set number class method) kept → IsRow set number class (row ++ kept ∷ []) (i + 1)
row_more set number class row kept i method r here keeps = record {
  counted = length-append row (kept ∷ []) ∙ ap (λ k. k + 1) r.counted;
  each = λ k other h e. row_each set number class row kept i method r here keeps k other h e (cases_lt k i);
}

typed_verifies : (m : Method) (kept : Option Typed) → KeepsTyped m kept → Verifies m
typed_verifies m None k = absurd k
typed_verifies m (Some typed) k = (typed.frames, k.frames_are)

pub keeps_verifies : (o : Option Method) (kept : Option Typed) → Keeps o kept → IfSome o Verifies
keeps_verifies None kept k = tt
keeps_verifies (Some m) kept k = typed_verifies m kept k

pub class_fails : (set : List ClassDef) (number : ℕ) (class : ClassDef) (row : List (Option Typed)) (i : ℕ) (method : MethodDef) (at : ℕ) (rule : VerifyRule) → IsRow set number class row i → slice_get class.methods i ≡ Some method → Fails (method_in set number class method) at rule → FailsInClass set number class i at rule
class_fails set number class row i method at rule r here f = record {
  method = method;
  is = here;
  fails = f;
  earlier = λ k other h e. keeps_verifies (method_in set number class other) (kept_in row k) (r.each k other h e);
}

pub class_stops : (set : List ClassDef) (number : ℕ) (class : ClassDef) (row : List (Option Typed)) (i : ℕ) (method : MethodDef) (stop : VerifyStop) → IsRow set number class row i → slice_get class.methods i ≡ Some method → Refuses (method_in set number class method) stop → StopsClass set number class (told number i stop)
class_stops set number class row i method (Unverified at rule) r here f = (refl, class_fails set number class row i method at rule r here f)
class_stops set number class row i method Memory r here f = tt

pub rows_start : (set : List ClassDef) → AreRows set [] 0
rows_start set = record { counted = refl; each = λ id h. absurd (omega arith) }

rows_front : (rows : List (List (Option Typed))) (row : List (Option Typed)) (k : ℕ) → k < length rows → slice_get (rows ++ row ∷ []) k ≡ slice_get rows k
rows_front [] row k h = absurd (omega arith)
rows_front (r ∷ rows) row zero h = refl
rows_front (r ∷ rows) row (suc k) h = rows_front rows row k (omega arith)

rows_seam : (rows : List (List (Option Typed))) (row : List (Option Typed)) → slice_get (rows ++ row ∷ []) (length rows) ≡ Some row
rows_seam [] row = refl
rows_seam (r ∷ rows) row = rows_seam rows row

past_end : (methods : List MethodDef) (k : ℕ) → slice_get methods k ≡ None → length methods ≤ k
past_end [] k h = omega arith
past_end (m ∷ methods) zero h = cc
past_end (m ∷ methods) (suc k) h = let l = past_end methods k h in omega arith

in_row : (set : List ClassDef) (number : ℕ) (class : ClassDef) (row : List (Option Typed)) (index : ℕ) (o : Option MethodDef) → IsRow set number class row (length class.methods) → slice_get class.methods index ≡ o → Keeps (option_and_then (method_in set number class) o) (kept_in row index)
in_row set number class row index None r e =
    ap (option_and_then (λ kept. kept)) (slice_get_past row index (let c = r.counted in let l = past_end class.methods index e in omega arith))
in_row set number class row index (Some method) r e = r.each index method (slice_get_within class.methods index method e) e

row_at : (set : List ClassDef) (class : ClassDef) (row : List (Option Typed)) (id : MethodId) → slice_get set id.class ≡ Some class → IsRow set id.class class row (length class.methods) → Keeps (method_of set id) (kept_in row id.index)
row_at set class row id e r =
    subst (λ o. Keeps (option_and_then (method_from set id) o) (kept_in row id.index)) (sym e) (in_row set id.class class row id.index (slice_get class.methods id.index) r refl)

rows_each : (set : List ClassDef) (rows : List (List (Option Typed))) (row : List (Option Typed)) (i : ℕ) (class : ClassDef) → AreRows set rows i → slice_get set i ≡ Some class → IsRow set i class row (length class.methods) → (id : MethodId) → id.class < i + 1 → (id.class < i) ⊎ (i ≤ id.class) → Keeps (method_of set id) (kept_at (rows ++ row ∷ []) id)
rows_each set rows row i class r here keeps id h (inl l) =
    subst (λ o. Keeps (method_of set id) (option_and_then (λ x. kept_in x id.index) o)) (sym (rows_front rows row id.class (let c = r.counted in omega arith))) (r.each id l)
rows_each set rows row i class r here keeps id h (inr l) =
    let is_i : i ≡ id.class = omega arith in
    let last : length rows ≡ id.class = (let c = r.counted in omega arith) in
    let seam : slice_get (rows ++ row ∷ []) id.class ≡ Some row = subst (λ k. slice_get (rows ++ row ∷ []) k ≡ Some row) last (rows_seam rows row) in
    let class_at : slice_get set id.class ≡ Some class = subst (λ k. slice_get set k ≡ Some class) is_i here in
    subst (λ o. Keeps (method_of set id) (option_and_then (λ x. kept_in x id.index) o)) (sym seam) (row_at set class row id class_at (subst (λ k. IsRow set k class row (length class.methods)) is_i keeps))

pub rows_more : (set : List ClassDef) (rows : List (List (Option Typed))) (row : List (Option Typed)) (i : ℕ) (class : ClassDef) → AreRows set rows i → slice_get set i ≡ Some class → IsRow set i class row (length class.methods) → AreRows set (rows ++ row ∷ []) (i + 1)
rows_more set rows row i class r here keeps = record {
  counted = length-append rows (row ∷ []) ∙ ap (λ k. k + 1) r.counted;
  each = λ id h. rows_each set rows row i class r here keeps id h (cases_lt id.class i);
}

earlier_methods : (set : List ClassDef) (number : ℕ) (class : ClassDef) (index k at : ℕ) (rule : VerifyRule) (o : Option MethodDef) → FailsInClass set number class index at rule → k < index → slice_get class.methods k ≡ o → IfSome (option_and_then (method_in set number class) o) Verifies
earlier_methods set number class index k at rule None f l e = tt
earlier_methods set number class index k at rule (Some method) f l e = f.earlier k method l e

earlier_in : (set : List ClassDef) (rows : List (List (Option Typed))) (class : ClassDef) (id other : MethodId) (at : ℕ) (rule : VerifyRule) → AreRows set rows id.class → slice_get set id.class ≡ Some class → FailsInClass set id.class class id.index at rule → Earlier other id → IfSome (method_of set other) Verifies
earlier_in set rows class id other at rule r here f (inl l) = keeps_verifies (method_of set other) (kept_at rows other) (r.each other l)
earlier_in set rows class id other at rule r here f (inr l) =
    let class_at : slice_get set other.class ≡ Some class = subst (λ k. slice_get set k ≡ Some class) (sym l.0) here in
    let there = subst (λ k. FailsInClass set k class id.index at rule) (sym l.0) f in
    subst (λ o. IfSome (option_and_then (method_from set other) o) Verifies) (sym class_at) (earlier_methods set other.class class id.index other.index at rule (slice_get class.methods other.index) there l.1 refl)

set_fails : (set : List ClassDef) (rows : List (List (Option Typed))) (class : ClassDef) (id : MethodId) (at : ℕ) (rule : VerifyRule) → AreRows set rows id.class → slice_get set id.class ≡ Some class → FailsInClass set id.class class id.index at rule → FirstInSet set id at rule
set_fails set rows class id at rule r here f = record {
  fails = subst (λ o. Fails (option_and_then (method_from set id) o) at rule) (sym here) (subst (λ o. Fails (option_and_then (method_in set id.class class) o) at rule) (sym f.is) f.fails);
  earlier = λ other e. earlier_in set rows class id other at rule r here f e;
}

pub set_stops : (set : List ClassDef) (rows : List (List (Option Typed))) (i : ℕ) (class : ClassDef) (found : Found) → AreRows set rows i → slice_get set i ≡ Some class → StopsClass set i class found → StopsSet set found
set_stops set rows i class (founds.Unverified id at rule) r here f =
    set_fails set rows class id at rule (subst (λ k. AreRows set rows k) (sym f.0) r) (subst (λ k. slice_get set k ≡ Some class) (sym f.0) here) (subst (λ k. FailsInClass set k class id.index at rule) (sym f.0) f.1)
set_stops set rows i class founds.Memory r here f = tt

pub class_checkable : (set : List ClassDef) (number : ℕ) (class : ClassDef) → IsCheckableSet set → slice_get set number ≡ Some class → IsCheckableClass class
class_checkable set number class s e =
    subst IsCheckableClass (get_or_from_slice_get set number class class e) (s.each number class (slice_get_within set number class e))
