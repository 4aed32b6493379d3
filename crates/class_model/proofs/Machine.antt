-- Reading by steps against a grammar: what is read is spelled, and the place of a refusal ends the longest prefix of a text of the grammar.
use Rattle.std.proofs.Common.{◌≡◌, ◌∙◌, ◌⊎◌, ℕ, zero, suc, ◌+◌, ◌<◌, ◌≤◌, List, [], ◌∷◌, ◌++◌, length, take, Option, Some, None, Result, Ok, Err, refl, sym, ap, subst, append_assoc, arith, inl, inr}
use Rattle.std.proofs.lemmas.List.{append-nil}
use Rattle.class_model.specs.Descriptor.{IsLongest}
use Rattle.class_model.specs.Reading.{read, going, ended}

ended_ok : {A : Type 0} (r : Option A) (at : ℕ) (value : A) → ended r at ≡ Ok value → r ≡ Some value
ended_ok None at value e = absurd cc
ended_ok (Some x) at value e = cc

ended_err : {A : Type 0} (r : Option A) (at place : ℕ) → ended r at ≡ Err place → at ≡ place
ended_err None at place e = cc
ended_err (Some x) at place e = absurd cc

pub going_ok : {S A : Type 0} (r : Option S) (at : ℕ) (next : S → Result A ℕ) (value : A) → going r at next ≡ Ok value → (stage : S) × (r ≡ Some stage) × (next stage ≡ Ok value)
going_ok None at next value e = absurd cc
going_ok (Some stage) at next value e = (stage, refl, e)

pub going_err : {S A : Type 0} (r : Option S) (at : ℕ) (next : S → Result A ℕ) (place : ℕ) → going r at next ≡ Err place
    → ((r ≡ None) × (at ≡ place)) ⊎ ((stage : S) × (r ≡ Some stage) × (next stage ≡ Err place))
going_err None at next place e = inl (refl, cc)
going_err (Some stage) at next place e = inr (stage, refl, e)

-- how the stages of reading stand to a grammar: each stands for the text read so far, and goes on to some text of the grammar
pub record Follows {S A : Type 0} (step : S → ℕ → Option S) (finish : S → Option A) (Spells : List ℕ → A → Type 0) (text_of : S → List ℕ) (Fine : S → Type 0) : Type 0 where
  pub steps : (stage : S) (unit : ℕ) (next : S) → Fine stage → step stage unit ≡ Some next → Fine next × (text_of next ≡ text_of stage ++ unit ∷ [])
  pub ends : (stage : S) (value : A) → Fine stage → finish stage ≡ Some value → Spells (text_of stage) value
  pub goes_on : (stage : S) → Fine stage → (rest : List ℕ) × (value : A) × Spells (text_of stage ++ rest) value

one_more : (text : List ℕ) (unit : ℕ) (units longer : List ℕ) → longer ≡ text ++ unit ∷ [] → longer ++ units ≡ text ++ unit ∷ units
one_more text unit units longer e = ap (λ (xs : List ℕ). xs ++ units) e ∙ append_assoc text (unit ∷ []) units

pub sound : {S A : Type 0} {step : S → ℕ → Option S} {finish : S → Option A} {Spells : List ℕ → A → Type 0} {text_of : S → List ℕ} {Fine : S → Type 0} → Follows step finish Spells text_of Fine
    → (stage : S) (at : ℕ) (units : List ℕ) (value : A) → Fine stage → read step finish stage at units ≡ Ok value → Spells (text_of stage ++ units) value
unfolding read
sound {step = step} {finish = finish} {Spells = Spells} {text_of = text_of} m stage at [] value fine e =
    subst (λ (text : List ℕ). Spells text value) (sym (append-nil (text_of stage))) (m.ends stage value fine (ended_ok (finish stage) at value e))
sound {step = step} {finish = finish} {Spells = Spells} {text_of = text_of} m stage at (unit ∷ units) value fine e =
    let p = going_ok (step stage unit) at (λ next. read step finish next (at + 1) units) value e in
    let q = m.steps stage unit p.0 fine p.1 in
    subst (λ (text : List ℕ). Spells text value) (one_more (text_of stage) unit units (text_of p.0) q.1) (sound m p.0 (at + 1) units value q.0 p.2)

-- where reading stops
pub record Stopped {S : Type 0} (text_of : S → List ℕ) (Fine : S → Type 0) (stage : S) (at : ℕ) (units : List ℕ) (place : ℕ) : Type 0 where
  pub taken : ℕ
  pub at_place : place ≡ at + taken
  pub within : taken ≤ length units
  pub last : S
  pub fine : Fine last
  pub text : text_of last ≡ text_of stage ++ take taken units

here : {S : Type 0} (text_of : S → List ℕ) (Fine : S → Type 0) (stage : S) (at : ℕ) (units : List ℕ) (place : ℕ) → Fine stage → at ≡ place → Stopped text_of Fine stage at units place
here text_of Fine stage at units place fine e = record { taken = 0; at_place = omega arith; within = omega arith; last = stage; fine = fine; text = sym (append-nil (text_of stage)) }

pub stopped : {S A : Type 0} {step : S → ℕ → Option S} {finish : S → Option A} {Spells : List ℕ → A → Type 0} {text_of : S → List ℕ} {Fine : S → Type 0} → Follows step finish Spells text_of Fine
    → (stage : S) (at : ℕ) (units : List ℕ) (place : ℕ) → Fine stage → read step finish stage at units ≡ Err place → Stopped text_of Fine stage at units place
unfolding read
stopped {finish = finish} {text_of = text_of} {Fine = Fine} m stage at [] place fine e = here text_of Fine stage at [] place fine (ended_err (finish stage) at place e)
stopped {step = step} {finish = finish} {text_of = text_of} {Fine = Fine} m stage at (unit ∷ units) place fine e =
    elim (going_err (step stage unit) at (λ next. read step finish next (at + 1) units) place e) [
      | inl stuck ↦ here text_of Fine stage at (unit ∷ units) place fine stuck.1
      | inr p ↦
          let q = m.steps stage unit p.0 fine p.1 in
          let r = stopped m p.0 (at + 1) units place q.0 p.2 in
          record {
            taken = suc r.taken;
            at_place = omega arith;
            within = omega arith;
            last = r.last;
            fine = r.fine;
            text = r.text ∙ one_more (text_of stage) unit (take r.taken units) (text_of p.0) q.1;
          }
    ]

not_before : {S A : Type 0} (step : S → ℕ → Option S) (finish : S → Option A) (stage : S) (at : ℕ) (units : List ℕ) (place : ℕ) → read step finish stage at units ≡ Err place → at ≤ place
unfolding read
not_before step finish stage at [] place e = omega (arith, ended_err (finish stage) at place e)
not_before step finish stage at (unit ∷ units) place e =
    elim (going_err (step stage unit) at (λ next. read step finish next (at + 1) units) place e) [
      | inl stuck ↦ omega arith
      | inr p ↦ omega (arith, not_before step finish p.0 (at + 1) units place p.2)
    ]

-- where a text is refused, so is each that begins with more of it
same_stop : {S A : Type 0} (step : S → ℕ → Option S) (finish : S → Option A) (stage : S) (at : ℕ) (units : List ℕ) (place more : ℕ) (rest : List ℕ)
    → read step finish stage at units ≡ Err place → place < at + more → more ≤ length units → read step finish stage at (take more units ++ rest) ≡ Err place
unfolding read
same_stop step finish stage at [] place more rest e h within = absurd (omega (arith, ended_err (finish stage) at place e))
same_stop step finish stage at (unit ∷ units) place zero rest e h within = absurd (omega (arith, not_before step finish stage at (unit ∷ units) place e))
same_stop {S = S} {A = A} step finish stage at (unit ∷ units) place (suc more) rest e h within =
    let next : S → Result A ℕ = λ n. read step finish n (at + 1) (take more units ++ rest) in
    elim (going_err (step stage unit) at (λ next. read step finish next (at + 1) units) place e) [
      | inl stuck ↦ ap (λ r. going r at next) stuck.0 ∙ ap Err stuck.1
      | inr p ↦ ap (λ r. going r at next) p.1 ∙ same_stop step finish p.0 (at + 1) units place more rest p.2 (omega arith) (omega arith)
    ]

-- reading from a first stage that spells each text of the grammar
pub record Exact {S A : Type 0} (step : S → ℕ → Option S) (finish : S → Option A) (start : S) (Spells : List ℕ → A → Type 0) : Type 0 where
  pub spelled : (text : List ℕ) (value : A) → read step finish start 0 text ≡ Ok value → Spells text value
  pub reads : (text : List ℕ) (value : A) → Spells text value → read step finish start 0 text ≡ Ok value
  pub longest : (text : List ℕ) (place : ℕ) → read step finish start 0 text ≡ Err place → IsLongest Spells text place

pub exact : {S A : Type 0} {step : S → ℕ → Option S} {finish : S → Option A} {Spells : List ℕ → A → Type 0} {text_of : S → List ℕ} {Fine : S → Type 0} → Follows step finish Spells text_of Fine
    → (start : S) → Fine start → text_of start ≡ [] → ((text : List ℕ) (value : A) → Spells text value → read step finish start 0 text ≡ Ok value) → Exact step finish start Spells
exact {step = step} {finish = finish} {Spells = Spells} {text_of = text_of} m start fine empty reads = record {
  spelled = λ text value e. subst (λ (front : List ℕ). Spells (front ++ text) value) empty (sound m start 0 text value fine e);
  reads = reads;
  longest = λ text place e.
      let s = stopped m start 0 text place fine e in
      let g = m.goes_on s.last s.fine in
      let is : s.taken ≡ place = omega arith in
      let front : text_of s.last ≡ take place text = s.text ∙ ap (λ (t : List ℕ). t ++ take s.taken text) empty ∙ ap (λ k. take k text) is in
      record {
        within = omega arith;
        begins = record { rest = g.0; value = g.1; spelled = subst (λ (t : List ℕ). Spells (t ++ g.0) g.1) front g.2 };
        longest = λ more h within b.
            let again = same_stop step finish start 0 text place more b.rest e (omega arith) within in
            let ok = reads (take more text ++ b.rest) b.value b.spelled in
            cc;
      };
}
