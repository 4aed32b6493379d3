-- One attribute more: its name, and what comes of its content.
use Rattle.std.proofs.Common.{◌≡◌, ℕ, zero, suc, Bool, true, false, cond, ltb, List, [], ◌∷◌, ◌++◌, length, refl, sym, ap, subst, ◌∙◌, arith}
use Rattle.std.specs.Prelude.{MatchBool}
use Rattle.std.specs.Int.{w16, w32}
use Rattle.std.proofs.lemmas.Bool.{le-ltb}
use Rattle.std.proofs.lemmas.List.{append-nil, length-append, take_at, drop_at}
use Rattle.class_input.specs.Reading.{Reading, ◌>>=◌, done, here, bytes, number, each, within}
use Rattle.class_input.specs.Grammar.{IsU16, IsU32, Each}
use Rattle.class_input.proofs.Laws.{Then, Walk, each_exact, u16_exact, Exact, Exact-same, then_exact, mapped_exact, here_exact, bytes_exact, within_exact, u32_exact}
use Rattle.const_pool.specs.Pool.{Pool}
use Rattle.class_names.specs.Pieces.{AtIndex}
use Rattle.class_names.specs.Names.{NamesBytes}
use Rattle.class_names.specs.Steps.{at_index}
use Rattle.class_names.specs.NameReading.{bytes_at}
use Rattle.class_attributes.specs.Attributes.{Attribute, IsAttribute}
use Rattle.class_attributes.specs.AttributeReading.{dropped, content, kept}
use Rattle.class_attributes.proofs.AttributeLaws.{IsContent, Step, Folded, Gathers, then_joined, last_joined, bytes_index_exact}

-- ---- what is dropped, and what is read

abbrev AnyText : ℕ → List ℕ → List ℕ → Type 0
AnyText n text x = (length text ≡ n) × (text ≡ x)

any_bytes_exact : (n : ℕ) → Exact (AnyText n) (bytes n)
unfolding bytes
any_bytes_exact n = record {
  takes = λ i x j fits h.
      let t = (bytes_exact n).takes i x j fits h in
      record { text = t.text; stands = (t.stands.0, t.stands.1); parts = t.parts; moved = t.moved };
  again = λ at text rest x h.
      let short : ltb (length (text ++ rest)) n ≡ false = le-ltb _ _ (omega (arith, h.0, length-append text rest)) in
      rw (short, take_at text rest n h.0, drop_at text rest n h.0, h.0, h.1) refl;
}

-- a content, whose length stands before it
pub content_exact : {A : Type 0} (R : List ℕ → A → Type 0) (r : Reading A) → Exact R r → Exact (IsContent R) (content r)
unfolding content
content_exact {A} R r e =
    let S : ℕ → List ℕ → A → Type 0 = λ len text a. (length text ≡ len) × R text a in
    Exact-same (Then IsU32 S) (IsContent R) (number w32 >>= λ len. within len r)
    (λ text a h. record { len = h.1; content = h.2; spelled = h.3; length_is = subst (λ (k : ℕ). IsU32 h.1 k) (sym h.5.0) h.4; stands = h.5.1 })
    (λ text a h. (length h.content, h.len, h.content, h.spelled, h.length_is, (refl, h.stands)))
    (then_exact IsU32 S (number w32) (λ len. within len r) u32_exact (λ len. within_exact R len r e))

abbrev Anything : List ℕ → Unit {0} → Type 0
Anything text u = Unit {0}

dropped_exact : Exact (IsContent Anything) dropped
unfolding dropped
dropped_exact =
    let S : ℕ → List ℕ → Unit {0} → Type 0 = λ len text u. (x : List ℕ) × AnyText len text x × (tt ≡ u) in
    Exact-same (Then IsU32 S) (IsContent Anything) (number w32 >>= λ len. bytes len >>= λ _. done tt)
    (λ text u h. record { len = h.1; content = h.2; spelled = h.3; length_is = subst (λ (k : ℕ). IsU32 h.1 k) (sym h.5.1.0) h.4; stands = tt })
    (λ text u h. (length h.content, h.len, h.content, h.spelled, h.length_is, (h.content, (refl, refl), refl)))
    (then_exact IsU32 S (number w32) (λ len. bytes len >>= λ _. done tt) u32_exact (λ len. mapped_exact (AnyText len) (bytes len) (λ _. tt) (any_bytes_exact len)))

-- a function of what a content says
pub content_mapped : {A S : Type 0} (R : List ℕ → A → Type 0) (r : Reading A) (f : A → S) → Exact (IsContent R) r → Exact (IsContent (λ content after. (a : A) × R content a × (f a ≡ after))) (r >>= λ a. done (f a))
content_mapped {A} {S} R r f e =
    let Says : List ℕ → S → Type 0 = λ content after. (a : A) × R content a × (f a ≡ after) in
    Exact-same (λ text after. (a : A) × IsContent R text a × (f a ≡ after)) (IsContent Says) (r >>= λ a. done (f a))
    (λ text after h. record { len = h.1.len; content = h.1.content; spelled = h.1.spelled; length_is = h.1.length_is; stands = (h.0, h.1.stands, h.2) })
    (λ text after h. (h.stands.0, record { len = h.len; content = h.content; spelled = h.spelled; length_is = h.length_is; stands = h.stands.1 }, h.stands.2))
    (mapped_exact (IsContent R) r f e)

content_same : {A : Type 0} (R S : List ℕ → A → Type 0) (r : Reading A) → ((text : List ℕ) (a : A) → R text a → S text a) → ((text : List ℕ) (a : A) → S text a → R text a) → Exact (IsContent R) r → Exact (IsContent S) r
content_same R S r to back e =
    Exact-same (IsContent R) (IsContent S) r
    (λ text a h. record { len = h.len; content = h.content; spelled = h.spelled; length_is = h.length_is; stands = to h.content a h.stands })
    (λ text a h. record { len = h.len; content = h.content; spelled = h.spelled; length_is = h.length_is; stands = back h.content a h.stands })
    e

pub kept_exact : {S : Type 0} (found : S) → Exact (IsContent (λ content after. found ≡ after)) (kept found)
kept_exact {S} found =
    content_same (λ content after. (u : Unit {0}) × Anything content u × (found ≡ after)) (λ content after. found ≡ after) (kept found)
    (λ content after h. h.2)
    (λ content after h. (tt, tt, h))
    (content_mapped Anything dropped (λ _. found) dropped_exact)

-- what is said of contents goes by a test
pub content_if : {A : Type 0} (b : Bool) (R S : List ℕ → A → Type 0) (x y : Reading A) → Exact (IsContent R) x → Exact (IsContent S) y → Exact (IsContent (λ content a. MatchBool b (R content a) (S content a))) (cond b x y)
content_if true R S x y p q = p
content_if false R S x y p q = q

-- a name, and behind it a content of which something is said by the name
pub step_exact : {S : Type 0} (Says : List ℕ → S → List ℕ → S → Type 0) (p : Pool) (found : S) (f : ℕ → List ℕ → Reading S)
    → ((place : ℕ) (name : List ℕ) → Exact (IsContent (Says name found)) (f place name))
    → Exact (Step (λ o a. Says a.name o a.content) p found) (here >>= λ place. at_index (bytes_at p) >>= f place)
step_exact {S} Says p found f e =
    let R : List ℕ → S → Type 0 = Then (AtIndex (NamesBytes p)) (λ name. IsContent (Says name found)) in
    let T : List ℕ → S → Type 0 = Step (λ o a. Says a.name o a.content) p found in
    Exact-same R T (here >>= λ place. at_index (bytes_at p) >>= f place)
    (λ text after h. record {
      attribute = record { name = h.0; content = h.5.content };
      stands = record { index = h.1; len = h.5.len; spelled = then_joined _ _ _ _ h.3 (then_joined _ _ _ _ h.5.spelled (last_joined h.5.content)); named = h.4; length_is = h.5.length_is };
      next = h.5.stands;
    })
    (λ text after h.
    let a = h.stands in
    let content = h.attribute.content in (
      h.attribute.name,
      a.index,
      a.len ++ content,
      a.spelled ∙ ap (λ (z : List ℕ). a.index ++ (a.len ++ z)) (append-nil content),
      a.named,
      record { len = a.len; content = content; spelled = refl; length_is = a.length_is; stands = h.next },
    ))
    (here_exact R (λ place. at_index (bytes_at p) >>= f place) (λ place. then_exact (AtIndex (NamesBytes p)) (λ name. IsContent (Says name found)) (at_index (bytes_at p)) (f place) (bytes_index_exact p) (e place)))

-- ---- many attributes

walk_folded : {S : Type 0} (Next : S → Attribute → S → Type 0) (p : Pool) (n : ℕ) (s : S) (text : List ℕ) (t : S) → Walk (Step Next p) n s text t
    → (xs : List Attribute) × (length xs ≡ n) × Each (IsAttribute p) text xs × Folded Next s xs t
walk_folded Next p zero s text t h = ([], refl, h.0, h.1)
walk_folded Next p (suc n) s text t h =
    let rest = walk_folded Next p n h.0 h.2 t h.5 in
    (h.4.attribute ∷ rest.0, ap suc rest.1, (h.1, h.2, h.3, h.4.stands, rest.2), (h.0, h.4.next, rest.3))

folded_walk : {S : Type 0} (Next : S → Attribute → S → Type 0) (p : Pool) (n : ℕ) (s : S) (text : List ℕ) (xs : List Attribute) (t : S) → length xs ≡ n → Each (IsAttribute p) text xs → Folded Next s xs t → Walk (Step Next p) n s text t
folded_walk Next p zero s text [] t len h e = (h, e)
folded_walk Next p zero s text (a ∷ xs) t len h e = absurd (omega (arith, len))
folded_walk Next p (suc n) s text [] t len h e = absurd (omega (arith, len))
folded_walk Next p (suc n) s text (a ∷ xs) t len h e = (e.0, h.0, h.1, h.2, record { attribute = a; stands = h.3; next = e.1 }, folded_walk Next p n e.0 h.1 xs t (omega (arith, len)) h.4 e.2)

pub table_of_exact : {S : Type 0} (Next : S → Attribute → S → Type 0) (p : Pool) (start : S) (step : S → Reading S) → ((s : S) → Exact (Step Next p s) (step s)) → Exact (Gathers Next p start) (number w16 >>= λ count. each count step start)
table_of_exact {S} Next p start step e =
    let W : ℕ → List ℕ → S → Type 0 = λ n. Walk (Step Next p) n start in
    Exact-same (Then IsU16 W) (Gathers Next p start) (number w16 >>= λ count. each count step start)
    (λ text t h.
    let c = walk_folded Next p h.0 start h.2 t h.5 in
    record {
      attributes = c.0;
      stand = record { count = h.1; rest = h.2; spelled = h.3; counted = subst (λ (k : ℕ). IsU16 h.1 k) (sym c.1) h.4; each_is = c.2 };
      folded = c.3;
    })
    (λ text t h. (length h.attributes, h.stand.count, h.stand.rest, h.stand.spelled, h.stand.counted, folded_walk Next p (length h.attributes) start h.stand.rest h.attributes t refl h.stand.each_is h.folded))
    (then_exact IsU16 W (number w16) (λ count. each count step start) u16_exact (λ n. each_exact (Step Next p) step e n start))
