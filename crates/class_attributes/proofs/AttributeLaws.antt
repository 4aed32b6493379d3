-- Reading tables of attributes is exact for the attributes that stand in them.
use Rattle.std.proofs.Common.{◌≡◌, ℕ, zero, suc, Bool, true, false, cond, ltb, List, [], ◌∷◌, ◌++◌, length, Option, Some, None, refl, sym, ap, subst, ◌∙◌, arith}
use Rattle.std.specs.Prelude.{MatchBool}
use Rattle.std.specs.Int.{w16, w32}
use Rattle.std.specs.Cmp.Lexicographic.{bytes_decides}
use Rattle.std.proofs.lemmas.Bool.{le-ltb}
use Rattle.std.proofs.lemmas.List.{append-nil, length-append, take_at, drop_at}
use Rattle.class_input.specs.declared.bad_class.BadKind.TheVariants.{Twice}
use Rattle.class_input.specs.Reading.{Reading, ◌>>=◌, done, here, bytes, number, each, within}
use Rattle.class_input.specs.Grammar.{IsU16, IsU32, Each}
use Rattle.class_input.proofs.Laws.{Then, Walk, Exact, Exact-same, refused_exact, then_exact, mapped_exact, here_exact, bytes_exact, within_exact, u16_exact, u32_exact, each_exact}
use Rattle.const_pool.specs.Pool.{Pool, as_text}
use Rattle.class_names.specs.Pieces.{IsTable, AtIndex}
use Rattle.class_names.specs.Names.{NamesBytes}
use Rattle.class_names.specs.Steps.{at_index}
use Rattle.class_names.specs.NameReading.{bytes_at}
use Rattle.class_names.proofs.StepLaws.{at_index_exact}
use Rattle.class_names.proofs.NameLaws.{named_judges}
use Rattle.class_attributes.specs.Attributes.{Attribute, IsAttribute, is_named, contents, AtMostOne, ReadsOne, ReadsTwo}
use Rattle.class_attributes.specs.AttributeReading.{dropped, content, once, kept, one_attribute, one_read, once_first, once_second, two_attribute, none_found, two_read}

-- ---- pieces of texts

pub then_joined : (text first rest pieces : List ℕ) → text ≡ first ++ rest → rest ≡ pieces → text ≡ first ++ pieces
then_joined text first rest pieces e f = e ∙ ap (λ (z : List ℕ). first ++ z) f

pub last_joined : (text : List ℕ) → text ≡ text ++ []
last_joined text = sym (append-nil text)

-- ---- what is dropped, and what is read

abbrev AnyText : ℕ → List ℕ → List ℕ → Type 0
AnyText n text x = (length text ≡ n) × (text ≡ x)

-- so many bytes, whatever they are
any_bytes_exact : (n : ℕ) → Exact (AnyText n) (bytes n)
unfolding bytes
any_bytes_exact n = record {
  takes = λ i x j fits h.
      let t = (bytes_exact n).takes i x j fits h in
      record { text = t.text; stands = (t.stands.0, t.stands.1); parts = t.parts; moved = t.moved };
  again = λ at text rest x h.
      let short : ltb (length (text ++ rest)) n ≡ false = le-ltb _ _ (omega (arith, h.0, length-append text rest)) in
      rw (short, take_at text rest n h.0, drop_at text rest n h.0, h.0, h.1) refl;
}

-- a length, and so many bytes
pub record IsContent {A : Type 0} (R : List ℕ → A → Type 0) (text : List ℕ) (a : A) : Type 0 where
  pub len : List ℕ
  pub content : List ℕ
  pub spelled : text ≡ len ++ content
  pub length_is : IsU32 len (length content)
  pub stands : R content a

content_exact : {A : Type 0} (R : List ℕ → A → Type 0) (r : Reading A) → Exact R r → Exact (IsContent R) (content r)
unfolding content
content_exact {A} R r e =
    Exact-same (Then IsU32 (λ len text a. (length text ≡ len) × R text a)) (IsContent R) (number w32 >>= λ len. within len r)
    (λ text a h. record { len = h.1; content = h.2; spelled = h.3; length_is = subst (λ (k : ℕ). IsU32 h.1 k) (sym h.5.0) h.4; stands = h.5.1 })
    (λ text a h. (length h.content, h.len, h.content, h.spelled, h.length_is, (refl, h.stands)))
    (then_exact IsU32 (λ len text a. (length text ≡ len) × R text a) (number w32) (λ len. within len r) u32_exact (λ len. within_exact R len r e))

abbrev Anything : List ℕ → Unit {0} → Type 0
Anything text u = Unit {0}

dropped_exact : Exact (IsContent Anything) dropped
unfolding dropped
dropped_exact =
    let S : ℕ → List ℕ → Unit {0} → Type 0 = λ len text u. (x : List ℕ) × AnyText len text x × (tt ≡ u) in
    Exact-same (Then IsU32 S) (IsContent Anything) (number w32 >>= λ len. bytes len >>= λ _. done tt)
    (λ text u h. record { len = h.1; content = h.2; spelled = h.3; length_is = subst (λ (k : ℕ). IsU32 h.1 k) (sym h.5.1.0) h.4; stands = tt })
    (λ text u h. (length h.content, h.len, h.content, h.spelled, h.length_is, (h.content, (refl, refl), refl)))
    (then_exact IsU32 S (number w32) (λ len. bytes len >>= λ _. done tt) u32_exact (λ len. mapped_exact (AnyText len) (bytes len) (λ _. tt) (any_bytes_exact len)))

-- ---- one attribute: its name, and what comes of its content

abbrev Some_is : {A : Type 0} → A → Option A → Type 0
Some_is {A} a o = (let s : Option A = Some a in s) ≡ o

-- a content of a name that may stand once
abbrev Once : {A : Type 0} → (List ℕ → A → Type 0) → Option A → List ℕ → Option A → Type 0
Once {A} R None content after = (a : A) × R content a × Some_is a after
Once {A} R (Some found) content after = ⊥

-- a text that is a length and a content, of which this is said
abbrev Behind : {S : Type 0} → (List ℕ → S → Type 0) → List ℕ → S → Type 0
Behind Says text after = IsContent Says text after

once_exact : {A : Type 0} (place : ℕ) (R : List ℕ → A → Type 0) (r : Reading A) → Exact R r → (o : Option A) → Exact (IsContent (Once R o)) (once place r o)
unfolding once
once_exact {A} place R r e None =
    Exact-same (λ text after. (a : A) × IsContent R text a × Some_is a after) (IsContent (Once R None)) (content r >>= λ a. done (Some a))
    (λ text after h. record { len = h.1.len; content = h.1.content; spelled = h.1.spelled; length_is = h.1.length_is; stands = (h.0, h.1.stands, h.2) })
    (λ text after h. (h.stands.0, record { len = h.len; content = h.content; spelled = h.spelled; length_is = h.length_is; stands = h.stands.1 }, h.stands.2))
    (mapped_exact (IsContent R) (content r) (λ a. Some a) (content_exact R r e))
once_exact place R r e (Some found) = refused_exact (IsContent (Once R (Some found))) place Twice (λ text x h. h.stands)

abbrev Kept : {S : Type 0} → S → List ℕ → S → Type 0
Kept found content after = found ≡ after

kept_exact : {S : Type 0} (found : S) → Exact (IsContent (Kept found)) (kept found)
kept_exact {S} found =
    Exact-same (λ text after. (u : Unit {0}) × IsContent Anything text u × (found ≡ after)) (IsContent (Kept found)) (dropped >>= λ _. done found)
    (λ text after h. record { len = h.1.len; content = h.1.content; spelled = h.1.spelled; length_is = h.1.length_is; stands = h.2 })
    (λ text after h. (tt, record { len = h.len; content = h.content; spelled = h.spelled; length_is = h.length_is; stands = tt }, h.stands))
    (mapped_exact (IsContent Anything) dropped (λ _. found) dropped_exact)

-- what is said of contents goes by a test
content_if : {A : Type 0} (b : Bool) (R S : List ℕ → A → Type 0) (x y : Reading A) → Exact (IsContent R) x → Exact (IsContent S) y → Exact (IsContent (λ content a. MatchBool b (R content a) (S content a))) (cond b x y)
content_if true R S x y p q = p
content_if false R S x y p q = q

-- an attribute more takes what was found to what is found then
pub record Step {S : Type 0} (Next : S → Attribute → S → Type 0) (p : Pool) (found : S) (text : List ℕ) (after : S) : Type 0 where
  pub attribute : Attribute
  pub stands : IsAttribute p text attribute
  pub next : Next found attribute after

pub bytes_index_exact : (p : Pool) → Exact (AtIndex (NamesBytes p)) (at_index (bytes_at p))
bytes_index_exact p = at_index_exact (NamesBytes p) (bytes_at p) (named_judges as_text p)

-- a name, and behind it a content of which something is said by the name
step_exact : {S : Type 0} (Says : List ℕ → S → List ℕ → S → Type 0) (p : Pool) (found : S) (f : ℕ → List ℕ → Reading S)
    → ((place : ℕ) (name : List ℕ) → Exact (IsContent (Says name found)) (f place name))
    → Exact (Step (λ o a. Says a.name o a.content) p found) (here >>= λ place. at_index (bytes_at p) >>= f place)
step_exact {S} Says p found f e =
    let R : List ℕ → S → Type 0 = Then (AtIndex (NamesBytes p)) (λ name. IsContent (Says name found)) in
    let T : List ℕ → S → Type 0 = Step (λ o a. Says a.name o a.content) p found in
    Exact-same R T (here >>= λ place. at_index (bytes_at p) >>= f place)
    (λ text after h. record {
      attribute = record { name = h.0; content = h.5.content };
      stands = record { index = h.1; len = h.5.len; spelled = then_joined _ _ _ _ h.3 (then_joined _ _ _ _ h.5.spelled (last_joined h.5.content)); named = h.4; length_is = h.5.length_is };
      next = h.5.stands;
    })
    (λ text after h.
    let a = h.stands in
    let content = h.attribute.content in (
      h.attribute.name,
      a.index,
      a.len ++ content,
      a.spelled ∙ ap (λ (z : List ℕ). a.index ++ (a.len ++ z)) (append-nil content),
      a.named,
      record { len = a.len; content = content; spelled = refl; length_is = a.length_is; stands = h.next },
    ))
    (here_exact R (λ place. at_index (bytes_at p) >>= f place) (λ place. then_exact (AtIndex (NamesBytes p)) (λ name. IsContent (Says name found)) (at_index (bytes_at p)) (f place) (bytes_index_exact p) (e place)))

-- ---- many attributes

-- attributes one after the other take what was found to what is found then
abbrev pub Folded : {S : Type 0} → (S → Attribute → S → Type 0) → S → List Attribute → S → Type 0
Folded Next s [] t = s ≡ t
Folded {S} Next s (a ∷ xs) t = (m : S) × Next s a m × Folded Next m xs t

walk_folded : {S : Type 0} (Next : S → Attribute → S → Type 0) (p : Pool) (n : ℕ) (s : S) (text : List ℕ) (t : S) → Walk (Step Next p) n s text t
    → (xs : List Attribute) × (length xs ≡ n) × Each (IsAttribute p) text xs × Folded Next s xs t
walk_folded Next p zero s text t h = ([], refl, h.0, h.1)
walk_folded Next p (suc n) s text t h =
    let rest = walk_folded Next p n h.0 h.2 t h.5 in
    (h.4.attribute ∷ rest.0, ap suc rest.1, (h.1, h.2, h.3, h.4.stands, rest.2), (h.0, h.4.next, rest.3))

folded_walk : {S : Type 0} (Next : S → Attribute → S → Type 0) (p : Pool) (n : ℕ) (s : S) (text : List ℕ) (xs : List Attribute) (t : S) → length xs ≡ n → Each (IsAttribute p) text xs → Folded Next s xs t → Walk (Step Next p) n s text t
folded_walk Next p zero s text [] t len h e = (h, e)
folded_walk Next p zero s text (a ∷ xs) t len h e = absurd (omega (arith, len))
folded_walk Next p (suc n) s text [] t len h e = absurd (omega (arith, len))
folded_walk Next p (suc n) s text (a ∷ xs) t len h e = (e.0, h.0, h.1, h.2, record { attribute = a; stands = h.3; next = e.1 }, folded_walk Next p n e.0 h.1 xs t (omega (arith, len)) h.4 e.2)

-- a table of attributes, from what is found where there is none
pub record Gathers {S : Type 0} (Next : S → Attribute → S → Type 0) (p : Pool) (start : S) (text : List ℕ) (found : S) : Type 0 where
  pub attributes : List Attribute
  pub stand : IsTable (IsAttribute p) text attributes
  pub folded : Folded Next start attributes found

table_of_exact : {S : Type 0} (Next : S → Attribute → S → Type 0) (p : Pool) (start : S) (step : S → Reading S) → ((s : S) → Exact (Step Next p s) (step s)) → Exact (Gathers Next p start) (number w16 >>= λ count. each count step start)
table_of_exact {S} Next p start step e =
    let W : ℕ → List ℕ → S → Type 0 = λ n. Walk (Step Next p) n start in
    Exact-same (Then IsU16 W) (Gathers Next p start) (number w16 >>= λ count. each count step start)
    (λ text t h.
    let c = walk_folded Next p h.0 start h.2 t h.5 in
    record {
      attributes = c.0;
      stand = record { count = h.1; rest = h.2; spelled = h.3; counted = subst (λ (k : ℕ). IsU16 h.1 k) (sym c.1) h.4; each_is = c.2 };
      folded = c.3;
    })
    (λ text t h. (length h.attributes, h.stand.count, h.stand.rest, h.stand.spelled, h.stand.counted, folded_walk Next p (length h.attributes) start h.stand.rest h.attributes t refl h.stand.each_is h.folded))
    (then_exact IsU16 W (number w16) (λ count. each count step start) u16_exact (λ n. each_exact (Step Next p) step e n start))

-- ---- at most one

-- what contents say behind those that gave `found`
abbrev Rest : {A : Type 0} → (List ℕ → A → Type 0) → Option A → List (List ℕ) → Option A → Type 0
Rest R None cs after = AtMostOne R cs after
Rest R (Some found) cs after = (cs ≡ []) × Some_is found after

rest_none : {A : Type 0} (R : List ℕ → A → Type 0) (o after : Option A) → o ≡ after → Rest R o [] after
rest_none R None None e = tt
rest_none R None (Some a) e = absurd cc
rest_none R (Some found) after e = (refl, e)

none_rest : {A : Type 0} (R : List ℕ → A → Type 0) (o after : Option A) → Rest R o [] after → o ≡ after
none_rest R None None h = refl
none_rest R None (Some a) h = absurd h
none_rest R (Some found) after h = h.1

no_more : {A : Type 0} (R : List ℕ → A → Type 0) (c d : List ℕ) (cs : List (List ℕ)) (after : Option A) → AtMostOne R (c ∷ d ∷ cs) after → ⊥
no_more R c d cs None h = h
no_more R c d cs (Some a) h = h

rest_once : {A : Type 0} (R : List ℕ → A → Type 0) (o m after : Option A) (c : List ℕ) (cs : List (List ℕ)) → Once R o c m → Rest R m cs after → Rest R o (c ∷ cs) after
rest_once R (Some found) m after c cs once h = absurd once
rest_once R None None after c cs once h = absurd (let e = once.2 in cc)
rest_once {A} R None (Some b) after c cs once h =
    let same : once.0 ≡ b = let e = once.2 in cc in
    let one : AtMostOne R (c ∷ []) (Some b) = subst (λ (z : A). R c z) same once.1 in
    subst (λ (z : List (List ℕ)). AtMostOne R (c ∷ z) after) (sym h.0) (subst (λ (z : Option A). AtMostOne R (c ∷ []) z) h.1 one)

once_rest : {A : Type 0} (R : List ℕ → A → Type 0) (o after : Option A) (c : List ℕ) (cs : List (List ℕ)) → Rest R o (c ∷ cs) after → (m : Option A) × Once R o c m × Rest R m cs after
once_rest R (Some found) after c cs h = absurd (let e = h.0 in cc)
once_rest R None None c [] h = absurd h
once_rest R None (Some a) c [] h = (Some a, (a, h, refl), (refl, refl))
once_rest R None after c (d ∷ cs) h = absurd (no_more R c d cs after h)

-- ---- one name is read

abbrev SaysOne : {A : Type 0} → List ℕ → (List ℕ → A → Type 0) → List ℕ → Option A → List ℕ → Option A → Type 0
SaysOne name R text found content after = MatchBool (is_named name text) (Once R found content after) (Kept found content after)

abbrev NextOne : {A : Type 0} → List ℕ → (List ℕ → A → Type 0) → Option A → Attribute → Option A → Type 0
NextOne name R found a after = SaysOne name R a.name found a.content after

one_attribute_exact : {A : Type 0} (p : Pool) (name : List ℕ) (R : List ℕ → A → Type 0) (r : Reading A) → Exact R r → (found : Option A) → Exact (Step (NextOne name R) p found) (one_attribute p name r found)
unfolding one_attribute
one_attribute_exact p name R r e found =
    step_exact (SaysOne name R) p found (λ place text. cond (is_named name text) (once place r found) (kept found))
    (λ place text. content_if (is_named name text) (Once R found) (Kept found) (once place r found) (kept found) (once_exact place R r e found) (kept_exact found))

-- how the contents of a name go on behind an attribute
abbrev more_contents : Bool → List ℕ → List (List ℕ) → List (List ℕ)
more_contents b content cs = cond b (content ∷ cs) cs

one_more : {A : Type 0} (R : List ℕ → A → Type 0) (b : Bool) (content : List ℕ) (cs : List (List ℕ)) (o m t : Option A) → MatchBool b (Once R o content m) (Kept o content m) → Rest R m cs t → Rest R o (more_contents b content cs) t
one_more R true content cs o m t h rest = rest_once R o m t content cs h rest
one_more R false content cs o m t h rest = subst (λ (z : Option _). Rest R z cs t) (sym h) rest

more_one : {A : Type 0} (R : List ℕ → A → Type 0) (b : Bool) (content : List ℕ) (cs : List (List ℕ)) (o t : Option A) → Rest R o (more_contents b content cs) t → (m : Option A) × MatchBool b (Once R o content m) (Kept o content m) × Rest R m cs t
more_one R true content cs o t h = once_rest R o t content cs h
more_one R false content cs o t h = (o, refl, h)

folded_one : {A : Type 0} (name : List ℕ) (R : List ℕ → A → Type 0) (xs : List Attribute) (o t : Option A) → Folded (NextOne name R) o xs t → Rest R o (contents name xs) t
folded_one name R [] o t h = rest_none R o t h
folded_one name R (a ∷ xs) o t h = one_more R (is_named name a.name) a.content (contents name xs) o h.0 t h.1 (folded_one name R xs h.0 t h.2)

one_folded : {A : Type 0} (name : List ℕ) (R : List ℕ → A → Type 0) (xs : List Attribute) (o t : Option A) → Rest R o (contents name xs) t → Folded (NextOne name R) o xs t
one_folded name R [] o t h = none_rest R o t h
one_folded name R (a ∷ xs) o t h =
    let m = more_one R (is_named name a.name) a.content (contents name xs) o t h in
    (m.0, m.1, one_folded name R xs m.0 t m.2)

pub one_read_exact : {A : Type 0} (p : Pool) (name : List ℕ) (R : List ℕ → A → Type 0) (r : Reading A) → Exact R r → Exact (ReadsOne p name R) (one_read p name r)
unfolding one_read
one_read_exact {A} p name R r e =
    Exact-same (Gathers (NextOne name R) p None) (ReadsOne p name R) (number w16 >>= λ count. each count (one_attribute p name r) None)
    (λ text t h. record { attributes = h.attributes; stand = h.stand; found_is = folded_one name R h.attributes None t h.folded })
    (λ text t h. record { attributes = h.attributes; stand = h.stand; folded = one_folded name R h.attributes None t h.found_is })
    (table_of_exact (NextOne name R) p None (one_attribute p name r) (one_attribute_exact p name R r e))

-- ---- two names are read

abbrev FirstOnce : {A B : Type 0} → (List ℕ → A → Type 0) → Option A × Option B → List ℕ → Option A × Option B → Type 0
FirstOnce R found content after = Once R found.0 content after.0 × (found.1 ≡ after.1)

abbrev SecondOnce : {A B : Type 0} → (List ℕ → B → Type 0) → Option A × Option B → List ℕ → Option A × Option B → Type 0
SecondOnce S found content after = (found.0 ≡ after.0) × Once S found.1 content after.1

first_exact : {A B : Type 0} (place : ℕ) (R : List ℕ → A → Type 0) (r : Reading A) → Exact R r → (found : Option A × Option B) → Exact (IsContent (FirstOnce R found)) (once_first place r found)
first_exact {A} {B} place R r e found =
    let pair : Option A → Option A × Option B = λ a. (a, found.1) in
    Exact-same (λ text after. (a : Option A) × IsContent (Once R found.0) text a × (pair a ≡ after)) (IsContent (FirstOnce R found)) (once place r found.0 >>= λ a. done (pair a))
    (λ text after h. record { len = h.1.len; content = h.1.content; spelled = h.1.spelled; length_is = h.1.length_is; stands = (subst (λ (z : Option A). Once R found.0 h.1.content z) (ap (λ (z : Option A × Option B). z.0) h.2) h.1.stands, ap (λ (z : Option A × Option B). z.1) h.2) })
    (λ text after h. (after.0, record { len = h.len; content = h.content; spelled = h.spelled; length_is = h.length_is; stands = h.stands.0 }, ap (λ (z : Option B). let q : Option A × Option B = (after.0, z) in q) h.stands.1))
    (mapped_exact (IsContent (Once R found.0)) (once place r found.0) pair (once_exact place R r e found.0))

second_exact : {A B : Type 0} (place : ℕ) (S : List ℕ → B → Type 0) (s : Reading B) → Exact S s → (found : Option A × Option B) → Exact (IsContent (SecondOnce S found)) (once_second place s found)
second_exact {A} {B} place S s e found =
    let pair : Option B → Option A × Option B = λ b. (found.0, b) in
    Exact-same (λ text after. (b : Option B) × IsContent (Once S found.1) text b × (pair b ≡ after)) (IsContent (SecondOnce S found)) (once place s found.1 >>= λ b. done (pair b))
    (λ text after h. record { len = h.1.len; content = h.1.content; spelled = h.1.spelled; length_is = h.1.length_is; stands = (ap (λ (z : Option A × Option B). z.0) h.2, subst (λ (z : Option B). Once S found.1 h.1.content z) (ap (λ (z : Option A × Option B). z.1) h.2) h.1.stands) })
    (λ text after h. (after.1, record { len = h.len; content = h.content; spelled = h.spelled; length_is = h.length_is; stands = h.stands.1 }, ap (λ (z : Option A). let q : Option A × Option B = (z, after.1) in q) h.stands.0))
    (mapped_exact (IsContent (Once S found.1)) (once place s found.1) pair (once_exact place S s e found.1))

abbrev SaysSecond : {A B : Type 0} → List ℕ → (List ℕ → B → Type 0) → List ℕ → Option A × Option B → List ℕ → Option A × Option B → Type 0
SaysSecond second S text found content after = MatchBool (is_named second text) (SecondOnce S found content after) (Kept found content after)

abbrev SaysTwo : {A B : Type 0} → List ℕ → (List ℕ → A → Type 0) → List ℕ → (List ℕ → B → Type 0) → List ℕ → Option A × Option B → List ℕ → Option A × Option B → Type 0
SaysTwo first R second S text found content after = MatchBool (is_named first text) (FirstOnce R found content after) (SaysSecond second S text found content after)

abbrev NextTwo : {A B : Type 0} → List ℕ → (List ℕ → A → Type 0) → List ℕ → (List ℕ → B → Type 0) → Option A × Option B → Attribute → Option A × Option B → Type 0
NextTwo first R second S found a after = SaysTwo first R second S a.name found a.content after

two_attribute_exact : {A B : Type 0} (p : Pool) (first : List ℕ) (R : List ℕ → A → Type 0) (r : Reading A) (second : List ℕ) (S : List ℕ → B → Type 0) (s : Reading B)
    → Exact R r → Exact S s → (found : Option A × Option B) → Exact (Step (NextTwo first R second S) p found) (two_attribute p first r second s found)
unfolding two_attribute
two_attribute_exact p first R r second S s d e found =
    step_exact (SaysTwo first R second S) p found (λ place text. cond (is_named first text) (once_first place r found) (cond (is_named second text) (once_second place s found) (kept found)))
    (λ place text.
    content_if (is_named first text) (FirstOnce R found) (SaysSecond second S text found) (once_first place r found) (cond (is_named second text) (once_second place s found) (kept found))
    (first_exact place R r d found)
    (content_if (is_named second text) (SecondOnce S found) (Kept found) (once_second place s found) (kept found) (second_exact place S s e found) (kept_exact found)))

-- two tests of which at most one holds
abbrev Apart : Bool → Bool → Type 0
Apart a b = a ≡ true → b ≡ true → ⊥

pub names_apart : (first second : List ℕ) → (first ≡ second → ⊥) → (text : List ℕ) → Apart (is_named first text) (is_named second text)
names_apart first second differ text a b = differ (sym ((bytes_decides text first).0 a) ∙ (bytes_decides text second).0 b)

abbrev Twos : {A B : Type 0} → (List ℕ → A → Type 0) → (List ℕ → B → Type 0) → Option A × Option B → List (List ℕ) → List (List ℕ) → Option A × Option B → Type 0
Twos R S o cs ds t = Rest R o.0 cs t.0 × Rest S o.1 ds t.1

abbrev OneOfTwo : {A B : Type 0} → (List ℕ → A → Type 0) → (List ℕ → B → Type 0) → Bool → Bool → Option A × Option B → List ℕ → Option A × Option B → Type 0
OneOfTwo R S a b found content after = MatchBool a (FirstOnce R found content after) (MatchBool b (SecondOnce S found content after) (Kept found content after))

two_more : {A B : Type 0} (R : List ℕ → A → Type 0) (S : List ℕ → B → Type 0) (a b : Bool) (content : List ℕ) (cs ds : List (List ℕ)) (o m t : Option A × Option B) → Apart a b
    → OneOfTwo R S a b o content m → Twos R S m cs ds t → Twos R S o (more_contents a content cs) (more_contents b content ds) t
two_more R S true true content cs ds o m t apart h rest = absurd (apart refl refl)
two_more R S true false content cs ds o m t apart h rest = (rest_once R o.0 m.0 t.0 content cs h.0 rest.0, subst (λ (z : Option _). Rest S z ds t.1) (sym h.1) rest.1)
two_more R S false true content cs ds o m t apart h rest = (subst (λ (z : Option _). Rest R z cs t.0) (sym h.0) rest.0, rest_once S o.1 m.1 t.1 content ds h.1 rest.1)
two_more R S false false content cs ds o m t apart h rest = subst (λ (z : _). Twos R S z cs ds t) (sym h) rest

more_two : {A B : Type 0} (R : List ℕ → A → Type 0) (S : List ℕ → B → Type 0) (a b : Bool) (content : List ℕ) (cs ds : List (List ℕ)) (o t : Option A × Option B) → Apart a b
    → Twos R S o (more_contents a content cs) (more_contents b content ds) t → (m : Option A × Option B) × OneOfTwo R S a b o content m × Twos R S m cs ds t
more_two R S true true content cs ds o t apart h = absurd (apart refl refl)
more_two R S true false content cs ds o t apart h = let m = once_rest R o.0 t.0 content cs h.0 in ((m.0, o.1), (m.1, refl), (m.2, h.1))
more_two R S false true content cs ds o t apart h = let m = once_rest S o.1 t.1 content ds h.1 in ((o.0, m.0), (refl, m.1), (h.0, m.2))
more_two R S false false content cs ds o t apart h = (o, refl, h)

folded_two : {A B : Type 0} (first : List ℕ) (R : List ℕ → A → Type 0) (second : List ℕ) (S : List ℕ → B → Type 0) → (first ≡ second → ⊥) → (xs : List Attribute) (o t : Option A × Option B)
    → Folded (NextTwo first R second S) o xs t → Twos R S o (contents first xs) (contents second xs) t
folded_two first R second S differ [] o t h = (rest_none R o.0 t.0 (ap (λ (z : _). z.0) h), rest_none S o.1 t.1 (ap (λ (z : _). z.1) h))
folded_two first R second S differ (a ∷ xs) o t h =
    two_more R S (is_named first a.name) (is_named second a.name) a.content (contents first xs) (contents second xs) o h.0 t (names_apart first second differ a.name) h.1 (folded_two first R second S differ xs h.0 t h.2)

same_pair : {A B : Type 0} (x y : A × B) → x.0 ≡ y.0 → x.1 ≡ y.1 → x ≡ y
same_pair {A} {B} x y a b = ap (λ (z : A). let q : A × B = (z, x.1) in q) a ∙ ap (λ (z : B). let q : A × B = (y.0, z) in q) b

two_folded : {A B : Type 0} (first : List ℕ) (R : List ℕ → A → Type 0) (second : List ℕ) (S : List ℕ → B → Type 0) → (first ≡ second → ⊥) → (xs : List Attribute) (o t : Option A × Option B)
    → Twos R S o (contents first xs) (contents second xs) t → Folded (NextTwo first R second S) o xs t
two_folded first R second S differ [] o t h = same_pair o t (none_rest R o.0 t.0 h.0) (none_rest S o.1 t.1 h.1)
two_folded first R second S differ (a ∷ xs) o t h =
    let m = more_two R S (is_named first a.name) (is_named second a.name) a.content (contents first xs) (contents second xs) o t (names_apart first second differ a.name) h in
    (m.0, m.1, two_folded first R second S differ xs m.0 t m.2)

pub two_read_exact : {A B : Type 0} (p : Pool) (first : List ℕ) (R : List ℕ → A → Type 0) (r : Reading A) (second : List ℕ) (S : List ℕ → B → Type 0) (s : Reading B)
    → (first ≡ second → ⊥) → Exact R r → Exact S s → Exact (ReadsTwo p first R second S) (two_read p first r second s)
unfolding two_read
two_read_exact p first R r second S s differ d e =
    Exact-same (Gathers (NextTwo first R second S) p none_found) (ReadsTwo p first R second S) (number w16 >>= λ count. each count (two_attribute p first r second s) none_found)
    (λ text t h. let f = folded_two first R second S differ h.attributes none_found t h.folded in record { attributes = h.attributes; stand = h.stand; first_is = f.0; second_is = f.1 })
    (λ text t h. record { attributes = h.attributes; stand = h.stand; folded = two_folded first R second S differ h.attributes none_found t (h.first_is, h.second_is) })
    (table_of_exact (NextTwo first R second S) p none_found (two_attribute p first r second s) (two_attribute_exact p first R r second S s d e))
