-- Reading types is exact for what their bytes are.
use Rattle.std.proofs.Common.{◌≡◌, ◌⊎◌, inl, inr, ℕ, ◌+◌, ◌<◌, Bool, true, false, cond, eqb, List, [], ◌∷◌, ◌++◌, length, Option, Some, None, refl, sym, ap, subst, ◌∙◌, arith, lit<}
use Rattle.std.specs.Prelude.{MatchBool, ◌%◌}
use Rattle.std.specs.Int.{w8, w16, to_be_bytes}
use Rattle.std.proofs.lemmas.Bool.{eqb-true}
use Rattle.class_input.specs.Grammar.{IsU8, IsU16, Each}
use Rattle.stack_maps.specs.declared.frame.RawType.{RawType}
use Rattle.stack_maps.specs.declared.frame.RawType.TheVariants.{Top, Int, Long, Null, UninitThis, Object, Uninit, First}
use Rattle.stack_maps.specs.declared.frame_stop.FrameStop.TheVariants.{BadTag}
use Rattle.stack_maps.specs.declared.written.Entries.{Entries}
use Rattle.stack_maps.specs.Grammar.{IsType, AreTypes, AreCounted}
use Rattle.stack_maps.specs.Reading.{◌>>=◌, done, number, tag_alone, known_tag, behind_tag, type_info, same_state, types, entries, counted}
use Rattle.stack_maps.proofs.Laws.{Exact, Exact-same, IsDone, Then, Here, Anywhere, Chain, done_exact, refused_exact, then_exact, mapped_exact, here_exact, if_exact, u8_exact, u16_exact, each_exact}

-- ---- choices

pub split : {P Q : Type 0} (b : Bool) → MatchBool b P Q → ((b ≡ true) × P) ⊎ ((b ≡ false) × Q)
split true h = inl (refl, h)
split false h = inr (refl, h)

chosen : {A : Type 0} (b : Bool) (x y z : A) → cond b x y ≡ z → ((b ≡ true) × (x ≡ z)) ⊎ ((b ≡ false) × (y ≡ z))
chosen true x y z h = inl (refl, h)
chosen false x y z h = inr (refl, h)

some_is : {A : Type 0} (x y : A) → Some x ≡ Some y → x ≡ y
some_is x y h = cc

-- a byte is a text of its own
pub one_byte : (text : List ℕ) (tag : ℕ) → IsU8 text tag → text ≡ tag ∷ []
one_byte text tag h = let low : tag % 256 ≡ tag = omega (arith, h.0) in h.1 ∙ ap (λ (k : ℕ). k ∷ []) low

pub is_byte : (tag : ℕ) → tag < 256 → IsU8 (tag ∷ []) tag
is_byte tag lt = let low : tag % 256 ≡ tag = omega arith in (lt, ap (λ (k : ℕ). k ∷ []) (sym low))

-- ---- one type

KnownR : Option RawType → ℕ → List ℕ → RawType → Type 0
KnownR o at text t = (text ≡ []) × (o ≡ Some t)

known_exact : (at tag : ℕ) (o : Option RawType) → Exact (KnownR o) (known_tag at tag o)
unfolding KnownR
known_exact at tag None = refused_exact (KnownR None) (BadTag at tag) (λ at text t h. absurd (let e = h.1 in cc))
known_exact at tag (Some t) = Exact-same (IsDone t) (KnownR (Some t)) (done t) (λ at text u h. (h.0, ap (λ (z : RawType). Some z) h.1)) (λ at text u h. (h.0, some_is t u h.1)) (done_exact t)

abbrev IndexR : (ℕ → RawType) → ℕ → List ℕ → RawType → Type 0
IndexR make at text t = (k : ℕ) × Anywhere IsU16 at text k × (make k ≡ t)

abbrev BehindR : ℕ → ℕ → List ℕ → RawType → Type 0
BehindR tag at text t =
    MatchBool (eqb tag 7) (IndexR (λ k. Object k) at text t)
    (MatchBool (eqb tag 8) (IndexR (λ k. Uninit k) at text t)
    (KnownR (tag_alone tag) at text t))

behind_exact : (at tag : ℕ) → Exact (BehindR tag) (behind_tag at tag)
behind_exact at tag =
    let last = known_exact at tag (tag_alone tag) in
    let r8 = if_exact (eqb tag 8) _ _ _ _ (mapped_exact (Anywhere IsU16) (number w16) (λ k. Uninit k) u16_exact) last in
    if_exact (eqb tag 7) _ _ _ _ (mapped_exact (Anywhere IsU16) (number w16) (λ k. Object k) u16_exact) r8

tag_then : (n tag : ℕ) (text : List ℕ) (t u : RawType) → eqb tag n ≡ true → t ≡ u → IsType (n ∷ text) t → IsType (tag ∷ text) u
tag_then n tag text t u e f h = subst (λ (z : ℕ). IsType (z ∷ text) u) (sym (eqb-true _ _ e)) (subst (λ (z : RawType). IsType (n ∷ text) z) f h)

alone_is : (tag : ℕ) (t : RawType) → tag_alone tag ≡ Some t → IsType (tag ∷ []) t
alone_is tag t h =
    elim (chosen (eqb tag 0) _ _ _ h) [
      | inl a ↦ tag_then 0 tag [] Top t a.0 (some_is _ _ a.1) refl
      | inr a ↦ elim (chosen (eqb tag 1) _ _ _ a.1) [
        | inl b ↦ tag_then 1 tag [] Int t b.0 (some_is _ _ b.1) refl
        | inr b ↦ elim (chosen (eqb tag 4) _ _ _ b.1) [
          | inl d ↦ tag_then 4 tag [] Long t d.0 (some_is _ _ d.1) refl
          | inr d ↦ elim (chosen (eqb tag 5) _ _ _ d.1) [
            | inl e ↦ tag_then 5 tag [] Null t e.0 (some_is _ _ e.1) refl
            | inr e ↦ elim (chosen (eqb tag 6) _ _ _ e.1) [
              | inl f ↦ tag_then 6 tag [] UninitThis t f.0 (some_is _ _ f.1) refl
              | inr f ↦ absurd (let g = f.1 in cc)
            ]
          ]
        ]
      ]
    ]

behind_is : (tag at : ℕ) (text : List ℕ) (t : RawType) → BehindR tag at text t → IsType (tag ∷ text) t
unfolding KnownR
behind_is tag at text t h =
    elim (split (eqb tag 7) h) [
      | inl a ↦ let b = a.1 in tag_then 7 tag text (Object b.0) t a.0 b.2 (b.1.0, ap (λ (z : List ℕ). 7 ∷ z) b.1.1)
      | inr a ↦ elim (split (eqb tag 8) a.1) [
        | inl b ↦ let d = b.1 in tag_then 8 tag text (Uninit d.0) t b.0 d.2 (d.1.0, ap (λ (z : List ℕ). 8 ∷ z) d.1.1)
        | inr b ↦ let d = b.1 in subst (λ (z : List ℕ). IsType (tag ∷ z) t) (sym d.0) (alone_is tag t d.1)
      ]
    ]

type_to : (at : ℕ) (text : List ℕ) (t : RawType) → Then (Anywhere IsU8) BehindR at text t → IsType text t
type_to at text t h =
    let front = one_byte h.1 h.0 h.4 in
    subst (λ (z : List ℕ). IsType z t) (sym (h.3 ∙ ap (λ (z : List ℕ). z ++ h.2) front)) (behind_is h.0 (at + length h.1) h.2 t h.5)

type_from : (at : ℕ) (text : List ℕ) (t : RawType) → IsType text t → Then (Anywhere IsU8) BehindR at text t
unfolding KnownR
type_from at text Top h = (0, 0 ∷ [], [], h, is_byte 0 (lit< tt), (refl, refl))
type_from at text Int h = (1, 1 ∷ [], [], h, is_byte 1 (lit< tt), (refl, refl))
type_from at text Long h = (4, 4 ∷ [], [], h, is_byte 4 (lit< tt), (refl, refl))
type_from at text Null h = (5, 5 ∷ [], [], h, is_byte 5 (lit< tt), (refl, refl))
type_from at text UninitThis h = (6, 6 ∷ [], [], h, is_byte 6 (lit< tt), (refl, refl))
type_from at text (Object k) h = (7, 7 ∷ [], to_be_bytes w16 k, h.1, is_byte 7 (lit< tt), (k, (h.0, refl), refl))
type_from at text (Uninit k) h = (8, 8 ∷ [], to_be_bytes w16 k, h.1, is_byte 8 (lit< tt), (k, (h.0, refl), refl))
type_from at text (First k) h = absurd h

pub type_exact : Exact (Anywhere IsType) type_info
unfolding type_info
type_exact =
    Exact-same (Then (Anywhere IsU8) BehindR) (Anywhere IsType) _ type_to type_from
    (here_exact (λ _. Then (Anywhere IsU8) BehindR) (λ at. number w8 >>= λ tag. behind_tag at tag) (λ at.
    then_exact (Anywhere IsU8) BehindR (number w8) (behind_tag at) u8_exact (behind_exact at)))

-- ---- types one after the other

abbrev TypeChain : ℕ → List ℕ → List RawType → Type 0
TypeChain = Chain (λ _. Anywhere IsType) same_state tt

each_of_chain : (at : ℕ) (text : List ℕ) (ts : List RawType) → TypeChain at text ts → Each IsType text ts
each_of_chain at text [] h = h
each_of_chain at text (t ∷ ts) h = (h.0, h.1, h.2, h.3, each_of_chain (at + length h.0) h.1 ts h.4)

chain_of_each : (at : ℕ) (text : List ℕ) (ts : List RawType) → Each IsType text ts → TypeChain at text ts
chain_of_each at text [] h = h
chain_of_each at text (t ∷ ts) h = (h.0, h.1, h.2, h.3, chain_of_each (at + length h.0) h.1 ts h.4)

abbrev TypesR : ℕ → ℕ → List ℕ → List RawType → Type 0
TypesR count at text ts = (length ts ≡ count) × TypeChain at text ts

abbrev entries_of : ℕ → List RawType → Entries
entries_of at ts = record { at = at; types = ts }

abbrev EntriesR : ℕ → ℕ → ℕ → List ℕ → Entries → Type 0
EntriesR count place at text e = (ts : List RawType) × TypesR count at text ts × (entries_of place ts ≡ e)

entries_is : (e : Entries) (at : ℕ) → e.at ≡ at → entries_of at e.types ≡ e
entries_is e at h = ap (λ (k : ℕ). entries_of k e.types) (sym h)

pub entries_exact : (count : ℕ) → Exact (AreTypes count) (entries count)
unfolding entries
entries_exact count =
    Exact-same (Here (EntriesR count)) (AreTypes count) _
    (λ at text e h. subst (λ (z : Entries). AreTypes count at text z) h.2 (record { begins = refl; counted = h.1.0; each_is = each_of_chain at text h.0 h.1.1 }))
    (λ at text e h. (e.types, (h.counted, chain_of_each at text e.types h.each_is), entries_is e at h.begins))
    (here_exact (EntriesR count) (λ at. types count >>= λ ts. done (entries_of at ts)) (λ at.
    mapped_exact (TypesR count) (types count) (entries_of at) (each_exact (λ _. Anywhere IsType) (λ _. type_info) same_state (λ _. type_exact) count tt)))

pub two_long : (text : List ℕ) (n : ℕ) → IsU16 text n → length text ≡ 2
two_long text n h = ap length h.1

counted_to : (at : ℕ) (text : List ℕ) (e : Entries) → Then (Anywhere IsU16) AreTypes at text e → AreCounted at text e
counted_to at text e h =
    let count : h.0 ≡ length e.types = sym h.5.counted in
    record {
      count = h.1;
      types = h.2;
      spelled = h.3;
      count_is = subst (λ (n : ℕ). IsU16 h.1 n) count h.4;
      types_are = subst (λ (n : ℕ). AreTypes n (at + 2) h.2 e) count (subst (λ (n : ℕ). AreTypes h.0 (at + n) h.2 e) (two_long h.1 h.0 h.4) h.5);
    }

pub counted_exact : Exact AreCounted counted
unfolding counted
counted_exact =
    Exact-same (Then (Anywhere IsU16) AreTypes) AreCounted (number w16 >>= entries)
    counted_to
    (λ at text e h. (length e.types, h.count, h.types, h.spelled, h.count_is, subst (λ (n : ℕ). AreTypes (length e.types) (at + n) h.types e) (sym (two_long h.count (length e.types) h.count_is)) h.types_are))
    (then_exact (Anywhere IsU16) AreTypes (number w16) entries u16_exact entries_exact)
