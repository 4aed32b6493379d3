-- The forms that a class file is spelled in are those that it is read in.
use Rattle.std.proofs.Common.{◌≡◌, ℕ, ◌+◌, true, false, List, [], ◌∷◌, ◌++◌, length, Option, Some, None, refl, sym, ap, arith}
use Rattle.std.proofs.lemmas.List.{append-nil}
use Rattle.class_input.specs.Grammar.{IsU16, IsU32, Each}
use Rattle.const_pool.specs.Pool.{Pool}
use Rattle.class_names.specs.Pieces.{joined, IsTable, AtIndex}
use Rattle.class_names.specs.Names.{NamesBytes, MayName}
use Rattle.class_attributes.specs.Attributes.{Attribute, IsAttribute, is_named, ReadsOne, ReadsTwo}
use Rattle.pool_names.specs.Adding.{Adding, done, spell_u16, spell_u32, spell_each}
use Rattle.pool_names.specs.Spelling.{spell_bytes}
use Rattle.pool_names.specs.Claims.{Claims, IsIndex, AllClaims}
use Rattle.pool_names.proofs.Claiming.{claims_as, done_claims, Then, then_claims}
use Rattle.pool_names.proofs.Naming.{bytes_claims}
use Rattle.pool_names.proofs.Lists.{u16_claims, u32_claims, each_claims}
use Rattle.class_spelling.specs.Forms.{spell_index, spell_optional, spell_table, framed, spell_attribute, spell_when_some, count_some}

-- ---- indices and tables

pub index_claims : {X : Type 0} (Names : Pool → ℕ → X → Type 0) (x : X) (put : Adding ℕ) → Claims (IsIndex Names x) put → Claims (λ r text. AtIndex (Names r) text x) (spell_index put)
unfolding spell_index
index_claims Names x put claims =
    claims_as (Then (IsIndex Names x) (λ k r text. IsU16 text k)) (λ r text. AtIndex (Names r) text x) (spell_index put)
    (λ r text h. (h.0, h.2, h.1.1))
    (then_claims (IsIndex Names x) (λ k r text. IsU16 text k) put spell_u16 claims u16_claims)

pub optional_claims : {X : Type 0} (Names : Pool → ℕ → X → Type 0) (put : X → Adding ℕ) (o : Option X) → ((x : X) → Claims (IsIndex Names x) (put x)) → Claims (IsIndex (λ r. MayName (Names r)) o) (spell_optional put o)
optional_claims Names put None claims = claims_as (λ r k. 0 ≡ k) (IsIndex (λ r. MayName (Names r)) None) (done 0) (λ r k h. (omega (arith, h), sym h)) (done_claims 0)
optional_claims Names put (Some x) claims = claims x

pub table_claims : {A : Type 0} (R : Pool → List ℕ → A → Type 0) (spell : A → Adding (List ℕ)) (xs : List A) → AllClaims R spell xs → Claims (λ r text. IsTable (R r) text xs) (spell_table spell xs)
unfolding spell_table
table_claims R spell xs all =
    claims_as
    (Then (λ r count. IsU16 count (length xs)) (λ count. Then (λ r rows. Each (R r) rows xs) (λ rows r text. (count ++ rows) ≡ text)))
    (λ r text. IsTable (R r) text xs) (spell_table spell xs)
    (λ r text h. record { count = h.0; rest = h.2.0; spelled = sym h.2.2; counted = h.1; each_is = h.2.1 })
    (then_claims (λ r count. IsU16 count (length xs)) _ (spell_u16 (length xs)) _ (u16_claims (length xs))
    (λ count. then_claims (λ r rows. Each (R r) rows xs) _ (spell_each spell xs) _ (each_claims R spell xs all)
    (λ rows. done_claims (count ++ rows))))

-- ---- attributes

abbrev pub attribute_of : List ℕ → List ℕ → Attribute
attribute_of name content = record { name = name; content = content }

abbrev IsFrame : ℕ → List ℕ → Pool → List ℕ → Type 0
IsFrame k content r text = (index len : List ℕ) × (text ≡ joined (index ∷ len ∷ content ∷ [])) × IsU16 index k × IsU32 len (length content)

framed_claims : (k : ℕ) (content : List ℕ) → Claims (IsFrame k content) (framed k content)
unfolding framed
framed_claims k content =
    claims_as
    (Then (λ r index. IsU16 index k) (λ index. Then (λ r len. IsU32 len (length content)) (λ len r text. joined (index ∷ len ∷ content ∷ []) ≡ text)))
    (IsFrame k content) (framed k content)
    (λ r text h. (h.0, h.2.0, sym h.2.2, h.1, h.2.1))
    (then_claims (λ r index. IsU16 index k) _ (spell_u16 k) _ (u16_claims k)
    (λ index. then_claims (λ r len. IsU32 len (length content)) _ (spell_u32 (length content)) _ (u32_claims (length content))
    (λ len. done_claims (joined (index ∷ len ∷ content ∷ [])))))

-- an attribute of a name whose content is claimed to be something
abbrev pub HasContent : (Pool → List ℕ → Type 0) → List ℕ → Pool → List ℕ → Type 0
HasContent C name r text = (content : List ℕ) × IsAttribute r text (attribute_of name content) × C r content

pub attribute_claims : (C : Pool → List ℕ → Type 0) (name : List ℕ) (spell : Adding (List ℕ)) → Claims C spell → Claims (HasContent C name) (spell_attribute name spell)
unfolding spell_attribute
attribute_claims C name spell claims =
    claims_as
    (Then (IsIndex NamesBytes name) (λ k. Then C (λ content. IsFrame k content)))
    (HasContent C name) (spell_attribute name spell)
    (λ r text h.
    let frame = h.2.2 in
    (h.2.0, record { index = frame.0; len = frame.1; spelled = frame.2; named = (h.0, frame.3, h.1.1); length_is = frame.4 }, h.2.1))
    (then_claims (IsIndex NamesBytes name) _ (spell_bytes name) _ (bytes_claims name)
    (λ k. then_claims C _ spell _ claims
    (λ content. framed_claims k content)))

-- ---- attributes of what is there

abbrev pub WhenSome : {A : Type 0} → (A → Pool → List ℕ → Type 0) → List ℕ → Option A → Pool → List ℕ → Type 0
WhenSome C name None r text = text ≡ []
WhenSome C name (Some a) r text = HasContent (C a) name r text

pub some_claims : {A : Type 0} (C : A → Pool → List ℕ → Type 0) (name : List ℕ) (spell : A → Adding (List ℕ)) (o : Option A) → ((a : A) → o ≡ Some a → Claims (C a) (spell a)) → Claims (WhenSome C name o) (spell_when_some name spell o)
unfolding spell_when_some
some_claims C name spell None claims = claims_as (λ r text. [] ≡ text) (λ r text. text ≡ []) (done []) (λ r text h. sym h) (done_claims [])
some_claims C name spell (Some a) claims = attribute_claims (C a) name (spell a) (claims a refl)

-- a table of one attribute, or of none
pub one_reads : {A : Type 0} (R : List ℕ → A → Type 0) (name : List ℕ) (r : Pool) (o : Option A) (count first text : List ℕ) → is_named name name ≡ true → IsU16 count (count_some o) → text ≡ count ++ first → WhenSome (λ a p content. R content a) name o r first → ReadsOne r name R text o
one_reads R name r None count first text same counted spelled h = record {
  attributes = [];
  stand = record { count = count; rest = first; spelled = spelled; counted = counted; each_is = h };
  found_is = tt;
}
one_reads {A} R name r (Some a) count first text same counted spelled h = record {
  attributes = attribute_of name h.0 ∷ [];
  stand = record { count = count; rest = first; spelled = spelled; counted = counted; each_is = (first, [], sym (append-nil first), h.1, refl) };
  found_is = rw same h.2;
}

-- a table of two attributes, of one, or of none
pub two_reads : {A B : Type 0} (R : List ℕ → A → Type 0) (S : List ℕ → B → Type 0) (one two : List ℕ) (r : Pool) (a : Option A) (b : Option B) (count first second text : List ℕ)
    → is_named one one ≡ true → is_named one two ≡ false → is_named two one ≡ false → is_named two two ≡ true → IsU16 count (count_some a + count_some b) → text ≡ joined (count ∷ first ∷ second ∷ [])
    → WhenSome (λ x p content. R content x) one a r first → WhenSome (λ x p content. S content x) two b r second → ReadsTwo r one R two S text (a, b)
two_reads R S one two r None None count first second text t11 t12 t21 t22 counted spelled h g = record {
  attributes = [];
  stand = record { count = count; rest = first ++ (second ++ []); spelled = spelled; counted = counted; each_is = rw (h, g) refl };
  first_is = tt;
  second_is = tt;
}
two_reads R S one two r None (Some b) count first second text t11 t12 t21 t22 counted spelled h g = record {
  attributes = attribute_of two g.0 ∷ [];
  stand = record { count = count; rest = first ++ (second ++ []); spelled = spelled; counted = counted; each_is = (second, [], ap (λ (z : List ℕ). z ++ (second ++ [])) h, g.1, refl) };
  first_is = rw t12 tt;
  second_is = rw t22 g.2;
}
two_reads R S one two r (Some a) None count first second text t11 t12 t21 t22 counted spelled h g = record {
  attributes = attribute_of one h.0 ∷ [];
  stand = record { count = count; rest = first ++ (second ++ []); spelled = spelled; counted = counted; each_is = (first, [], ap (λ (z : List ℕ). first ++ (z ++ [])) g, h.1, refl) };
  first_is = rw t11 h.2;
  second_is = rw t21 tt;
}
two_reads R S one two r (Some a) (Some b) count first second text t11 t12 t21 t22 counted spelled h g = record {
  attributes = attribute_of one h.0 ∷ attribute_of two g.0 ∷ [];
  stand = record { count = count; rest = first ++ (second ++ []); spelled = spelled; counted = counted; each_is = (first, second ++ [], refl, h.1, (second, [], refl, g.1, refl)) };
  first_is = rw (t11, t12) h.2;
  second_is = rw (t21, t22) g.2;
}
