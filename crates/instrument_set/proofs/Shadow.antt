-- The locals of a written frame hold the original's locals, their tags, and the tags of the operands.
use Rattle.std.proofs.Common.{◌≡◌, ◌≢◌, ℕ, ◌+◌, ◌*◌, ◌<◌, ◌≤◌, ℤ, List, [], ◌∷◌, length, Some, sym, ◌∙◌, subst, ⊎_elim, arith}
use Rattle.std.specs.Prelude.{slice_get, slice_set}
use Rattle.std.proofs.lemmas.Option.{slice_get_within}
use Rattle.run_state.specs.Words.{Word, Empty, Num, Long, Half, Null, Ref}
use Rattle.instrument_set.specs.Pieces.{local_tag, word_tag}
use Rattle.instrument_set.proofs.SlotLaws.{get_set_same, get_set_other, get_set_cases, length_set}

abbrev pub Bare : Type 0
Bare = List (Word (Unit {0}))

-- a word without its tag
abbrev pub bare : Word ℤ → Word (Unit {0})
bare Empty = Empty
bare (Num v t) = Num v tt
bare (Long v t) = Long v tt
bare Half = Half
bare Null = Null
bare (Ref a) = Ref a

-- each operand is an int, and its tag is in its slot
abbrev pub StackTags : ℕ → List (Word ℤ) → Bare → Type 0
StackTags n [] pls = Unit {0}
StackTags n (Num v t ∷ st) pls = (slice_get pls (word_tag n (length st)) ≡ Some (Num t tt)) × StackTags n st pls
StackTags n (_ ∷ st) pls = ⊥

-- the written frame's locals, of a frame with n locals and at most `words` operands
pub record Shadows (n words : ℕ) (ls st : List (Word ℤ)) (pls : Bare) : Type 0 where
  pub sized : length ls ≡ n
  pub room : 2 * n + words ≤ length pls
  pub values : (i : ℕ) (w : Word ℤ) → slice_get ls i ≡ Some w → slice_get pls i ≡ Some (bare w)
  pub tags : (i : ℕ) (v t : ℤ) → slice_get ls i ≡ Some (Num v t) → slice_get pls (local_tag n i) ≡ Some (Num t tt)
  pub operands : StackTags n st pls

-- a write elsewhere
pub operands_set : (n k : ℕ) (x : Word (Unit {0})) (st : List (Word ℤ)) (pls : Bare) → ((j : ℕ) → j < length st → word_tag n j ≢ k) → StackTags n st pls → StackTags n st (slice_set pls k x)
operands_set n k x [] pls h r = tt
operands_set n k x (Num v t ∷ st) pls h r =
    (get_set_other pls k (word_tag n (length st)) x (h (length st) (omega arith)) ∙ r.0, operands_set n k x st pls (λ j l. h j (omega arith)) r.1)
operands_set n k x (_ ∷ st) pls h r = r

module _ (n words : ℕ) where
  -- one operand more
  pub pushed : (v t : ℤ) (a : ℕ) (ls st : List (Word ℤ)) (pls : Bare) → a ≡ word_tag n (length st) → length st < words → Shadows n words ls st pls → Shadows n words ls (Num v t ∷ st) (slice_set pls a (Num t tt))
  pushed v t a ls st pls e l r = record {
    sized = r.sized;
    room = (let q = length_set pls a (Num t tt) in let p = r.room in omega arith);
    values = λ i w h. (let q : i < length ls = slice_get_within ls i w h in let z = r.sized in get_set_other pls a i (Num t tt) (omega arith) ∙ r.values i w h);
    tags = λ i v' t' h. (let q : i < length ls = slice_get_within ls i (Num v' t') h in let z = r.sized in get_set_other pls a (local_tag n i) (Num t tt) (omega arith) ∙ r.tags i v' t' h);
    operands = (subst (λ k. slice_get (slice_set pls a (Num t tt)) k ≡ Some (Num t tt)) e (get_set_same pls a (Num t tt) (let p = r.room in omega arith)), operands_set n a (Num t tt) st pls (λ j l. omega arith) r.operands);
  }

  -- one operand fewer
  pub popped : (v t : ℤ) (ls st : List (Word ℤ)) (pls : Bare) → Shadows n words ls (Num v t ∷ st) pls → Shadows n words ls st pls
  popped v t ls st pls r = record { sized = r.sized; room = r.room; values = r.values; tags = r.tags; operands = r.operands.1 }

  -- an operand goes into a local, behind its tag
  pub stored : (v t : ℤ) (i : ℕ) (ls st : List (Word ℤ)) (pls : Bare) → i < n → Shadows n words ls st pls → Shadows n words (slice_set ls i (Num v t)) st (slice_set (slice_set pls (local_tag n i) (Num t tt)) i (Num v tt))
  stored v t i ls st pls l r =
      let tagged : Bare = slice_set pls (local_tag n i) (Num t tt) in
      let same_length : length tagged ≡ length pls = length_set pls (local_tag n i) (Num t tt) in
      record {
        sized = length_set ls i (Num v t) ∙ r.sized;
        room = (let q = length_set tagged i (Num v tt) in let p = r.room in omega arith);
        values = λ j w h. ⊎_elim
            (λ q. subst (λ x. slice_get (slice_set tagged i (Num v tt)) j ≡ Some (bare x)) q.1
            (subst (λ y. slice_get (slice_set tagged i (Num v tt)) y ≡ Some (Num v tt)) (sym q.0)
            (get_set_same tagged i (Num v tt) (let p = r.room in omega arith))))
            (λ q. let f : j < length ls = slice_get_within ls j w q.1 in let z = r.sized in
            get_set_other tagged i j (Num v tt) q.0 ∙ get_set_other pls (local_tag n i) j (Num t tt) (omega arith) ∙ r.values j w q.1)
            (get_set_cases ls i j (Num v t) w h);
        tags = λ j v' t' h. ⊎_elim
            (λ q. let same : t ≡ t' = cc (q.1) in
            get_set_other tagged i (local_tag n j) (Num v tt) (omega arith) ∙
            subst (λ x. slice_get tagged (local_tag n j) ≡ Some (Num x tt)) same
            (subst (λ y. slice_get tagged (local_tag n y) ≡ Some (Num t tt)) (sym q.0)
            (get_set_same pls (local_tag n i) (Num t tt) (let p = r.room in omega arith))))
            (λ q. let ne : local_tag n j ≢ local_tag n i = (let ne' = q.0 in omega arith) in
            get_set_other tagged i (local_tag n j) (Num v tt) (omega arith) ∙ get_set_other pls (local_tag n i) (local_tag n j) (Num t tt) ne ∙ r.tags j v' t' q.1)
            (get_set_cases ls i j (Num v t) (Num v' t') h);
        operands = operands_set n i (Num v tt) st tagged (λ j _. omega arith) (operands_set n (local_tag n i) (Num t tt) st pls (λ j _. omega arith) r.operands);
      }
