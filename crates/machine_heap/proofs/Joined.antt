-- Where an item of a list in blocks is, and what a write, a further block and a cut make of the list.
use Rattle.std.proofs.Common.{◌≡◌, ℕ, zero, suc, ◌+◌, ◌*◌, ◌/◌, ◌%◌, ◌-◌, ◌<◌, ◌≤◌, List, [], ◌∷◌, ◌++◌, Option, Some, None, refl, ap, sym, ◌∙◌, length, take, arith, append_assoc, append-nil, length-append, length-take, min}
use Rattle.std.specs.Prelude.{slice_get, slice_set}
use Rattle.std.proofs.lemmas.Option.{slice_get_read}
use Rattle.std.proofs.Common.{get_or}
use Rattle.machine_heap.specs.Blocks.{followed_by, AllHave, Laid}

get_low : {A : Type 0} (b rest : List A) (r : ℕ) → r < length b → slice_get (b ++ rest) r ≡ slice_get b r
get_low [] rest r l = absurd (omega arith)
get_low (x ∷ b) rest zero l = refl
get_low (x ∷ b) rest (suc r) l = get_low b rest r (omega arith)

get_high : {A : Type 0} (b rest : List A) (p r : ℕ) → p ≡ length b + r → slice_get (b ++ rest) p ≡ slice_get rest r
get_high [] rest p r e = let k : p ≡ r = omega arith in ap (slice_get rest) k
get_high (x ∷ b) rest zero r e = absurd (omega arith)
get_high (x ∷ b) rest (suc p) r e = get_high b rest p r (omega arith)

set_low : {A : Type 0} (b rest : List A) (r : ℕ) (y : A) → r < length b → slice_set (b ++ rest) r y ≡ slice_set b r y ++ rest
set_low [] rest r y l = absurd (omega arith)
set_low (x ∷ b) rest zero y l = refl
set_low (x ∷ b) rest (suc r) y l = ap (λ q. x ∷ q) (set_low b rest r y (omega arith))

set_high : {A : Type 0} (b rest : List A) (p r : ℕ) (y : A) → p ≡ length b + r → slice_set (b ++ rest) p y ≡ b ++ slice_set rest r y
set_high [] rest p r y e = let k : p ≡ r = omega arith in ap (λ q. slice_set rest q y) k
set_high (x ∷ b) rest zero r y e = absurd (omega arith)
set_high (x ∷ b) rest (suc p) r y e = ap (λ q. x ∷ q) (set_high b rest p r y (omega arith))

take_high : {A : Type 0} (b rest : List A) (p r : ℕ) → p ≡ length b + r → take p (b ++ rest) ≡ b ++ take r rest
take_high [] rest p r e = let k : p ≡ r = omega arith in ap (λ q. take q rest) k
take_high (x ∷ b) rest zero r e = absurd (omega arith)
take_high (x ∷ b) rest (suc p) r e = ap (λ q. x ∷ q) (take_high b rest p r (omega arith))

take_low : {A : Type 0} (b rest : List A) (r : ℕ) → r ≤ length b → take r (b ++ rest) ≡ take r b
take_low [] rest zero l = refl
take_low [] rest (suc r) l = absurd (omega arith)
take_low (x ∷ b) rest zero l = refl
take_low (x ∷ b) rest (suc r) l = ap (λ q. x ∷ q) (take_low b rest r (omega arith))

length_set : {A : Type 0} (b : List A) (r : ℕ) (y : A) → length (slice_set b r y) ≡ length b
length_set [] r y = refl
length_set (x ∷ b) zero y = refl
length_set (x ∷ b) (suc r) y = ap suc (length_set b r y)

module _ {A : Type 0} where
  pub length_followed : (bs : List (List A)) (last : List A) → AllHave 1024 bs → length (followed_by bs last) ≡ 1024 * length bs + length last
  length_followed [] last h = omega arith
  length_followed (b ∷ bs) last h = omega (arith, length-append b (followed_by bs last), length_followed bs last h.1, h.0)

  -- an item of a full block, and one of the last items
  pub item_in_block : (bs : List (List A)) (last b : List A) (p q r : ℕ) → AllHave 1024 bs → slice_get bs q ≡ Some b → r < 1024 → p ≡ 1024 * q + r → slice_get (followed_by bs last) p ≡ slice_get b r
  item_in_block [] last b p q r h at l e = cc
  item_in_block (c ∷ bs) last b p zero r h at l e =
      let same : c ≡ b = cc in
      let k : p ≡ r = omega arith in
      ap (slice_get (c ++ followed_by bs last)) k
      ∙ get_low c (followed_by bs last) r (omega (arith, h.0)) ∙ ap (λ q. slice_get q r) same
  item_in_block (c ∷ bs) last b p (suc q) r h at l e =
      get_high c (followed_by bs last) p (1024 * q + r) (omega (arith, h.0))
      ∙ item_in_block bs last b (1024 * q + r) q r h.1 at l refl

  pub item_in_last : (bs : List (List A)) (last : List A) (p r : ℕ) → AllHave 1024 bs → p ≡ 1024 * length bs + r → slice_get (followed_by bs last) p ≡ slice_get last r
  item_in_last [] last p r h e = let k : p ≡ r = omega arith in ap (slice_get last) k
  item_in_last (c ∷ bs) last p r h e =
      get_high c (followed_by bs last) p (1024 * length bs + r) (omega (arith, h.0))
      ∙ item_in_last bs last (1024 * length bs + r) r h.1 refl

  -- one of them is written
  pub set_in_block : (bs : List (List A)) (last b : List A) (p q r : ℕ) (y : A) → AllHave 1024 bs → slice_get bs q ≡ Some b → r < 1024 → p ≡ 1024 * q + r → followed_by (slice_set bs q (slice_set b r y)) last ≡ slice_set (followed_by bs last) p y
  set_in_block [] last b p q r y h at l e = cc
  set_in_block (c ∷ bs) last b p zero r y h at l e =
      let same : b ≡ c = cc in
      let k : r ≡ p = omega arith in
      ap (λ d. slice_set d r y ++ followed_by bs last) same
      ∙ sym (set_low c (followed_by bs last) r y (omega (arith, h.0)))
      ∙ ap (λ i. slice_set (c ++ followed_by bs last) i y) k
  set_in_block (c ∷ bs) last b p (suc q) r y h at l e =
      ap (λ x. c ++ x) (set_in_block bs last b (1024 * q + r) q r y h.1 at l refl)
      ∙ sym (set_high c (followed_by bs last) p (1024 * q + r) y (omega (arith, h.0)))

  pub set_in_last : (bs : List (List A)) (last : List A) (p r : ℕ) (y : A) → AllHave 1024 bs → p ≡ 1024 * length bs + r → followed_by bs (slice_set last r y) ≡ slice_set (followed_by bs last) p y
  set_in_last [] last p r y h e = let k : r ≡ p = omega arith in ap (λ i. slice_set last i y) k
  set_in_last (c ∷ bs) last p r y h e =
      ap (λ x. c ++ x) (set_in_last bs last (1024 * length bs + r) r y h.1 refl)
      ∙ sym (set_high c (followed_by bs last) p (1024 * length bs + r) y (omega (arith, h.0)))

  pub still_all : (bs : List (List A)) (q : ℕ) (b c : List A) → AllHave 1024 bs → slice_get bs q ≡ Some b → length c ≡ length b → AllHave 1024 (slice_set bs q c)
  still_all [] q b c h at l = cc
  still_all (d ∷ bs) zero b c h at l = let same : b ≡ d = cc in (l ∙ ap length same ∙ h.0, h.1)
  still_all (d ∷ bs) (suc q) b c h at l = (h.0, still_all bs q b c h.1 at l)

  pub same_length : (b : List A) (r : ℕ) (y : A) → length (slice_set b r y) ≡ length b
  same_length = length_set

  -- the last items become a block
  pub one_more : (bs : List (List A)) (last : List A) → followed_by (bs ++ last ∷ []) [] ≡ followed_by bs last
  one_more [] last = append-nil last
  one_more (b ∷ bs) last = ap (λ q. b ++ q) (one_more bs last)

  pub all_with : (bs : List (List A)) (last : List A) → AllHave 1024 bs → length last ≡ 1024 → AllHave 1024 (bs ++ last ∷ [])
  all_with [] last h l = (l, tt)
  all_with (b ∷ bs) last h l = (h.0, all_with bs last h.1 l)

  -- an item more
  pub item_more : (bs : List (List A)) (last : List A) (y : A) → followed_by bs (last ++ y ∷ []) ≡ followed_by bs last ++ y ∷ []
  item_more [] last y = refl
  item_more (b ∷ bs) last y = ap (λ q. b ++ q) (item_more bs last y) ∙ sym (append_assoc b (followed_by bs last) (y ∷ []))

  -- the first items alone
  pub cut_in_last : (bs : List (List A)) (last : List A) (p r : ℕ) → AllHave 1024 bs → p ≡ 1024 * length bs + r → followed_by bs (take r last) ≡ take p (followed_by bs last)
  cut_in_last [] last p r h e = let k : r ≡ p = omega arith in ap (λ i. take i last) k
  cut_in_last (c ∷ bs) last p r h e =
      ap (λ x. c ++ x) (cut_in_last bs last (1024 * length bs + r) r h.1 refl)
      ∙ sym (take_high c (followed_by bs last) p (1024 * length bs + r) (omega (arith, h.0)))

  pub cut_in_block : (bs : List (List A)) (last b : List A) (p q r : ℕ) → AllHave 1024 bs → slice_get bs q ≡ Some b → r < 1024 → p ≡ 1024 * q + r → followed_by (take q bs) (take r b) ≡ take p (followed_by bs last)
  cut_in_block [] last b p q r h at l e = cc
  cut_in_block (c ∷ bs) last b p zero r h at l e =
      let same : b ≡ c = cc in
      let k : r ≡ p = omega arith in
      let short : r ≤ length c = omega (arith, h.0) in
      ap (take r) same ∙ sym (take_low c (followed_by bs last) r short) ∙ ap (λ i. take i (c ++ followed_by bs last)) k
  cut_in_block (c ∷ bs) last b p (suc q) r h at l e =
      ap (λ x. c ++ x) (cut_in_block bs last b (1024 * q + r) q r h.1 at l refl)
      ∙ sym (take_high c (followed_by bs last) p (1024 * q + r) (omega (arith, h.0)))

  pub all_of_front : (bs : List (List A)) (q : ℕ) → AllHave 1024 bs → AllHave 1024 (take q bs)
  all_of_front [] zero h = tt
  all_of_front [] (suc q) h = tt
  all_of_front (b ∷ bs) zero h = tt
  all_of_front (b ∷ bs) (suc q) h = (h.0, all_of_front bs q h.1)

  -- the same, of a list that is laid out so
  pub length_laid : (full : List (List A)) (last : List A) → Laid full last → length (followed_by full last) ≡ 1024 * length full + length last
  length_laid full last h = length_followed full last h.all

  all_have : (full : List (List A)) (b : List A) (q : ℕ) → AllHave 1024 full → slice_get full q ≡ Some b → length b ≡ 1024
  all_have [] b q h at = cc
  all_have (c ∷ full) b zero h at = let same : b ≡ c = cc in ap length same ∙ h.0
  all_have (c ∷ full) b (suc q) h at = all_have full b q h.1 at

  pub block_has : (full : List (List A)) (last b : List A) (q : ℕ) → Laid full last → slice_get full q ≡ Some b → length b ≡ 1024
  block_has full last b q h at = all_have full b q h.all at

  pub block_found : (full : List (List A)) (n q : ℕ) (b : List A) → n ≡ length full → q < n → b ≡ get_or full q b → slice_get full q ≡ Some b
  block_found full n q b l h e = slice_get_read full n q b l h e

  -- what stays laid out so
  pub laid_with_block : (full : List (List A)) (last b c : List A) (q : ℕ) → Laid full last → slice_get full q ≡ Some b → length c ≡ length b → Laid (slice_set full q c) last
  laid_with_block full last b c q h at l = record { all = still_all full q b c h.all at l; short = h.short; few = omega (arith, length_set full q c, h.few) }

  pub laid_with_last : (full : List (List A)) (last c : List A) → Laid full last → length c ≡ length last → Laid full c
  laid_with_last full last c h l = record { all = h.all; short = omega (arith, h.short); few = h.few }

  pub laid_with_more : (full : List (List A)) (last : List A) (y : A) → Laid full last → length last < 1024 → Laid full (last ++ y ∷ [])
  laid_with_more full last y h l = record { all = h.all; short = omega (arith, length-append last (y ∷ [])); few = h.few }

  pub laid_behind : (full : List (List A)) (last : List A) (y : A) → Laid full last → length last ≡ 1024 → length full < 4503599627370496 → Laid (full ++ last ∷ []) ([] ++ y ∷ [])
  laid_behind full last y h l few = record { all = all_with full last h.all l; short = omega arith; few = omega (arith, length-append full (last ∷ [])) }

  pub item_behind : (full : List (List A)) (last : List A) (y : A) → followed_by (full ++ last ∷ []) ([] ++ y ∷ []) ≡ followed_by full last ++ y ∷ []
  item_behind full last y = item_more (full ++ last ∷ []) [] y ∙ ap (λ q. q ++ y ∷ []) (one_more full last)

  -- a write in a full block, and one in the last items, of the whole list
  pub writes_block : (full : List (List A)) (last now b new : List A) (p : ℕ) (x y : A) → Laid full last → slice_get full (p / 1024) ≡ Some b → followed_by full last ≡ now → slice_get now p ≡ Some x
      → (slice_get b (p % 1024) ≡ Some x → new ≡ slice_set b (p % 1024) y) → followed_by (slice_set full (p / 1024) new) last ≡ slice_set now p y
  writes_block full last now b new p x y h at v found write =
      let q = p / 1024 in
      let r = p % 1024 in
      let small : r < 1024 = omega arith in
      let e : p ≡ 1024 * q + r = omega arith in
      let inner = sym (item_in_block full last b p q r h.all at small e) ∙ ap (λ (xs : List A). slice_get xs p) v ∙ found in
      ap (λ c. followed_by (slice_set full q c) last) (write inner)
      ∙ set_in_block full last b p q r y h.all at small e ∙ ap (λ (xs : List A). slice_set xs p y) v

  pub writes_last : (full : List (List A)) (last now new : List A) (p n : ℕ) (x y : A) → Laid full last → n ≡ length full → n ≤ p / 1024 → followed_by full last ≡ now → slice_get now p ≡ Some x
      → (slice_get last (p - n * 1024) ≡ Some x → new ≡ slice_set last (p - n * 1024) y) → followed_by full new ≡ slice_set now p y
  writes_last full last now new p n x y h l past v found write =
      let r = p - n * 1024 in
      let e : p ≡ 1024 * length full + r = omega arith in
      let inner = sym (item_in_last full last p r h.all e) ∙ ap (λ (xs : List A). slice_get xs p) v ∙ found in
      ap (followed_by full) (write inner) ∙ set_in_last full last p r y h.all e ∙ ap (λ (xs : List A). slice_set xs p y) v

  snoc_same : (xs ys : List A) (a b : A) → xs ++ a ∷ [] ≡ ys ++ b ∷ [] → (xs ≡ ys) × (a ≡ b)
  snoc_same [] [] a b e = (refl, cc)
  snoc_same [] (y ∷ ys) a b e = let l : 1 ≡ length (ys ++ b ∷ []) + 1 = ap length e ∙ omega arith in absurd (omega (arith, length-append ys (b ∷ [])))
  snoc_same (x ∷ xs) [] a b e = let l : length (xs ++ a ∷ []) + 1 ≡ 1 = omega arith ∙ ap length e in absurd (omega (arith, length-append xs (a ∷ [])))
  snoc_same (x ∷ xs) (y ∷ ys) a b e =
      let h : xs ++ a ∷ [] ≡ ys ++ b ∷ [] = cc in
      let r = snoc_same xs ys a b h in
      (cc (r.0), r.1)

  one_taken : (xs : List A) (q : ℕ) → q < length xs → (x : A) × (slice_get xs q ≡ Some x) × (take (suc q) xs ≡ take q xs ++ x ∷ [])
  one_taken [] q l = absurd (omega arith)
  one_taken (x ∷ xs) zero l = (x, refl, refl)
  one_taken (x ∷ xs) (suc q) l = let h = one_taken xs q (omega arith) in (h.0, h.1, ap (λ r. x ∷ r) h.2)

  -- what is left of the first items, and the last of them
  pub popped : (xs rest : List A) (q : ℕ) (b : A) → q < length xs → take (q + 1) xs ≡ rest ++ b ∷ [] → (slice_get xs q ≡ Some b) × (rest ≡ take q xs)
  popped xs rest q b l e =
      let k : suc q ≡ q + 1 = omega arith in
      let h = one_taken xs q l in
      let r = snoc_same (take q xs) rest h.0 b (sym h.2 ∙ ap (λ i. take i xs) k ∙ e) in
      (h.1 ∙ ap Some r.1, sym r.0)

  pub laid_cut : (full : List (List A)) (last b : List A) (q r : ℕ) → Laid full last → slice_get full q ≡ Some b → r < 1024 → q < length full → Laid (take q full) (take r b)
  laid_cut full last b q r h at small l = record { all = all_of_front full q h.all; short = omega (arith, length-take r b); few = omega (arith, length-take q full, h.few) }
