-- The topmost value of a kind, by the words that hold it.
use Rattle.std.proofs.Common.{◌≡◌, ℤ, List, [], ◌∷◌, Some, None, drop, length, ◌≤◌, refl, ap, sym, subst, arith}
use Rattle.std.specs.Prelude.{ℕ, slice_get}
use Rattle.class_model.specs.declared.insn.Kind.{Kind}
use Rattle.class_model.specs.declared.insn.Kind.TheVariants as kind
use Rattle.run_state.specs.Words.{Word, Empty, Num, Long, Half, Null, Ref}
use Rattle.run_state.specs.State.{Areas, Outside, State}
use Rattle.run_state.specs.Operands.{stuck, on_int, on_long, under_half, on_ref}
use Rattle.machine_words.specs.Tops.{as_int, as_long, below_half}
use Rattle.machine_frames.specs.Acts.{HasKind, LacksKind}
use Rattle.machine.specs.declared.operands.Held.TheVariants as holds
use Rattle.machine.specs.Held.{held_by}

module _ {T : Type 0} where
  pub int_on : (o : Outside) (ar : Areas T) (st : List (Word T)) (go : ℤ → T → List (Word T) → State T) (v : ℤ) (t : T) → as_int (slice_get st 0) ≡ Some (v, t) → on_int o ar st go ≡ go v t (drop 1 st)
  int_on o ar [] go v t e = cc
  int_on o ar (Empty ∷ st) go v t e = cc
  int_on o ar (Num x u ∷ st) go v t e = let h : ◌≡◌ {A = ℤ × T} (x, u) (v, t) = cc in ap (λ (q : ℤ × T). go q.0 q.1 st) h
  int_on o ar (Long x u ∷ st) go v t e = cc
  int_on o ar (Half ∷ st) go v t e = cc
  int_on o ar (Null ∷ st) go v t e = cc
  int_on o ar (Ref b ∷ st) go v t e = cc

  pub int_off : (o : Outside) (ar : Areas T) (st : List (Word T)) (go : ℤ → T → List (Word T) → State T) → as_int (slice_get st 0) ≡ None → on_int o ar st go ≡ stuck o ar
  int_off o ar [] go e = refl
  int_off o ar (Empty ∷ st) go e = refl
  int_off o ar (Num x u ∷ st) go e = cc
  int_off o ar (Long x u ∷ st) go e = refl
  int_off o ar (Half ∷ st) go e = refl
  int_off o ar (Null ∷ st) go e = refl
  int_off o ar (Ref b ∷ st) go e = refl

  half_on : (o : Outside) (ar : Areas T) (st : List (Word T)) (go : ℤ → T → List (Word T) → State T) (v : ℤ) (t : T) → below_half (slice_get st 0) ≡ Some (v, t) → under_half o ar st go ≡ go v t (drop 1 st)
  half_on o ar [] go v t e = cc
  half_on o ar (Empty ∷ st) go v t e = cc
  half_on o ar (Num x u ∷ st) go v t e = cc
  half_on o ar (Long x u ∷ st) go v t e = let h : ◌≡◌ {A = ℤ × T} (x, u) (v, t) = cc in ap (λ (q : ℤ × T). go q.0 q.1 st) h
  half_on o ar (Half ∷ st) go v t e = cc
  half_on o ar (Null ∷ st) go v t e = cc
  half_on o ar (Ref b ∷ st) go v t e = cc

  half_off : (o : Outside) (ar : Areas T) (st : List (Word T)) (go : ℤ → T → List (Word T) → State T) → below_half (slice_get st 0) ≡ None → under_half o ar st go ≡ stuck o ar
  half_off o ar [] go e = refl
  half_off o ar (Empty ∷ st) go e = refl
  half_off o ar (Num x u ∷ st) go e = refl
  half_off o ar (Long x u ∷ st) go e = cc
  half_off o ar (Half ∷ st) go e = refl
  half_off o ar (Null ∷ st) go e = refl
  half_off o ar (Ref b ∷ st) go e = refl

  pub long_on : (o : Outside) (ar : Areas T) (st : List (Word T)) (go : ℤ → T → List (Word T) → State T) (v : ℤ) (t : T) → as_long (slice_get st 0) (slice_get st 1) ≡ Some (v, t) → on_long o ar st go ≡ go v t (drop 2 st)
  long_on o ar [] go v t e = cc
  long_on o ar (Empty ∷ st) go v t e = cc
  long_on o ar (Num x u ∷ st) go v t e = cc
  long_on o ar (Long x u ∷ st) go v t e = cc
  long_on o ar (Half ∷ st) go v t e = half_on o ar st go v t e
  long_on o ar (Null ∷ st) go v t e = cc
  long_on o ar (Ref b ∷ st) go v t e = cc

  pub long_off : (o : Outside) (ar : Areas T) (st : List (Word T)) (go : ℤ → T → List (Word T) → State T) → as_long (slice_get st 0) (slice_get st 1) ≡ None → on_long o ar st go ≡ stuck o ar
  long_off o ar [] go e = refl
  long_off o ar (Empty ∷ st) go e = refl
  long_off o ar (Num x u ∷ st) go e = refl
  long_off o ar (Long x u ∷ st) go e = refl
  long_off o ar (Half ∷ st) go e = half_off o ar st go e
  long_off o ar (Null ∷ st) go e = refl
  long_off o ar (Ref b ∷ st) go e = refl

  pub ref_item : (o : Outside) (ar : Areas T) (st : List (Word T)) (go : Word T → List (Word T) → State T) (a : ℕ) → held_by (slice_get st 0) ≡ holds.Item a → on_ref o ar st go ≡ go (Ref a) (drop 1 st)
  ref_item o ar [] go a e = cc
  ref_item o ar (Empty ∷ st) go a e = cc
  ref_item o ar (Num v t ∷ st) go a e = cc
  ref_item o ar (Long v t ∷ st) go a e = cc
  ref_item o ar (Half ∷ st) go a e = cc
  ref_item o ar (Null ∷ st) go a e = cc
  ref_item o ar (Ref b ∷ st) go a e = let same : b ≡ a = cc in ap (λ x. go (Ref x) st) same

  pub ref_null : (o : Outside) (ar : Areas T) (st : List (Word T)) (go : Word T → List (Word T) → State T) → held_by (slice_get st 0) ≡ holds.Null → on_ref o ar st go ≡ go Null (drop 1 st)
  ref_null o ar [] go e = cc
  ref_null o ar (Empty ∷ st) go e = cc
  ref_null o ar (Num v t ∷ st) go e = cc
  ref_null o ar (Long v t ∷ st) go e = cc
  ref_null o ar (Half ∷ st) go e = cc
  ref_null o ar (Null ∷ st) go e = refl
  ref_null o ar (Ref b ∷ st) go e = cc

  pub ref_off : (o : Outside) (ar : Areas T) (st : List (Word T)) (go : Word T → List (Word T) → State T) → held_by (slice_get st 0) ≡ holds.Nothing → on_ref o ar st go ≡ stuck o ar
  ref_off o ar [] go e = refl
  ref_off o ar (Empty ∷ st) go e = refl
  ref_off o ar (Num v t ∷ st) go e = refl
  ref_off o ar (Long v t ∷ st) go e = refl
  ref_off o ar (Half ∷ st) go e = refl
  ref_off o ar (Null ∷ st) go e = cc
  ref_off o ar (Ref b ∷ st) go e = cc

  pub int_room : (st : List (Word T)) (v : ℤ) (t : T) → as_int (slice_get st 0) ≡ Some (v, t) → 1 ≤ length st
  int_room [] v t e = cc
  int_room (x ∷ st) v t e = omega arith

  pub long_room : (st : List (Word T)) (v : ℤ) (t : T) → as_long (slice_get st 0) (slice_get st 1) ≡ Some (v, t) → 2 ≤ length st
  long_room [] v t e = cc
  long_room (Empty ∷ []) v t e = cc
  long_room (Num y u ∷ []) v t e = cc
  long_room (Long y u ∷ []) v t e = cc
  long_room (Half ∷ []) v t e = cc
  long_room (Null ∷ []) v t e = cc
  long_room (Ref b ∷ []) v t e = cc
  long_room (x ∷ y ∷ st) v t e = omega arith

  pub item_room : (st : List (Word T)) (a : ℕ) → held_by (slice_get st 0) ≡ holds.Item a → 1 ≤ length st
  item_room [] a e = cc
  item_room (x ∷ st) a e = omega arith

  pub null_room : (st : List (Word T)) → held_by (slice_get st 0) ≡ holds.Null → 1 ≤ length st
  null_room [] e = cc
  null_room (x ∷ st) e = omega arith

  pub int_there : (st : List (Word T)) (v : ℤ) (t : T) → as_int (slice_get st 0) ≡ Some (v, t) → HasKind kind.Int st (Num v t) (drop 1 st)
  int_there st v t e = λ o ar go. int_on o ar st (λ x u rest. go (Num x u) rest) v t e

  pub int_missing : (st : List (Word T)) → as_int (slice_get st 0) ≡ None → LacksKind kind.Int st
  int_missing st e = λ o ar go. int_off o ar st (λ x u rest. go (Num x u) rest) e

  pub long_there : (st : List (Word T)) (v : ℤ) (t : T) → as_long (slice_get st 0) (slice_get st 1) ≡ Some (v, t) → HasKind kind.Long st (Long v t) (drop 2 st)
  long_there st v t e = λ o ar go. long_on o ar st (λ x u rest. go (Long x u) rest) v t e

  pub long_missing : (st : List (Word T)) → as_long (slice_get st 0) (slice_get st 1) ≡ None → LacksKind kind.Long st
  long_missing st e = λ o ar go. long_off o ar st (λ x u rest. go (Long x u) rest) e

  pub item_there : (st : List (Word T)) (a : ℕ) → held_by (slice_get st 0) ≡ holds.Item a → HasKind kind.Ref st (Ref a) (drop 1 st)
  item_there st a e = λ o ar go. ref_item o ar st go a e

  pub null_there : (st : List (Word T)) → held_by (slice_get st 0) ≡ holds.Null → HasKind kind.Ref st Null (drop 1 st)
  null_there st e = λ o ar go. ref_null o ar st go e

  pub ref_missing : (st : List (Word T)) → held_by (slice_get st 0) ≡ holds.Nothing → LacksKind kind.Ref st
  ref_missing st e = λ o ar go. ref_off o ar st go e

  -- a kind that is this one
  pub has_of : (j k : Kind) (st : List (Word T)) (v : Word T) (rest : List (Word T)) → j ≡ k → HasKind k st v rest → HasKind j st v rest
  has_of j k st v rest e h = subst (λ (x : Kind). HasKind x st v rest) (sym e) h

  pub lacks_of : (j k : Kind) (st : List (Word T)) → j ≡ k → LacksKind k st → LacksKind j st
  lacks_of j k st e h = subst (λ (x : Kind). LacksKind x st) (sym e) h
