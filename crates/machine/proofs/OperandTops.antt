-- What the definitions' operands come to, by what the words of the stack hold.
use Rattle.std.proofs.Common.{◌≡◌, ℕ, List, [], ◌∷◌, drop, refl, ap}
use Rattle.std.specs.Prelude.{slice_get}
use Rattle.run_state.specs.Words.{Word, Empty, Num, Long, Half, Null, Ref}
use Rattle.run_state.specs.State.{Areas, Outside, State}
use Rattle.run_state.specs.Operands.{stuck, on_object}
use Rattle.machine.specs.declared.operands.Held.TheVariants as holds
use Rattle.machine.specs.Held.{held_by}

module _ {T : Type 0} (o : Outside) (ar : Areas T) where
  pub object_item : (st : List (Word T)) (null : State T) (go : ℕ → List (Word T) → State T) (a : ℕ) → held_by (slice_get st 0) ≡ holds.Item a → on_object o ar st null go ≡ go a (drop 1 st)
  object_item [] null go a e = cc
  object_item (Empty ∷ st) null go a e = cc
  object_item (Num v t ∷ st) null go a e = cc
  object_item (Long v t ∷ st) null go a e = cc
  object_item (Half ∷ st) null go a e = cc
  object_item (Null ∷ st) null go a e = cc
  object_item (Ref b ∷ st) null go a e = let same : b ≡ a = cc in ap (λ x. go x st) same

  pub object_null : (st : List (Word T)) (null : State T) (go : ℕ → List (Word T) → State T) → held_by (slice_get st 0) ≡ holds.Null → on_object o ar st null go ≡ null
  object_null [] null go e = cc
  object_null (Empty ∷ st) null go e = cc
  object_null (Num v t ∷ st) null go e = cc
  object_null (Long v t ∷ st) null go e = cc
  object_null (Half ∷ st) null go e = cc
  object_null (Null ∷ st) null go e = refl
  object_null (Ref b ∷ st) null go e = cc

  pub object_nothing : (st : List (Word T)) (null : State T) (go : ℕ → List (Word T) → State T) → held_by (slice_get st 0) ≡ holds.Nothing → on_object o ar st null go ≡ stuck o ar
  object_nothing [] null go e = refl
  object_nothing (Empty ∷ st) null go e = refl
  object_nothing (Num v t ∷ st) null go e = refl
  object_nothing (Long v t ∷ st) null go e = refl
  object_nothing (Half ∷ st) null go e = refl
  object_nothing (Null ∷ st) null go e = cc
  object_nothing (Ref b ∷ st) null go e = cc
