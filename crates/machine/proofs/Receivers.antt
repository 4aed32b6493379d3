-- The receiver of a call: the lowest of its words.
use Rattle.std.proofs.Common.{◌≡◌, ℕ, zero, suc, List, [], ◌∷◌, refl}
use Rattle.std.specs.Prelude.{slice_get}
use Rattle.run_state.specs.Words.{Word}
use Rattle.run_state.specs.State.{Areas, Outside, State}
use Rattle.run_state.specs.Operands.{stuck, on_object, with_args}
use Rattle.machine.specs.declared.operands.Held.TheVariants as holds
use Rattle.machine.specs.Held.{held_by}
use Rattle.machine.specs.Called.{receiver_in}
use Rattle.machine.proofs.OperandTops.{object_item, object_null, object_nothing}

module _ {T : Type 0} (o : Outside) (ar : Areas T) where
  abbrev pub receiving : ℕ → List (Word T) → List (Word T) → State T → (List (Word T) → ℕ → List (Word T) → State T) → State T
  receiving n st acc null go = with_args o ar n st acc (λ args rest. on_object o ar args null (λ b more. go args b rest))

  nothing_lowest : (n : ℕ) (st acc : List (Word T)) (null : State T) (go : List (Word T) → ℕ → List (Word T) → State T) → held_by (slice_get st n) ≡ holds.Nothing → receiving (suc n) st acc null go ≡ stuck o ar
  nothing_lowest n [] acc null go e = refl
  nothing_lowest zero (x ∷ st) acc null go e = object_nothing o ar (x ∷ acc) null (λ b more. go (x ∷ acc) b st) e
  nothing_lowest (suc n) (x ∷ st) acc null go e = nothing_lowest n st (x ∷ acc) null go e

  null_lowest : (n : ℕ) (st acc : List (Word T)) (null : State T) (go : List (Word T) → ℕ → List (Word T) → State T) → held_by (slice_get st n) ≡ holds.Null → receiving (suc n) st acc null go ≡ null
  null_lowest n [] acc null go e = cc
  null_lowest zero (x ∷ st) acc null go e = object_null o ar (x ∷ acc) null (λ b more. go (x ∷ acc) b st) e
  null_lowest (suc n) (x ∷ st) acc null go e = null_lowest n st (x ∷ acc) null go e

  item_lowest : (n : ℕ) (st acc : List (Word T)) (null : State T) (go : List (Word T) → ℕ → List (Word T) → State T) (at : ℕ) → held_by (slice_get st n) ≡ holds.Item at
      → receiving (suc n) st acc null go ≡ with_args o ar (suc n) st acc (λ args rest. go args at rest)
  item_lowest n [] acc null go at e = cc
  item_lowest zero (x ∷ st) acc null go at e = object_item o ar (x ∷ acc) null (λ b more. go (x ∷ acc) b st) at e
  item_lowest (suc n) (x ∷ st) acc null go at e = item_lowest n st (x ∷ acc) null go at e

  one_lowest : (n : ℕ) (st acc : List (Word T)) (s : State T) (at : ℕ) → held_by (slice_get st n) ≡ holds.Item at → with_args o ar (suc n) st acc (λ args rest. s) ≡ s
  one_lowest n [] acc s at e = cc
  one_lowest zero (x ∷ st) acc s at e = refl
  one_lowest (suc n) (x ∷ st) acc s at e = one_lowest n st (x ∷ acc) s at e

  pub received_nothing : (n : ℕ) (st : List (Word T)) (null : State T) (go : List (Word T) → ℕ → List (Word T) → State T) → receiver_in n st ≡ holds.Nothing → receiving n st [] null go ≡ stuck o ar
  received_nothing zero st null go e = refl
  received_nothing (suc n) st null go e = nothing_lowest n st [] null go e

  pub received_null : (n : ℕ) (st : List (Word T)) (null : State T) (go : List (Word T) → ℕ → List (Word T) → State T) → receiver_in n st ≡ holds.Null → receiving n st [] null go ≡ null
  received_null zero st null go e = cc
  received_null (suc n) st null go e = null_lowest n st [] null go e

  pub received_item : (n : ℕ) (st : List (Word T)) (null : State T) (go : List (Word T) → ℕ → List (Word T) → State T) (at : ℕ) → receiver_in n st ≡ holds.Item at
      → receiving n st [] null go ≡ with_args o ar n st [] (λ args rest. go args at rest)
  received_item zero st null go at e = cc
  received_item (suc n) st null go at e = item_lowest n st [] null go at e

  -- what does not depend on the arguments
  pub args_unused : (n : ℕ) (st : List (Word T)) (s : State T) (at : ℕ) → receiver_in n st ≡ holds.Item at → with_args o ar n st [] (λ args rest. s) ≡ s
  args_unused zero st s at e = cc
  args_unused (suc n) st s at e = one_lowest n st [] s at e

  pub args_same : (n : ℕ) (st acc : List (Word T)) (go to : List (Word T) → List (Word T) → State T) → ((args rest : List (Word T)) → go args rest ≡ to args rest) → with_args o ar n st acc go ≡ with_args o ar n st acc to
  args_same zero st acc go to h = h acc st
  args_same (suc n) [] acc go to h = refl
  args_same (suc n) (x ∷ st) acc go to h = args_same n st (x ∷ acc) go to h

  pub args_stuck : (n : ℕ) (st acc : List (Word T)) → with_args o ar n st acc (λ args rest. stuck o ar) ≡ stuck o ar
  args_stuck zero st acc = refl
  args_stuck (suc n) [] acc = refl
  args_stuck (suc n) (x ∷ st) acc = args_stuck n st (x ∷ acc)
