-- What is claimed of indices and bytes that are put into a pool: it holds in each pool that extends the one afterwards.
use Rattle.std.specs.Prelude.{◌≡◌, ℕ, ◌<◌, ◌≤◌, ◌^◌, List, length, Some, Ok, Bool, All}
use Rattle.class_names.specs.declared.member.MethodEntry.{MethodEntry}
use Rattle.class_names.specs.Names.{as_method}
use Rattle.pool_names.specs.Spelling.{method_entry}
use Rattle.const_pool.specs.Pool.{Pool}
use Rattle.const_pool.specs.Editor.{Extends}
use Rattle.pool_names.specs.Adding.{Adding}

-- a pool that extends another, and has no index over 65,534
pub record Becomes (q r : Pool) : Type 0 where
  pub extends : Extends q r
  pub small : length r ≤ 65534

-- from a pool p to a pool q that extends it
pub record Claim {A : Type 0} (C : Pool → A → Type 0) (p q : Pool) (a : A) : Type 0 where
  pub grows : Extends p q
  pub holds : (r : Pool) → Becomes q r → C r a

-- whatever pool is gone on from
pub record Claims {A : Type 0} (C : Pool → A → Type 0) (m : Adding A) : Type 0 where
  pub each : (p q : Pool) (a : A) → m p ≡ Ok (q, a) → Claim C p q a

-- an index of two bytes that names something
abbrev pub IsIndex : {X : Type 0} → (Pool → ℕ → X → Type 0) → X → Pool → ℕ → Type 0
IsIndex Names x r k = (k < 2 ^ 16) × Names r k x

-- ---- what some claims ask for

-- the entry of a method is of a kind that is taken
abbrev pub IsTaken : MethodEntry → Bool → Type 0
IsTaken kind in_interface = (class pair : ℕ) → as_method kind (method_entry in_interface class pair) ≡ Some (class, pair, in_interface)

-- each of a list claims what it is, and so do all of them, one after the other
abbrev pub AllClaims : {A : Type 0} → (Pool → List ℕ → A → Type 0) → (A → Adding (List ℕ)) → List A → Type 0
AllClaims R spell xs = All (λ x. Claims (λ r text. R r text x) (spell x)) xs
