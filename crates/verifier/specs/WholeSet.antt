-- The methods of a set, in the order of its classes and of their files.
use Rattle.std.specs.Prelude.{◌≡◌, ◌<◌, ◌⊎◌, ℕ, List, length, Option, Some, None, IfSome, slice_get, option_and_then}
use Rattle.class_model.specs.declared.class.ClassDef.{ClassDef}
use Rattle.class_model.specs.declared.class.MethodDef.{MethodDef}
use Rattle.set_lookups.specs.declared.ids.MethodId.{MethodId}
use Rattle.type_rows.specs.declared.rule.VerifyRule.{VerifyRule}
use Rattle.type_rows.specs.Method.{Method}
use Rattle.verifier.specs.declared.typed_code.VerifyStop.{VerifyStop}
use Rattle.verifier.specs.declared.typed_code.VerifyStop.TheVariants.{Unverified, Memory}
use Rattle.verifier.specs.declared.sets.Found.{Found}
use Rattle.verifier.specs.declared.sets.Found.TheVariants as founds
use Rattle.verifier.specs.Set.{method_in, method_of}
use Rattle.verifier.specs.Verifies.{Verifies, FirstUnverified}
use Rattle.verifier.specs.Typed.{Typed, IsTyped}

-- the first comes before the second: in an earlier class, or earlier in the file of the same class
abbrev pub Earlier : MethodId → MethodId → Type 0
Earlier id other = (id.class < other.class) ⊎ ((id.class ≡ other.class) × (id.index < other.index))

-- each method with code verifies
abbrev pub SetVerifies : List ClassDef → Type 0
SetVerifies set = (id : MethodId) → IfSome (method_of set id) Verifies

abbrev pub Fails : Option Method → ℕ → VerifyRule → Type 0
Fails None at rule = ⊥
Fails (Some m) at rule = FirstUnverified m at rule

-- the first method that fails, with its first failure
pub record FirstInSet (set : List ClassDef) (id : MethodId) (at : ℕ) (rule : VerifyRule) : Type 0 where
  pub fails : Fails (method_of set id) at rule
  pub earlier : (other : MethodId) → Earlier other id → IfSome (method_of set other) Verifies

-- what is kept of a method: its frames where it has code
abbrev pub KeepsTyped : Method → Option Typed → Type 0
KeepsTyped m None = ⊥
KeepsTyped m (Some typed) = IsTyped m typed

abbrev pub Keeps : Option Method → Option Typed → Type 0
Keeps None kept = kept ≡ None
Keeps (Some m) kept = KeepsTyped m kept

-- a refusal of a method is its first failure
abbrev pub Refuses : Option Method → VerifyStop → Type 0
Refuses found (Unverified at rule) = Fails found at rule
Refuses found Memory = Unit {0}

-- what is kept of the methods of a class, by their numbers
abbrev pub kept_in : List (Option Typed) → ℕ → Option Typed
kept_in row index = option_and_then (λ kept. kept) (slice_get row index)

-- what is kept of the methods of the first classes
abbrev pub kept_at : List (List (Option Typed)) → MethodId → Option Typed
kept_at rows id = option_and_then (λ row. kept_in row id.index) (slice_get rows id.class)

-- what is kept of the first methods of a class
pub record IsRow (set : List ClassDef) (number : ℕ) (class : ClassDef) (row : List (Option Typed)) (count : ℕ) : Type 0 where
  pub counted : length row ≡ count
  pub each : (k : ℕ) (method : MethodDef) → k < count → slice_get class.methods k ≡ Some method → Keeps (method_in set number class method) (kept_in row k)

-- a method of a class fails, and those before it verify
pub record FailsInClass (set : List ClassDef) (number : ℕ) (class : ClassDef) (index : ℕ) (at : ℕ) (rule : VerifyRule) : Type 0 where
  pub method : MethodDef
  pub is : slice_get class.methods index ≡ Some method
  pub fails : Fails (method_in set number class method) at rule
  pub earlier : (k : ℕ) (other : MethodDef) → k < index → slice_get class.methods k ≡ Some other → IfSome (method_in set number class other) Verifies

abbrev pub StopsClass : List ClassDef → ℕ → ClassDef → Found → Type 0
StopsClass set number class (founds.Unverified id at rule) = (id.class ≡ number) × FailsInClass set number class id.index at rule
StopsClass set number class founds.Memory = Unit {0}

-- a refusal of a method, told for the set
abbrev pub told : ℕ → ℕ → VerifyStop → Found
told number index (Unverified at rule) = founds.Unverified (record { class = number; index = index }) at rule
told number index Memory = founds.Memory

-- what is kept of the first classes
pub record AreRows (set : List ClassDef) (rows : List (List (Option Typed))) (count : ℕ) : Type 0 where
  pub counted : length rows ≡ count
  pub each : (id : MethodId) → id.class < count → Keeps (method_of set id) (kept_at rows id)

abbrev pub StopsSet : List ClassDef → Found → Type 0
StopsSet set (founds.Unverified id at rule) = FirstInSet set id at rule
StopsSet set founds.Memory = Unit {0}
