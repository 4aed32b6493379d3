-- What a class meets on the ways up.
use Rattle.std.specs.Prelude.{ℕ, ◌||◌, zero, suc, Bool, List}
use Rattle.std.specs.List.{list_any}
use Rattle.class_model.specs.declared.class.ClassDef.{ClassDef}
use Rattle.set_lookups.specs.Above.{above}

-- a class, or one that is above it in at most so many steps, passes a test
abbrev pub meets : ℕ → List ClassDef → (ℕ → Bool) → ℕ → Bool
meets zero set test low = test low
meets (suc steps) set test low = test low || list_any (meets steps set test) (above set low)
