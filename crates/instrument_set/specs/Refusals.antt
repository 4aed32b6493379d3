-- Why a set is not instrumented. This project's own.
use Rattle.std.specs.Prelude.{◌≡◌, ℕ, List, ◌⊎◌}
use Rattle.class_model.specs.declared.class.ClassDef.{ClassDef}
use Rattle.size_limits.specs.declared.limit.LimitStop.{LimitStop}
use Rattle.size_limits.specs.declared.limit.LimitStop.TheVariants.{Limit, NotBuilt, Memory}
use Rattle.first_form.specs.FirstSet.{IsNotBuilt}

-- a class of the set is not built yet; no set that is built passes a limit; want of memory may come with any set
abbrev pub Refuses : List ClassDef → LimitStop → Type 0
Refuses set (Limit kind class method number) = ⊥
Refuses set (NotBuilt class) = IsNotBuilt set class
Refuses set Memory = Unit {0}

-- this class is told, unless memory runs out
abbrev pub IsTold : ℕ → LimitStop → Type 0
IsTold class stop = (stop ≡ NotBuilt class) ⊎ (stop ≡ Memory)
