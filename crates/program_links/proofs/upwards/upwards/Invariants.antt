use Rattle.std.proofs.Common.{◌≡◌, ◌+◌, ◌-◌, ◌<◌, ◌++◌, ℕ, List, Option, length}
use Rattle.std.specs.Prelude.{IfSome}
use Rattle.class_model.specs.declared.class.ClassDef.{ClassDef}
use Rattle.set_lookups.specs.Lookups.{supers}
use Rattle.program_links.specs.Upwards.{going_up, AreClasses}
use Rattle.program_links.proofs.upwards.upwards.Given as goal

-- the classes so far, and those that are left
pub record SoFar (set : List ClassDef) (number left : ℕ) (numbers : List ℕ) (next : Option ℕ) : Type 0 where
  pub all : supers set number ≡ numbers ++ going_up left set next
  pub within : AreClasses set numbers
  pub next_within : IfSome next (λ n. n < length set)

abbrev pub invariant-loop-step : goal.invariant-loop-step
invariant-loop-step l = SoFar l.set l.number (length l.set + 1 - l._step) l.numbers l.next
