-- Faults that name what is wrong, in their order.
use Rattle.std.proofs.Common.{◌≡◌, ℕ, Bool, true, false, cond, List, refl, Option, Some, None, Result, Ok, Err, sym, subst}
use Rattle.std.specs.Prelude.{option_map, IsErrAnd, MatchResult}
use Rattle.std.specs.Option.{option_or}
use Rattle.class_set.specs.declared.fault.SetFault.{SetFault}
use Rattle.class_set.specs.declared.fault.SetFault.TheVariants.{Duplicate, Missing, Cycle, FinalSuper, Core, Unresolved, WrongKind, Abstract, Memory}
use Rattle.class_set.specs.Answer.{IsFault}

-- a fault where nothing is wrong is want of memory
no_memory : (found : Option SetFault) (fault : SetFault) → IsFault None fault → IsFault found fault
no_memory found Memory h = h
no_memory found (Duplicate name) h = cc
no_memory found (Missing name) h = cc
no_memory found (Cycle name) h = cc
no_memory found (FinalSuper name) h = cc
no_memory found (Core name) h = cc
no_memory found (Unresolved text) h = cc
no_memory found (WrongKind text) h = cc
no_memory found (Abstract name) h = cc

-- a core class that has not its shape is told before what comes behind it
pub core_first : (has : Bool) (name : List ℕ) (rest : Option (List ℕ)) (fault : SetFault) → IsFault (cond has None (Some (Core name))) fault → IsFault (option_map Core (option_or (cond has None (Some name)) rest)) fault
core_first true name rest fault h = no_memory (option_map Core rest) fault h
core_first false name rest fault h = h

-- one that has it leaves the answer to what comes behind it
pub core_passed : (has : Bool) (name : List ℕ) (rest : Option (List ℕ)) → has ≡ true → option_or (cond has None (Some name)) rest ≡ rest
core_passed true name rest h = refl
core_passed false name rest h = cc

-- what is told where a `?` returns a fault
pub err_told : {A : Type 0} (result : Result A SetFault) (stop : SetFault) (Q : A → Type 0) (P : SetFault → Type 0) → IsErrAnd result (λ s. s ≡ stop) → P stop → MatchResult result Q P
err_told (Ok value) stop Q P e p = absurd e
err_told (Err other) stop Q P e p = subst P (sym e) p
