-- What a source gives and a sink takes: this project's own rules.
use Rattle.std.specs.Prelude.{◌≡◌, ℕ, List, [], ◌++◌, take, ◌↔◌, ⊤, Result, Option, Some, None, Ok, Err, IfOk, IfSome}

-- where the rest is told, a read answers 0 exactly where nothing is left
abbrev pub IsZeroAtEnd : {E : Type 0} → Option (List ℕ) → Result ℕ E → Type 0
IsZeroAtEnd left result = IfOk result (λ count. IfSome left (λ rest. (count ≡ 0) ↔ (rest ≡ [])))

-- a sink that tells what it holds has all of the bytes behind that after `Ok`, and else a front of them
abbrev pub Takes : {E : Type 0} → Option (List ℕ) → Option (List ℕ) → List ℕ → Result (Unit {0}) E → Type 0
Takes None new bytes result = ⊤
Takes (Some old) None bytes result = ⊥
Takes (Some old) (Some new) bytes (Ok done) = new ≡ old ++ bytes
Takes (Some old) (Some new) bytes (Err stop) = (n : ℕ) × (new ≡ old ++ take n bytes)
