-- What standard error and standard output get.
use Rattle.std.specs.Prelude.{◌≡◌, ℕ, List, ◌++◌, take, ◌≤◌, ◌⊎◌, Bool, Option, Some, None, Result, Ok, Err, ⊤}
use Rattle.std.specs.Bool.{MatchBool}
use Rattle.outside_io.specs.Causes.{Rose}
use Rattle.command_parts.specs.Lines.{list_fault_line, read_fault_line, write_fault_line}
use Rattle.command_parts.specs.Stops.{status_of, line_of}
use Rattle.command_parts.specs.declared.stop.Stop.{Stop}
use Rattle.command_parts.specs.declared.stop.Stop.TheVariants.{OutputFault}

-- a sink that tells what it holds has just this text more
abbrev pub Took : Option (List ℕ) → Option (List ℕ) → List ℕ → Type 0
Took None new text = ⊤
Took (Some old) None text = ⊥
Took (Some old) (Some new) text = new ≡ old ++ text

-- a sink that tells what it holds has just a front of this text more, perhaps none of it
abbrev pub TookFront : Option (List ℕ) → Option (List ℕ) → List ℕ → Type 0
TookFront None new text = ⊤
TookFront (Some old) None text = ⊥
TookFront (Some old) (Some new) text = (count : ℕ) × (new ≡ old ++ take count text)

-- standard output has this text, or its count of faults, r and then s, rose and it has a front of the text
abbrev pub Puts : Option (List ℕ) → Option (List ℕ) → (r s : ℕ) → List ℕ → Result (Unit {0}) Stop → Type 0
Puts old new r s text (Ok done) = Took old new text
Puts old new r s text (Err OutputFault) = TookFront old new text × Rose r s
Puts old new r s text (Err _) = ⊥

-- a text was written whole, or the count of faults, r and then s, rose
abbrev pub Says : Option (List ℕ) → Option (List ℕ) → (r s : ℕ) → List ℕ → Bool → Type 0
Says old new r s text said = (r ≤ s) × MatchBool said (Took old new text) (Rose r s)

-- the line of a stop was written whole and its status answered, or the count of faults rose and 4 is answered
abbrev pub Told : Stop → Option (List ℕ) → Option (List ℕ) → (r s : ℕ) → ℕ → Type 0
Told stop old new r s status = (r ≤ s) × (((status ≡ status_of stop) × Took old new (line_of stop)) ⊎ ((status ≡ 4) × Rose r s))

-- the line of a read fault names a folder that was listed or a file that was read
abbrev pub TookReadFault : Option (List ℕ) → Option (List ℕ) → Type 0
TookReadFault old new = ((dir : List ℕ) × Took old new (list_fault_line dir)) ⊎ ((path : List ℕ) × Took old new (read_fault_line path))

-- the line of a write fault names a file
abbrev pub TookWriteFault : Option (List ℕ) → Option (List ℕ) → Type 0
TookWriteFault old new = (path : List ℕ) × Took old new (write_fault_line path)
