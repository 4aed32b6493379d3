-- What a folder is like after calls that only look at it.
use Rattle.std.specs.Prelude.{ℕ, ◌≤◌, Option, Result, IfErr, ⊤}
use Rattle.outside_io.specs.Causes.{Rose}
use Rattle.outside_io.specs.Files.{Files, Stay}
use Rattle.command_parts.specs.declared.stop.Stop.{Stop}
use Rattle.command_parts.specs.declared.stop.Stop.TheVariants.{Usage, ListFault, ReadFault, InputFault, WriteFault, OutputFault}

-- a look at a folder answers a fault only where the count of failed reads, r and then s, rose; nothing is written
abbrev pub LookCause : Stop → (r s : ℕ) → Type 0
LookCause Usage r s = ⊥
LookCause (ListFault dir) r s = Rose r s
LookCause (ReadFault path) r s = Rose r s
LookCause InputFault r s = ⊥
LookCause (WriteFault path) r s = ⊥
LookCause OutputFault r s = ⊥
LookCause _ r s = ⊤

-- The files were m and are n. The count of failed reads was r and is s, that of failed writes was v and is w.
-- No file changed, no count fell, and a fault is answered only where its count rose.
pub record Looked {T : Type 0} (m n : Option Files) (r s v w : ℕ) (result : Result T Stop) : Type 0 where
  pub kept : Stay m n
  pub reads : r ≤ s
  pub writes : v ≤ w
  pub cause : IfErr result (λ stop. LookCause stop r s)
