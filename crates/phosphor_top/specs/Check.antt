-- The command `check`: its verdict, and what it leaves. This project's own.
use Rattle.std.specs.Prelude.{◌≡◌, ℕ, List, length, Option, Result, Ok, Err}
use Rattle.outside_io.specs.Causes.{Rose}
use Rattle.outside_io.specs.Files.{Files}
use Rattle.class_model.specs.declared.class.ClassDef.{ClassDef}
use Rattle.profile_check.specs.declared.profile.Names.TheVariants as names
use Rattle.command_parts.specs.Lines.{ok_line}
use Rattle.command_parts.specs.Looks.{LookCause}
use Rattle.command_parts.specs.Told.{Took, TookFront}
use Rattle.command_parts.specs.declared.stop.Stop.{Stop}
use Rattle.command_parts.specs.declared.stop.Stop.TheVariants.{OutputFault}
use Rattle.phosphor_top.specs.Loading.{LoadsFrom, RefusesLoad}

-- the class files of a folder, so many, load
pub record Passes (dir : List ℕ) (files : Files) (count : ℕ) : Type 0 where
  pub set : List ClassDef
  pub loads : LoadsFrom names.Written files dir set
  pub counted : count ≡ length loads.list

-- they do not
abbrev pub Refuses : (dir : List ℕ) → Files → Stop → Type 0
Refuses dir files stop = RefusesLoad names.Written files dir stop

-- what is written to standard output: the number of class files, whole or a front of its line
abbrev pub Answers : (dir : List ℕ) → Files → (before now : Option (List ℕ)) → Result (Unit {0}) Stop → Type 0
Answers dir files before now (Ok done) = (count : ℕ) × Passes dir files count × Took before now (ok_line count)
Answers dir files before now (Err OutputFault) = (count : ℕ) × Passes dir files count × TookFront before now (ok_line count)
Answers dir files before now (Err stop) = Refuses dir files stop

-- the folder is as before
pub record Ends (dir : List ℕ) (old new : Files) (before now : Option (List ℕ)) (outcome : Result (Unit {0}) Stop) : Type 0 where
  pub kept : new ≡ old
  pub answers : Answers dir old before now outcome

-- a fault comes only where the count of its device rose: failed reads of the folder from r to s, failed writes of
-- standard output from v to w
abbrev pub Causes : Stop → (r s v w : ℕ) → Type 0
Causes OutputFault r s v w = Rose v w
Causes stop r s v w = LookCause stop r s
