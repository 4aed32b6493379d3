-- What writing files leaves. This project's own rules.
use Rattle.std.specs.Prelude.{◌≡◌, ℕ, ◌⊎◌, List, [], ◌∷◌, take, slice_get, Option, Some, None, Result, Ok, Err, ⊤}
use Rattle.std.specs.FinMap.{insert}
use Rattle.outside_io.specs.Files.{Files}
use Rattle.set_loader.specs.declared.file.File.{File}
use Rattle.command_parts.specs.declared.stop.Stop.{Stop}
use Rattle.command_parts.specs.declared.stop.Stop.TheVariants.{WriteFault}
use Rattle.command_parts.specs.Folders.{below}

-- a file with its whole path in a folder
abbrev pub placed : (dir : List ℕ) → File → File
placed dir file = record { path = below dir file.path; bytes = file.bytes }

-- the files after these were written whole, at whole paths, and nothing else
abbrev pub with_files : Files → List File → Files
with_files files [] = files
with_files files (file ∷ list) = with_files (insert files file.path file.bytes) list

-- the first `count` of these files are whole, of the next there is at most a prefix, and all else is as before
pub record StopsAt (old new : Files) (list : List File) (count : ℕ) (next : File) : Type 0 where
  pub is_next : slice_get list count ≡ Some next
  pub left : (new ≡ with_files old (take count list)) ⊎ ((len : ℕ) × (new ≡ insert (with_files old (take count list)) next.path (take len next.bytes)))

-- what a folder that tells its files holds after they were written one after the other: all of them, or those up to the number of the one that failed
abbrev pub WritesFront : Option Files → Option Files → List File → (failed : Option ℕ) → Type 0
WritesFront None new list failed = ⊤
WritesFront (Some old) None list failed = ⊥
WritesFront (Some old) (Some new) list None = new ≡ with_files old list
WritesFront (Some old) (Some new) list (Some count) = (next : File) × StopsAt old new list count next

-- the same, where the file that failed is told by its path
abbrev pub Writes : Option Files → Option Files → List File → Result (Unit {0}) Stop → Type 0
Writes None new list result = ⊤
Writes (Some old) None list result = ⊥
Writes (Some old) (Some new) list (Ok done) = new ≡ with_files old list
Writes (Some old) (Some new) list (Err (WriteFault path)) = (count : ℕ) × (next : File) × StopsAt old new list count next × (path ≡ next.path)
Writes (Some old) (Some new) list (Err _) = ⊥
