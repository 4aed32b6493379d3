-- What stands in a folder, and what the calls that look at one answer. This project's own rules. A refusal yields to a
-- fault of the folder and to want of memory.
use Rattle.std.specs.Prelude.{◌≡◌, ◌≢◌, ℕ, ◌<◌, ◌≤◌, nat_eq, Bool, List, [], ◌∷◌, ◌++◌, length, filter, codes, Some, None, IsSome, IsSomeAnd, ⊤}
use Rattle.std.specs.List.{All, AllZip, ends_with}
use Rattle.std.specs.FinMap.{get}
use Rattle.outside_io.specs.Files.{Files, Ascend, AreBelow, most_files, most_bytes}
use Rattle.set_loader.specs.declared.file.File.{File}
use Rattle.command_parts.specs.declared.stop.Stop.{Stop}
use Rattle.command_parts.specs.declared.stop.Stop.TheVariants.{ListFault, ReadFault, TooManyFiles, FileTooLong, NoFile, NotEmpty, Memory}

-- the whole path of a file in a folder
abbrev pub below : (dir path : List ℕ) → List ℕ
below dir path = dir ++ 47 ∷ path

-- these are the paths of all files of a folder, ascending, and they are few enough to be read
pub record HasFew (files : Files) (dir : List ℕ) (paths : List (List ℕ)) : Type 0 where
  pub ascend : Ascend paths
  pub all : AreBelow dir files paths
  pub few : length paths ≤ most_files

-- a folder holds more files than are read
pub record HasMany (files : Files) (dir : List ℕ) : Type 0 where
  pub paths : List (List ℕ)
  pub ascend : Ascend paths
  pub all : AreBelow dir files paths
  pub many : most_files < length paths

-- a folder holds no file
abbrev pub IsEmpty : Files → (dir : List ℕ) → Type 0
IsEmpty files dir = AreBelow dir files []

-- a folder holds a file
abbrev pub HasFile : Files → (dir : List ℕ) → Type 0
HasFile files dir = (path : List ℕ) × (path ≢ []) × IsSome (get files (below dir path))

-- a file has more bytes than are read
abbrev pub IsLong : Files → (whole : List ℕ) → Type 0
IsLong files whole = IsSomeAnd (get files whole) (λ bytes. most_bytes < length bytes)

abbrev pub is_class_path : List ℕ → Bool
is_class_path path = ends_with nat_eq path (codes ".class")

-- a file of a folder has this path there
abbrev pub IsFileAt : Files → (dir path : List ℕ) → File → Type 0
IsFileAt files dir path file = (file.path ≡ path) × (get files (below dir path) ≡ Some file.bytes)

-- these files of a folder have these paths, in order
abbrev pub AreFilesAt : Files → (dir : List ℕ) → List (List ℕ) → List File → Type 0
AreFilesAt files dir paths list = AllZip (IsFileAt files dir) paths list

-- a file of a folder that is short enough to be read
abbrev pub ReadsFile : Files → (dir path : List ℕ) → File → Type 0
ReadsFile files dir path file = IsFileAt files dir path file × (length file.bytes ≤ most_bytes)

-- no file has more bytes than are read
abbrev pub AreShort : List File → Type 0
AreShort list = All (λ file. length file.bytes ≤ most_bytes) list

-- the files of a folder whose path ends in `.class`, by path, with their paths in the folder
pub record ClassFiles (files : Files) (dir : List ℕ) (list : List File) : Type 0 where
  pub paths : List (List ℕ)
  pub ascend : Ascend paths
  pub all : AreBelow dir files paths
  pub at : AreFilesAt files dir (filter is_class_path paths) list

-- a folder holds few enough files, and these are its class files, each short enough to be read
pub record ReadsClassFiles (files : Files) (dir : List ℕ) (list : List File) : Type 0 where
  pub paths : List (List ℕ)
  pub few : HasFew files dir paths
  pub at : AreFilesAt files dir (filter is_class_path paths) list
  pub short : AreShort list

-- of the class files of a folder, by path, the first that is too long to be read has this whole path
pub record FirstLong (files : Files) (dir whole : List ℕ) : Type 0 where
  pub paths : List (List ℕ)
  pub few : HasFew files dir paths
  pub front : List (List ℕ)
  pub path : List ℕ
  pub back : List (List ℕ)
  pub split : filter is_class_path paths ≡ front ++ path ∷ back
  pub list : List File
  pub at : AreFilesAt files dir front list
  pub short : AreShort list
  pub named : whole ≡ below dir path
  pub long : IsLong files whole

-- where a list of a folder is refused
abbrev pub RefusesList : Files → (dir : List ℕ) → Stop → Type 0
RefusesList files dir (TooManyFiles at) = (at ≡ dir) × HasMany files dir
RefusesList files dir (ListFault at) = ⊤
RefusesList files dir Memory = ⊤
RefusesList files dir _ = ⊥

-- the bytes of a file that is short enough to be read
abbrev pub ReadsBytes : Files → (whole bytes : List ℕ) → Type 0
ReadsBytes files whole bytes = (length bytes ≤ most_bytes) × (get files whole ≡ Some bytes)

-- where a read of a file is refused; the line of an absent one has the path `named`
abbrev pub RefusesRead : Files → (whole named : List ℕ) → Stop → Type 0
RefusesRead files whole named (NoFile path) = (path ≡ named) × (get files whole ≡ None)
RefusesRead files whole named (FileTooLong path) = (path ≡ whole) × IsLong files whole
RefusesRead files whole named (ReadFault path) = ⊤
RefusesRead files whole named Memory = ⊤
RefusesRead files whole named _ = ⊥

-- where a reading of the class files of a folder is refused
abbrev pub RefusesClassFiles : Files → (dir : List ℕ) → Stop → Type 0
RefusesClassFiles files dir (TooManyFiles at) = (at ≡ dir) × HasMany files dir
RefusesClassFiles files dir (FileTooLong whole) = FirstLong files dir whole
RefusesClassFiles files dir (ListFault at) = ⊤
RefusesClassFiles files dir (ReadFault path) = ⊤
RefusesClassFiles files dir Memory = ⊤
RefusesClassFiles files dir _ = ⊥

-- where a folder is refused for not being empty
abbrev pub RefusesFull : Files → (dir : List ℕ) → Stop → Type 0
RefusesFull files dir (NotEmpty at) = (at ≡ dir) × HasFile files dir
RefusesFull files dir (ListFault at) = ⊤
RefusesFull files dir Memory = ⊤
RefusesFull files dir _ = ⊥
