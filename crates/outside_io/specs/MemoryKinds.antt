-- What contracts see of the devices in memory: this project's own rules.
use Rattle.std.specs.Prelude.{◌≢◌, ℕ, ◌+◌, ◌≤◌, min, List, [], ◌∷◌, length, ⊤}
use Rattle.std.specs.FinMap.{empty, insert}
use Rattle.outside_io.specs.Causes.{last_count}
use Rattle.outside_io.specs.Files.{Files}

-- the number of the next call, and a count after one more fault: both stay at the last value
abbrev pub after : ℕ → ℕ
after n = min (n + 1) last_count

-- a source: what is left, the number of its next call, the calls that fail, and how many have failed
pub record SourceState : Type 0 where
  pub left : List ℕ
  pub call : ℕ
  pub failing : List ℕ
  pub faults : ℕ

-- a sink: what it holds, how many bytes it may hold, and its calls as a source has them
pub record SinkState : Type 0 where
  pub held : List ℕ
  pub capacity : ℕ
  pub call : ℕ
  pub failing : List ℕ
  pub faults : ℕ

-- a folder: the path and the bytes of each file that was given or written, oldest first and replaced ones too; how many files and bytes of paths and contents these may be; and its calls
pub record FolderState : Type 0 where
  pub written : List (List ℕ × List ℕ)
  pub files_room : ℕ
  pub bytes_room : ℕ
  pub call : ℕ
  pub failing : List ℕ
  pub read_faults : ℕ
  pub write_faults : ℕ

-- the files after these writes and then no others, on top of those that were there
abbrev pub written_over : Files → List (List ℕ × List ℕ) → Files
written_over files [] = files
written_over files (write ∷ writes) = written_over (insert files write.0 write.1) writes

-- the files that writes leave, a later one in place of an earlier at the same path
abbrev pub files_of : List (List ℕ × List ℕ) → Files
files_of writes = written_over empty writes

-- the bytes of the paths and contents
abbrev pub bytes_of : List (List ℕ × List ℕ) → ℕ
bytes_of [] = 0
bytes_of (write ∷ writes) = length write.0 + length write.1 + bytes_of writes

-- none of the files has this path
abbrev pub Lack : List ℕ → List (List ℕ × List ℕ) → Type 0
Lack path [] = ⊤
Lack path (file ∷ files) = (file.0 ≢ path) × Lack path files

-- no two of the files have one path
abbrev pub Differ : List (List ℕ × List ℕ) → Type 0
Differ [] = ⊤
Differ (file ∷ files) = Lack file.0 files × Differ files

-- a folder may be made of these files: no two have one path, and the rooms hold them
pub record Fits (files : List (List ℕ × List ℕ)) (files_room bytes_room : ℕ) : Type 0 where
  pub differ : Differ files
  pub few : length files ≤ files_room
  pub short : bytes_of files ≤ bytes_room
