-- The line of a refusal of the loader, as bytes. The texts are this project's own.
use Rattle.std.specs.Prelude.{ℕ, List, [], ◌∷◌, ◌++◌, Option, Some, None, codes, slice_get}
use Rattle.std.specs.Fmt.{decimal}
use Rattle.modified_utf8.specs.Text.{text_bytes}
use Rattle.class_input.specs.declared.bad_class.BadKind.{BadKind}
use Rattle.profile_check.specs.declared.profile.ProfileKind.{ProfileKind}
use Rattle.class_set.specs.declared.fault.SetFault.{SetFault}
use Rattle.type_rows.specs.declared.rule.VerifyRule.{VerifyRule}
use Rattle.set_loader.specs.declared.file.File.{File}
use Rattle.set_loader.specs.declared.stop.LoadStop.{LoadStop}
use Rattle.set_loader.specs.declared.stop.LoadStop.TheVariants as stops
use Rattle.command_parts.specs.Kinds.{kind_text, profile_text, set_text, rule_text}

-- the file of this path, relative to its folder, is bad at a place
abbrev pub bad_line : List ℕ → ℕ → BadKind → List ℕ
bad_line path place kind = codes "refused: " ++ path ++ codes ": byte " ++ decimal place ++ codes ": " ++ kind_text kind ++ 10 ∷ []

-- the class of the file of this path, relative to its folder, is out of the profile
abbrev pub profile_line : List ℕ → ProfileKind → List ℕ
profile_line path kind = codes "refused: " ++ path ++ codes ": profile: " ++ profile_text kind ++ 10 ∷ []

-- the classes are no closed set
abbrev pub set_line : SetFault → List ℕ
set_line fault = codes "refused: set: " ++ set_text fault ++ 10 ∷ []

-- a method of these names, of its class, its own and the text of its descriptor, does not verify
abbrev pub types_line : (class name desc : List ℕ) → ℕ → VerifyRule → List ℕ
types_line class name desc at rule =
    codes "refused: " ++ text_bytes class ++ codes "." ++ text_bytes name ++ text_bytes desc ++ codes ": instruction " ++ decimal at ++ codes ": " ++ rule_text rule ++ 10 ∷ []

abbrev pub path_or : Option File → List ℕ
path_or None = []
path_or (Some file) = file.path

-- the path of the file of this number
abbrev pub path_at : List File → ℕ → List ℕ
path_at files number = path_or (slice_get files number)

-- the line of a refusal of these files; want of memory is told by another
abbrev pub load_line : List File → LoadStop → List ℕ
load_line files (stops.Bad number place kind) = bad_line (path_at files number) place kind
load_line files (stops.Profile number fault) = profile_line (path_at files number) fault.kind
load_line files (stops.Set fault) = set_line fault
load_line files (stops.Unverified class name desc at rule) = types_line class name desc at rule
load_line files stops.Memory = []
