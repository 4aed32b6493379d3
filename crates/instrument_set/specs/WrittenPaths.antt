-- The paths of the written set. This project's own.
use Rattle.std.specs.Prelude.{ℕ, List, [], ◌∷◌, if◌then◌else◌}
use Rattle.std.specs.Ordering.{nat_cmp, is_lt}
use Rattle.std.specs.Cmp.Lexicographic.{slice_cmp}
use Rattle.class_model.specs.declared.class.ClassDef.{ClassDef}
use Rattle.first_form.specs.Natives.{report_name}
use Rattle.instrument_set.specs.WrittenSet.{path_of}

-- a path among paths in the order of their bytes
abbrev pub insert_path : List ℕ → List (List ℕ) → List (List ℕ)
insert_path path [] = path ∷ []
insert_path path (other ∷ others) = if is_lt (slice_cmp nat_cmp path other) then path ∷ other ∷ others else other ∷ insert_path path others

-- the path of each class of the set at its own name, and that of the class of reports, in the order of their bytes
abbrev pub written_paths : List ClassDef → List (List ℕ)
written_paths [] = path_of report_name ∷ []
written_paths (class ∷ classes) = insert_path (path_of class.name) (written_paths classes)
