-- The written set of a set of the first form, in the order of its paths. This project's own.
use Rattle.std.specs.Prelude.{◌≡◌, ℕ, ◌-◌, ◌&&◌, nat_le, Bool, false, List, [], ◌∷◌, ◌++◌, length, take, All, codes, if◌then◌else◌}
use Rattle.std.proofs.Math.Utf8.{encodes}
use Rattle.std.specs.Ordering.{nat_cmp, is_lt}
use Rattle.std.specs.Cmp.Lexicographic.{slice_cmp}
use Rattle.class_model.specs.declared.class.ClassDef.{ClassDef}
use Rattle.small_base.specs.Base.{small_base}
use Rattle.first_form.specs.Base.{report_class}
use Rattle.instrument_set.specs.declared.marks.Marks.{Marks}
use Rattle.instrument_set.specs.Written.{written_class}

-- the path of a class of this name, none of whose units is a surrogate: the name in UTF-8
abbrev pub path_of : List ℕ → List ℕ
path_of name = encodes name ++ codes ".class"

-- half of a character past the 16-bit range
abbrev pub is_surrogate : ℕ → Bool
is_surrogate unit = nat_le 0xD800 unit && nat_le unit 0xDFFF

-- a name each of whose units is a character
abbrev pub IsPlain : List ℕ → Type 0
IsPlain name = All (λ unit. is_surrogate unit ≡ false) name

-- whether a class comes before another, by the bytes of their paths
abbrev pub comes_before : ClassDef → ClassDef → Bool
comes_before c d = is_lt (slice_cmp nat_cmp (path_of c.name) (path_of d.name))

-- a class among classes in the order of their paths
abbrev pub insert_class : ClassDef → List ClassDef → List ClassDef
insert_class c [] = c ∷ []
insert_class c (d ∷ ds) = if comes_before c d then c ∷ d ∷ ds else d ∷ insert_class c ds

-- what stands beside a written class: the small base as it stands, and the class of reports
abbrev pub written_base : List ClassDef
written_base = insert_class report_class small_base

-- the written set of the classes before the small base: at most one, which is written
abbrev pub with_written : Marks → List ClassDef → List ClassDef
with_written marks [] = written_base
with_written marks (class ∷ classes) = insert_class (written_class marks class) written_base

-- the written set of a set that ends with the small base
abbrev pub written_set : Marks → List ClassDef → List ClassDef
written_set marks set = with_written marks (take (length set - length small_base) set)
