-- What a name may be. A name is its UTF-16 units; the unqualified names of JVMS 4.2.2, narrowed by rules of this project's own.
use Rattle.std.specs.Prelude.{◌≡◌, ℕ, ◌==◌, ◌&&◌, ◌||◌, Bool, true, false, not, nat_le, nat_eq, List, [], ◌∷◌, codes, if◌then◌else◌}
use Rattle.lists.specs.Texts.{units_of}
use Rattle.std.specs.List.{list_any, starts_with}
use Rattle.std.specs.Cmp.Lexicographic.{pointwise}

abbrev pub is_empty : List ℕ → Bool
is_empty [] = true
is_empty (unit ∷ units) = false

-- two names are the same
abbrev pub same_name : List ℕ → List ℕ → Bool
same_name = pointwise nat_eq

-- NUL, or a surrogate
abbrev pub is_bad_unit : ℕ → Bool
is_bad_unit unit = (unit == 0) || (nat_le 55296 unit && nat_le unit 57343)

-- a unit that no name of any kind may hold
abbrev pub has_bad_unit : List ℕ → Bool
has_bad_unit name = list_any is_bad_unit name

-- '.', ';' or '['
abbrev pub is_mark : ℕ → Bool
is_mark unit = (unit == 46) || (unit == 59) || (unit == 91)

abbrev pub is_slash : ℕ → Bool
is_slash unit = unit == 47

-- '<' or '>'
abbrev pub is_angle : ℕ → Bool
is_angle unit = (unit == 60) || (unit == 62)

abbrev pub into_first : ℕ → List (List ℕ) → List (List ℕ)
into_first unit [] = (unit ∷ []) ∷ []
into_first unit (part ∷ parts) = (unit ∷ part) ∷ parts

-- the parts of a class name, which slashes separate
abbrev pub parts_of : List ℕ → List (List ℕ)
parts_of [] = [] ∷ []
parts_of (unit ∷ units) = if is_slash unit then [] ∷ parts_of units else into_first unit (parts_of units)

-- of a part of a class name, which has no slash: it is empty or has a mark
abbrev pub is_bad_part : List ℕ → Bool
is_bad_part part = is_empty part || list_any is_mark part

abbrev pub is_bad_class : List ℕ → Bool
is_bad_class name = list_any is_bad_part (parts_of name) || has_bad_unit name

-- of the name of a field or a method: it is empty, or has a mark or a slash
abbrev pub is_bad_member : List ℕ → Bool
is_bad_member name = is_empty name || list_any is_mark name || list_any is_slash name || has_bad_unit name

abbrev pub is_init : List ℕ → Bool
is_init name = same_name name (units_of (codes "<init>"))

abbrev pub is_clinit : List ℕ → Bool
is_clinit name = same_name name (units_of (codes "<clinit>"))

-- of the name of a method: besides, it has '<' or '>' and is none of the two special names
abbrev pub is_bad_method : List ℕ → Bool
is_bad_method name = is_bad_member name || (list_any is_angle name && not (is_init name || is_clinit name))

-- a part stands somewhere in a name
abbrev pub holds : List ℕ → List ℕ → Bool
holds part [] = is_empty part
holds part (unit ∷ units) = starts_with nat_eq (unit ∷ units) part || holds part units

-- a name that is kept for written classes
abbrev pub is_reserved : List ℕ → Bool
is_reserved name = holds (codes "$$PHOSPHOR") name

-- a class name that is kept for written classes
abbrev pub is_reserved_class : List ℕ → Bool
is_reserved_class name = starts_with nat_eq name (codes "phosphor/") || is_reserved name

-- the two names of the Java library that are left out
abbrev pub is_out : List ℕ → Bool
is_out name = same_name name (units_of (codes "java/lang/Cloneable")) || same_name name (units_of (codes "java/io/Serializable"))
