-- Which names a class of a user may have (JVMS 4.2.1, and this project's own rules). Units stand in decimal.
use Rattle.std.specs.Prelude.{◌≡◌, ℕ, ◌≤◌, ◌==◌, ◌&&◌, ◌||◌, ◌⊎◌, not, nat_le, Bool, IsTrue, List, ◌++◌, length, drop, codes}
use Rattle.std.specs.List.{slice_split, list_all, Contains}
use Rattle.lists.specs.Texts.{units_of}
use Rattle.modified_utf8.specs.Text.{text_bytes}
use Rattle.small_base.specs.Base.{base_names}

-- a unit that stands in a part of a class name: not NUL, '.', ';', '[' or a surrogate
abbrev pub is_name_unit : ℕ → Bool
is_name_unit unit = not ((unit == 0) || (unit == 46) || (unit == 59) || (unit == 91) || (nat_le 0xD800 unit && nat_le unit 0xDFFF))

-- a part of a class name: one or more such units
abbrev pub is_name_part : List ℕ → Bool
is_name_part part = not (length part == 0) && list_all is_name_unit part

-- a class name: parts, with '/' between them
abbrev pub is_class_name : List ℕ → Bool
is_class_name name = list_all is_name_part (slice_split (λ unit. unit == 47) name)

-- a name goes on from a place on with a text
abbrev pub HasAt : (text name : List ℕ) → ℕ → Type 0
HasAt text name place = (rest : List ℕ) × (drop place name ≡ text ++ rest)

-- a name that is kept for written classes: it begins with 'phosphor/', or has '$$PHOSPHOR' somewhere
abbrev pub reserved_front : List ℕ
reserved_front = units_of (codes "phosphor/")

abbrev pub reserved_part : List ℕ
reserved_part = units_of (codes "$$PHOSPHOR")

abbrev pub IsReserved : List ℕ → Type 0
IsReserved name = HasAt reserved_front name 0 ⊎ ((place : ℕ) × HasAt reserved_part name place)

-- the name of one of the classes of the small base
abbrev pub IsBaseName : List ℕ → Type 0
IsBaseName name = Contains base_names name

-- the name of a user's class, with its bytes in a class file (JVMS 4.4.7)
pub record IsUserName (name : List ℕ) : Type 0 where
  pub class_name : IsTrue (is_class_name name)
  pub not_reserved : IsReserved name → ⊥
  pub no_base : IsBaseName name → ⊥
  pub few_bytes : length (text_bytes name) ≤ 16000
