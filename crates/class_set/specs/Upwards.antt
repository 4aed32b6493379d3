-- What a class has, by its number, that each way up ends, and the names that no class below can have again.
use Rattle.std.specs.Prelude.{◌≡◌, ℕ, ◌&&◌, Bool, List, flat_map, slice_get}
use Rattle.std.specs.List.{list_any}
use Rattle.class_model.specs.declared.class.MethodDef.{MethodDef}
use Rattle.class_model.specs.declared.class.ClassDef.{ClassDef}
use Rattle.set_lookups.specs.Above.{same_name, at_class}
use Rattle.set_lookups.specs.Flags.{is_final, is_inherited}
use Rattle.set_lookups.specs.Rows.{Ranked}

abbrev pub methods_of : List ClassDef → ℕ → List MethodDef
methods_of set number = at_class (λ class. class.methods) (slice_get set number)

-- a final method of this name that is neither private nor static
abbrev pub is_kept_named : List ℕ → MethodDef → Bool
is_kept_named name method = is_final method.flags && is_inherited method && same_name name method.name

-- the names are those of the final methods of the classes that are neither private nor static
abbrev pub HoldsFinals : List (List ℕ) → List ClassDef → Type 0
HoldsFinals names classes = (name : List ℕ) → list_any (same_name name) names ≡ list_any (is_kept_named name) (flat_map (λ class. class.methods) classes)

-- each class has a higher number than those above it, for some numbers
abbrev pub AreRanked : List ClassDef → Type 0
AreRanked set = (ranks : List ℕ) × Ranked set ranks
