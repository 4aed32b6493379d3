-- The row that an index makes of a class from the names of all classes.
use Rattle.std.specs.Prelude.{ℕ, List, Option, option_and_then, filter_map, position}
use Rattle.class_model.specs.declared.class.ClassDef.{ClassDef}
use Rattle.set_lookups.specs.declared.row.Row.{Row}
use Rattle.set_lookups.specs.Above.{same_name}

abbrev pub place_of : List (List ℕ) → List ℕ → Option ℕ
place_of names name = position (same_name name) names

abbrev pub row_of : List (List ℕ) → ClassDef → Row
row_of names class = record { superclass = option_and_then (place_of names) class.super_name; interfaces = filter_map (place_of names) class.interfaces }
