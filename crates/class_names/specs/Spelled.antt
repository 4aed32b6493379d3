-- What the texts of a pool spell, each read once.
use Rattle.std.specs.Prelude.{◌≡◌, List, ℕ, Option, map, option_map, option_and_then}
use Rattle.class_model.specs.Reading.{field_of, method_of}
use Rattle.const_pool.specs.declared.entry.Entry.{Entry}
use Rattle.const_pool.specs.Pool.{Pool, as_text}
use Rattle.class_names.specs.declared.named_pool.Spelled.{Spelled}
use Rattle.class_names.specs.NameReading.{units_in}

-- the units of a text, with the types that it spells as a descriptor, where it is one
abbrev pub spelled : List ℕ → Spelled
spelled units = record { name = units; field = field_of units; method = method_of units }

-- what stands beside an entry of the pool
abbrev pub spelled_entry : Option Entry → Option Spelled
spelled_entry entry = option_map spelled (option_and_then units_in (option_and_then as_text entry))

abbrev pub AreSpelled : Pool → List (Option Spelled) → Type 0
AreSpelled p texts = texts ≡ map spelled_entry p

-- the types are those that the name spells
abbrev pub IsSpelled : Spelled → Type 0
IsSpelled text = text ≡ spelled text.name
