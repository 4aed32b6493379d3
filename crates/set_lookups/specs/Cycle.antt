-- Sets in which a class is above itself. This project's own rule, after JVMS 5.3.5.
use Rattle.std.specs.Prelude.{ℕ, Bool, List, length, Option}
use Rattle.std.specs.List.{list_any}
use Rattle.class_model.specs.declared.class.ClassDef.{ClassDef}
use Rattle.set_lookups.specs.Above.{above, reaches}
use Rattle.set_lookups.specs.First.{first_class}

-- a class is above itself
abbrev pub is_in_cycle : List ClassDef → ℕ → ClassDef → Bool
is_in_cycle set number class = list_any (λ higher. reaches (length set) set higher number) (above set number)

-- cycle: a class is its own superclass or superinterface, directly or through others
unfoldable pub cycle : List ClassDef → Option (List ℕ)
cycle set = first_class (is_in_cycle set) set
