-- The configuration that bytes give, as JSON text. The form of the lists is this project's own.
use Rattle.std.specs.Prelude.{◌≡◌, ℕ, ℤ, List, [], ◌∷◌, Option, Some, option_map, option_and_then, codes}
use Rattle.std.specs.Str.{IsUtf8}
use Rattle.serde_json.specs.Data.{Data, Items, no_items, item}
use Rattle.serde_json.specs.Read.{read}
use Rattle.serde_json.specs.Find.{get, as_object, as_array, as_str, as_number, as_integer}
use Rattle.serde_json.specs.Events.{members_len}
use Rattle.run_state.specs.declared.config.Source.{Source}
use Rattle.run_state.specs.declared.config.Sink.{Sink}
use Rattle.run_state.specs.declared.config.Config.{Config}
use Rattle.first_form.specs.FirstSet.{IsShort}
use Rattle.first_form.specs.FirstSet.{read_source, write_sink}

-- the bytes are the JSON text of this value, in which of members of one name in one object the last alone counts
abbrev pub IsJson : List ℕ → Data → Type 0
IsJson bytes d = IsUtf8 bytes × (read bytes ≡ Some d)

-- how many members an object has
abbrev pub members_in : Data → Option ℕ
members_in d = option_map members_len (as_object d)

abbrev pub list_at : List ℕ → Data → Option Items
list_at name d = option_and_then as_array (get name d)

abbrev pub text_at : List ℕ → Data → Option (List ℕ)
text_at name d = option_and_then as_str (get name d)

-- a whole number is one that is read as a signed or an unsigned number of 64 bits
abbrev pub whole_at : List ℕ → Data → Option ℤ
whole_at name d = option_and_then as_integer (option_and_then as_number (get name d))

-- an object of so many members that names this method of `sys/Native`
pub record NamesNative (d : Data) (members : ℕ) (method desc : List ℕ) : Type 0 where
  pub only : members_in d ≡ Some members
  pub class : text_at (codes "class") d ≡ Some (codes "sys/Native")
  pub name : text_at (codes "name") d ≡ Some method
  pub descriptor : text_at (codes "descriptor") d ≡ Some desc

-- an entry of the list of sources: `read`, with its tag
pub record IsSource (d : Data) (tag : ℤ) : Type 0 where
  pub method : NamesNative d 4 (codes "read") (codes "()I")
  pub whole : whole_at (codes "tag") d ≡ Some tag
  pub short : IsShort tag

-- an entry of the list of sinks: `write`
abbrev pub IsSink : Data → Type 0
IsSink d = NamesNative d 3 (codes "write") (codes "(I)V")

-- a list of at most one source
abbrev pub AreSources : Items → List Source → Type 0
AreSources no_items sources = sources ≡ []
AreSources (item d no_items) sources = (tag : ℤ) × IsSource d tag × (sources ≡ read_source tag ∷ [])
AreSources (item d (item e ds)) sources = ⊥

-- a list of at most one sink
abbrev pub AreSinks : Items → List Sink → Type 0
AreSinks no_items sinks = sinks ≡ []
AreSinks (item d no_items) sinks = IsSink d × (sinks ≡ write_sink ∷ [])
AreSinks (item d (item e ds)) sinks = ⊥

-- an object with exactly the two lists
pub record IsConfig (d : Data) (config : Config) : Type 0 where
  pub only : members_in d ≡ Some 2
  pub sources : Items
  pub has_sources : list_at (codes "sources") d ≡ Some sources
  pub are_sources : AreSources sources config.sources
  pub sinks : Items
  pub has_sinks : list_at (codes "sinks") d ≡ Some sinks
  pub are_sinks : AreSinks sinks config.sinks

-- the bytes give this configuration
pub record Reads (bytes : List ℕ) (config : Config) : Type 0 where
  pub value : Data
  pub json : IsJson bytes value
  pub lists : IsConfig value config
