-- How often the lists of sources and sinks name each class.
use Rattle.std.specs.Prelude.{◌≡◌, ℕ, ◌+◌, Bool, List, count_by, unwrap_or}
use Rattle.std.specs.Map.{lookup}
use Rattle.class_limits.specs.Limits.{told}
use Rattle.run_state.specs.declared.config.Source.{Source}
use Rattle.run_state.specs.declared.config.Sink.{Sink}
use Rattle.run_state.specs.declared.config.Config.{Config}
use Rattle.profile_check.specs.Names.{same_name}

-- the number that stands for a name, 0 where there is none
abbrev pub times_of : List (List ℕ × ℕ) → List ℕ → ℕ
times_of entries name = unwrap_or (lookup (same_name name) entries) 0

abbrev pub is_source_of : List ℕ → Source → Bool
is_source_of name source = same_name source.class name

abbrev pub is_sink_of : List ℕ → Sink → Bool
is_sink_of name sink = same_name sink.class name

-- for each name how many entries of both lists have it
abbrev pub AreOf : Config → List (List ℕ × ℕ) → Type 0
AreOf config entries = (name : List ℕ) → times_of entries name ≡ told (count_by (is_source_of name) config.sources + count_by (is_sink_of name) config.sinks)
