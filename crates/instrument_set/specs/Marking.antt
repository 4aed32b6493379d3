-- What the lists of sources and sinks say of `read` and `write`, where only these are listed. This project's own.
use Rattle.std.specs.Prelude.{ℤ, pos, Bool, true, false, List, [], ◌∷◌}
use Rattle.run_state.specs.declared.config.Config.{Config}
use Rattle.run_state.specs.declared.config.Source.{Source}
use Rattle.run_state.specs.declared.config.Sink.{Sink}
use Rattle.instrument_set.specs.declared.marks.Marks.{Marks}

-- the tag of what `read` gives
abbrev pub read_tag : List Source → ℤ
read_tag [] = pos 0
read_tag (source ∷ sources) = source.tag

-- whether `write` is sink 0
abbrev pub is_listed : List Sink → Bool
is_listed [] = false
is_listed (sink ∷ sinks) = true

abbrev pub marks_of : Config → Marks
marks_of config = record { read = read_tag config.sources; write = is_listed config.sinks }
