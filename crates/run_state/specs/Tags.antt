-- What a machine does with tags. The plain machine has none; the tagged machine has 32 bits beside each number and
-- each object, and the lists of sources and sinks (this project's own).
use Rattle.std.specs.Prelude.{ℕ, suc, ℤ, pos, ◌&&◌, Bool, List, [], ◌∷◌, Option, Some, None, find, position}
use Rattle.run_state.specs.declared.config.Config.{Config}
use Rattle.run_state.specs.declared.config.Source.{Source}
use Rattle.run_state.specs.declared.config.Sink.{Sink}
use Rattle.run_state.specs.declared.report.Report.{Report}
use Rattle.run_state.specs.Texts.{same_text, same_desc}
use Rattle.run_state.specs.Numbers.{int_or}
use Rattle.run_state.specs.State.{Method}

-- `none` is the tag of what no source gave; `join` that of what comes of two; `marked` is a tag of a method's result as
-- the method returns; `entered` are the reports of a method as it is entered, from the tags of its arguments.
pub record Tags (T : Type 0) : Type 0 where
  pub none : T
  pub join : T → T → T
  pub marked : Method → T → T
  pub entered : Method → List T → List Report

abbrev pub plain : Tags (Unit {0})
plain = record { none = tt; join = λ a b. tt; marked = λ m t. t; entered = λ m ts. [] }

abbrev pub is_source : Method → Source → Bool
is_source m k = same_text m.class k.class && same_text m.name k.name && same_desc m.desc k.desc

abbrev pub is_sink : Method → Sink → Bool
is_sink m k = same_text m.class k.class && same_text m.name k.name && same_desc m.desc k.desc

-- a listed source joins its tag
abbrev pub marked_by : Option Source → ℤ → ℤ
marked_by None t = t
marked_by (Some k) t = int_or t k.tag

-- one report for each argument, numbered from `argument`
abbrev pub reports_from : ℕ → ℕ → List ℤ → List Report
reports_from sink argument [] = []
reports_from sink argument (t ∷ ts) = record { sink = pos sink; argument = pos argument; tag = t } ∷ reports_from sink (suc argument) ts

-- a listed sink, whose number is its place in the list, reports
abbrev pub reported_by : Option ℕ → List ℤ → List Report
reported_by None ts = []
reported_by (Some sink) ts = reports_from sink 0 ts

abbrev pub tagged : Config → Tags ℤ
tagged k = record {
  none = pos 0;
  join = int_or;
  marked = λ m t. marked_by (find (is_source m) k.sources) t;
  entered = λ m ts. reported_by (position (is_sink m) k.sinks) ts;
}
