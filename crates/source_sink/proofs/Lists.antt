-- Lists of more than one entry are not built, and bytes have one value at most.
use Rattle.std.proofs.Common.{◌≡◌, ℕ, ℤ, ◌≤◌, List, [], ◌∷◌, length, Option, Some, arith, inl, inr}
use Rattle.std.specs.Prelude.{◌⊎◌, Result, Ok, Err, IfOk}
use Rattle.first_form.specs.FirstSet.{IsShort}
use Rattle.first_form.specs.FirstSet.{read_source, write_sink, IsFirstConfig}
use Rattle.serde_json.specs.Data.{Data, Items, no_items, item}
use Rattle.serde_json.specs.Read.{read}
use Rattle.serde_json.specs.View.{view, items_view}
use Rattle.serde_json.specs.declared.value.Value.{Value}
use Rattle.run_state.specs.declared.config.Source.{Source}
use Rattle.run_state.specs.declared.config.Sink.{Sink}
use Rattle.run_state.specs.declared.config.Config.{Config}
use Rattle.source_sink.specs.declared.fault.ConfigFault.{ConfigFault}
use Rattle.source_sink.specs.Reads.{AreSources, AreSinks, IsConfig}

pub two_sources : (values : List Value) (sources : List Source) → 2 ≤ length values → AreSources (items_view values) sources → ⊥
two_sources [] sources h are = absurd (omega arith)
two_sources (v ∷ []) sources h are = absurd (omega arith)
two_sources (v ∷ w ∷ values) sources h are = are

pub two_sinks : (values : List Value) (sinks : List Sink) → 2 ≤ length values → AreSinks (items_view values) sinks → ⊥
two_sinks [] sinks h are = absurd (omega arith)
two_sinks (v ∷ []) sinks h are = absurd (omega arith)
two_sinks (v ∷ w ∷ values) sinks h are = are

pub one_value : (bytes : List ℕ) (d e : Data) → read bytes ≡ Some d → read bytes ≡ Some e → d ≡ e
one_value bytes d e is_d is_e = cc

-- lists that are read are of the first form
first_sources : (items : Items) (sources : List Source) → AreSources items sources → (sources ≡ []) ⊎ ((tag : ℤ) × IsShort tag × (sources ≡ read_source tag ∷ []))
first_sources no_items sources are = inl are
first_sources (item d no_items) sources are = inr (are.0, are.1.short, are.2)
first_sources (item d (item e ds)) sources are = absurd are

first_sinks : (items : Items) (sinks : List Sink) → AreSinks items sinks → (sinks ≡ []) ⊎ (sinks ≡ write_sink ∷ [])
first_sinks no_items sinks are = inl are
first_sinks (item d no_items) sinks are = inr are.1
first_sinks (item d (item e ds)) sinks are = absurd are

pub first_config : (result : Result Config ConfigFault) (d : Data) → IfOk result (IsConfig d) → IfOk result IsFirstConfig
first_config (Ok config) d lists = record {
  source = first_sources lists.sources config.sources lists.are_sources;
  sink = first_sinks lists.sinks config.sinks lists.are_sinks;
}
first_config (Err fault) d lists = tt
