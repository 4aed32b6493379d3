use Rattle.std.proofs.Common.{◌≡◌, subst}
use Rattle.serde_json.specs.Data.{Data}
use Rattle.serde_json.specs.View.{view}
use Rattle.source_sink.specs.Reads.{IsConfig}
use Rattle.source_sink.proofs.Lists.{one_value, first_config}
use Rattle.source_sink.proofs.read.read_config.Goals as goal

pub returns-clause-not_built : goal.returns-clause-not_built
returns-clause-not_built c = λ is config reads.
    let same : reads.value ≡ view c.in_ok-json.field-0 = one_value c.args.bytes.now reads.value (view c.in_ok-json.field-0) reads.json.1 c.in_ok-json.ensures.ok.1 in
    c.config_of.ensures.not_built is config (subst (λ (d : Data). IsConfig d config) same reads.lists)

pub returns-clause-first : goal.returns-clause-first
returns-clause-first c = first_config c.config_of.result (view c.in_ok-json.field-0) c.config_of.ensures.ok
