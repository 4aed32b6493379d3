use Rattle.std.proofs.Common.{◌∙◌, ap}
use Rattle.std.specs.Prelude.{unwrap_or}
use Rattle.std.proofs.lemmas.Option.{unwrap_or-slice_get}
use Rattle.set_lookups.proofs.level_build.Above.start.Goals as goal

pub returns-in-None : goal.returns-in-None
returns-in-None c = ap (λ place. unwrap_or place 0) c.in-None.ensures.value ∙ unwrap_or-slice_get c.args.self.now.starts c.args.at 0
