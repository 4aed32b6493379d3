use Rattle.std.proofs.Common.{◌∙◌, sym, ap}
use Rattle.std.specs.Prelude.{option_map}
use Rattle.set_lookups.specs.declared.ids.ClassId.{ClassId}
use Rattle.program_links.proofs.Knowing.{thrown_missing}
use Rattle.program_links.proofs.known.thrown.Goals as goal

pub unreachable-requires : goal.unreachable-requires
unreachable-requires c = thrown_missing c.args.set.now c.args._place _ c.requires.closed c.requires.known (sym c.find.ensures ∙ ap (option_map (λ (id : ClassId). id.0)) c.in-None.is)
