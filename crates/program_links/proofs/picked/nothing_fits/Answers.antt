use Rattle.std.proofs.Common.{◌∙◌, sym}
use Rattle.program_links.proofs.Fitting.{nothing_fits}
use Rattle.program_links.proofs.picked.nothing_fits.Goals as goal

pub returns : goal.returns
returns c = nothing_fits c.args.set.now c.args.high c.class-class.result.now c.requires.closed c.class-class.ensures ∙ sym c.is_object_name.ensures
