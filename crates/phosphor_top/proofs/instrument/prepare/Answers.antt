use Rattle.phosphor_top.specs.Words.{paths_of}
use Rattle.phosphor_top.proofs.InstrumentParts.{of_ready}
use Rattle.phosphor_top.proofs.instrument.prepare.Goals as goal

pub returns-clause-gives : goal.returns-clause-gives
returns-clause-gives g c =
    of_ready (λ whole. whole.items) (g.F.Folder.files c.args.folder.now) (paths_of c.args.words) c.in_ok-inputs.inputs.set c.in_ok-inputs.inputs.config
    c.make_below.result c.in_ok-inputs.ensures.gives c.make_below.ensures
