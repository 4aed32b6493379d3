use Rattle.program_links.proofs.Called.{constructor_test}
use Rattle.program_links.proofs.calls.is_init.Goals as goal

pub returns : goal.returns
returns c = constructor_test c.args.name.now c.is.result c.is.ensures
