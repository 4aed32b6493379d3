use Rattle.set_loader.proofs.Loading.{told_within}
use Rattle.phosphor_top.proofs.parts.load.Goals as goal

pub load_line-requires : goal.load_line-requires
load_line-requires c = told_within c.args.names c.args.files.now c.in-Err.stop c.in-Err.ensures.refused
