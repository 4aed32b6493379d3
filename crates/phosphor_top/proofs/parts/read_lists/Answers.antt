use Rattle.phosphor_top.proofs.ConfigParts.{lists_give}
use Rattle.phosphor_top.proofs.parts.read_lists.Goals as goal

pub returns-clause-gives : goal.returns-clause-gives
returns-clause-gives g c =
    lists_give (g.F.Folder.files c.args.folder.now) c.args.path.now c.as_slice.result.now c.configure.result (rw c.as_slice.ensures c.in_ok-bytes.ensures.gives) c.configure.ensures.gives
