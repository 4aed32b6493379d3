use Rattle.std.proofs.Common.{◌∙◌}
use Rattle.phosphor_top.proofs.CheckParts.{counted}
use Rattle.phosphor_top.proofs.check.count_loaded.Goals as goal

pub returns-clause-gives : goal.returns-clause-gives
returns-clause-gives g c =
    counted (g.F.Folder.files c.args.folder.now) c.args.dir.now c.in_ok-files.files.items c.in_ok-load.field-0 c.len.result c.in_ok-files.ensures.gives
    (rw c.as_slice.ensures.value at c.in_ok-load.ensures) (c.len.ensures ∙ c.in_ok-files.files.ok.0)
