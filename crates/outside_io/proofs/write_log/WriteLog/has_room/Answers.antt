use Rattle.std.proofs.Common.{arith}
use Rattle.std.proofs.lemmas.Grind.{common_steps}
use Rattle.outside_io.proofs.Logs.{counts}
use Rattle.outside_io.proofs.write_log.WriteLog.has_room.Goals as goal

pub returns-then-path-room : goal.returns-then-path-room
returns-then-path-room c =
    let k = counts c.self.inside.sizes.items c.self.inside.text.items c.self.inside.files_room c.self.inside.bytes_room c.args.self.now c.self.view_is c.self.invariant.0 in
    grind (arith, common_steps, k.0, k.1, k.2, k.3)

pub returns-else-path-room : goal.returns-else-path-room
returns-else-path-room c =
    let k = counts c.self.inside.sizes.items c.self.inside.text.items c.self.inside.files_room c.self.inside.bytes_room c.args.self.now c.self.view_is c.self.invariant.0 in
    grind (arith, common_steps, k.0, k.1, k.2, k.3)
