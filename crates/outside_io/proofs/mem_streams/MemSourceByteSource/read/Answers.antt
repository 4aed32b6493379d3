use Rattle.std.proofs.Common.{◌∙◌, ap, sym, arith}
use Rattle.std.proofs.lemmas.Grind.{common_steps}
use Rattle.outside_io.specs.MemoryKinds.{SourceState}
use Rattle.outside_io.proofs.Fronts.{front_moves}
use Rattle.outside_io.proofs.mem_streams.MemSourceByteSource.read.Goals as goal

pub returns-clause-bytes : goal.returns-clause-bytes
returns-clause-bytes c =
    (ap (λ (v : SourceState). v.left) (sym c.self.view_is) ∙ front_moves c.self.inside.bytes c.copy_front-count.new.buf c.self.inside.taken c.copy_front-count.result (grind (arith, common_steps)), grind (arith, common_steps))
