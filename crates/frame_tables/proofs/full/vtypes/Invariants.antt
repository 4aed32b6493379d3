use Rattle.std.proofs.Common.{◌≡◌, drop}
use Rattle.frame_tables.specs.FrameReading as reading
use Rattle.frame_tables.proofs.Loops.{in_front}
use Rattle.frame_tables.proofs.full.vtypes.Given as goal

-- the types so far, before what the rest gives
abbrev pub invariant-loop-one : goal.invariant-loop-one
invariant-loop-one l =
    let f = reading.vtype l.pool l.code l.first l.place in
    in_front l.types (reading.each_of f (drop l.one-index l.raw)) ≡ reading.each_of f l.raw
