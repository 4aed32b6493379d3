use Rattle.std.proofs.Common.{◌+◌, ap, arith, length, List, ℕ}
use Rattle.std.proofs.lemmas.Grind.{common_steps}
use Rattle.outside_io.specs.MemoryKinds.{bytes_of}
use Rattle.outside_io.specs.WriteLog.{LogState}
use Rattle.outside_io.proofs.Fitting.{bytes_more, bytes_part}
use Rattle.outside_io.proofs.mem_folder.MemFolder.new.Goals as goal

pub push-requires : goal.push-requires
push-requires c =
    let files = c.deref-path-items.result.now in
    let more = bytes_more files c.loop-path.path-index c.loop-path-item.result c.loop-path-test.true in
    let part = bytes_part files (c.loop-path.path-index + 1) in
    let path = ap (λ (f : List ℕ × List ℕ). length f.0) c.loop-path-item.is in
    let bytes = ap (λ (f : List ℕ × List ℕ). length f.1) c.loop-path-item.is in
    let count = ap (λ (s : LogState). length s.written) c.loop-path.invariant in
    let taken = ap (λ (s : LogState). bytes_of s.written) c.loop-path.invariant in
    let files_room = ap (λ (s : LogState). s.files_room) c.loop-path.invariant in
    let bytes_room = ap (λ (s : LogState). s.bytes_room) c.loop-path.invariant in
    let all = ap bytes_of c.deref-path-items.ensures.value in
    grind (arith, common_steps, more, part, path, bytes, count, taken, files_room, bytes_room, all)
