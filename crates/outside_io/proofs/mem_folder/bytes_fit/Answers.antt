use Rattle.std.proofs.Common.{◌+◌, ap, arith, length, List, ℕ}
use Rattle.std.proofs.lemmas.Grind.{common_steps}
use Rattle.outside_io.proofs.Fitting.{bytes_more, bytes_part}
use Rattle.outside_io.proofs.mem_folder.bytes_fit.Goals as goal

pub returns-then-room-path_len : goal.returns-then-room-path_len
returns-then-room-path_len c =
    let more = bytes_more c.args.files.now c.loop-path.path-index c.loop-path-item.result c.loop-path-test.true in
    let part = bytes_part c.args.files.now (c.loop-path.path-index + 1) in
    let path = ap (λ (f : List ℕ × List ℕ). length f.0) c.loop-path-item.is in
    let bytes = ap (λ (f : List ℕ × List ℕ). length f.1) c.loop-path-item.is in
    grind (arith, common_steps, more, part, path, bytes)

pub loop-path-preserved : goal.loop-path-preserved
loop-path-preserved c =
    let more = bytes_more c.args.files.now c.loop-path.path-index c.loop-path-item.result c.loop-path-test.true in
    let path = ap (λ (f : List ℕ × List ℕ). length f.0) c.loop-path-item.is in
    let bytes = ap (λ (f : List ℕ × List ℕ). length f.1) c.loop-path-item.is in
    grind (arith, common_steps, more, path, bytes)
