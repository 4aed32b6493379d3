use Rattle.std.proofs.Common.{List, ℕ, ◌≡◌, ◌∙◌, ◌++◌, ap}
use Rattle.class_spelling.specs.ClassSpelling.{front_bytes, pool_bytes}
use Rattle.class_spelling.proofs.Pools.{pool_spelled, together}
use Rattle.class_spelling.proofs.class.put_together.Goals as goal

pub returns-clause-bytes : goal.returns-clause-bytes
returns-clause-bytes c =
    let pool_text = c.in_ok-pool_text.pool_text in
    let one = c.put_front.new.out.items in
    let two = c.extend_from_slice.new.self.items in
    let second : two ≡ one ++ pool_text = c.in_ok-extend_from_slice.ensures.items ∙ ap (λ (z : List ℕ). one ++ z) c.as_slice.ensures in
    c.from_vec.ensures
    ∙ together c.new-bytes.result.items (front_bytes c.args.class.now) pool_text (pool_bytes c.args.pool.now) c.args.body.now one two c.extend_from_slice-2.new.self.items c.new-bytes.ensures.items c.in_ok-put_front.ensures.put second c.in_ok-extend_from_slice-2.ensures.items (pool_spelled c.args.pool.now pool_text c.in_ok-pool_text.ensures)
