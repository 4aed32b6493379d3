use Rattle.std.proofs.Common.{◌≡◌, ◌∙◌, ap, sym, List, ℕ, ◌++◌, ◌∷◌}
use Rattle.outside_io.proofs.Names.{one_name}
use Rattle.outside_io.proofs.write_log.add_name.Goals as goal

pub returns-in_ok-insert : goal.returns-in_ok-insert
returns-in_ok-insert c =
    let same : c.in_ok-from_str.field-0 ≡ c.in-Some.name.now = c.in_ok-from_str.ensures in
    one_name c.args.dir.now c.args.path.now c.in_ok-from_str.field-0 c.args.found.now c.insert.new.self
    (λ e. c.in-Some.ensures.0 (sym same ∙ e))
    (c.in-Some.ensures.1 ∙ ap (λ (n : List ℕ). c.args.dir.now ++ 47 ∷ n) (sym same))
    c.in_ok-insert.ensures.updates
