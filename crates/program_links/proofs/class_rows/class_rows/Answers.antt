use Rattle.std.proofs.Common.{◌≡◌, ◌+◌, ◌++◌, ◌∷◌, [], refl, sym, subst}
use Rattle.program_links.specs.Each.{Numbered}
use Rattle.program_links.specs.RowTo.{ClassRow}
use Rattle.program_links.proofs.EachMore.{numbered_more}
use Rattle.program_links.proofs.class_rows.class_rows.Goals as goal

pub loop-class-preserved : goal.loop-class-preserved
loop-class-preserved g c =
    let R = ClassRow g.T.Tag.none_of c.args.set.now c.args.tables.now in
    let class = c.loop-class.class in
    let pushed : c.push.new.self ≡ c.loop-class.rows ++ c.in_ok-class_row.field-0 ∷ [] = c.in_ok-push.ensures.ok in
    subst (λ rows. Numbered R rows (class + 1)) (sym pushed) (numbered_more R c.loop-class.rows class (class + 1) c.in_ok-class_row.field-0 c.loop-class.invariant c.in_ok-class_row.ensures refl)
