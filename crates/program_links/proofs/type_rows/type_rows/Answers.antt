use Rattle.std.proofs.Common.{◌≡◌, ◌+◌, ◌++◌, ◌∷◌, [], refl, sym, subst}
use Rattle.program_links.specs.Each.{Numbered}
use Rattle.program_links.specs.RowTo.{TypeRow}
use Rattle.program_links.proofs.EachMore.{numbered_more}
use Rattle.program_links.proofs.type_rows.type_rows.Goals as goal

pub loop-at-preserved : goal.loop-at-preserved
loop-at-preserved g c =
    let R = TypeRow g.T.Tag.none_of c.args.set.now c.args.tables.now in
    let at = c.loop-at.at in
    let pushed : c.push.new.self ≡ c.loop-at.rows ++ c.in_ok-type_row.field-0 ∷ [] = c.in_ok-push.ensures.ok in
    subst (λ rows. Numbered R rows (at + 1)) (sym pushed) (numbered_more R c.loop-at.rows at (at + 1) c.in_ok-type_row.field-0 c.loop-at.invariant c.in_ok-type_row.ensures refl)
