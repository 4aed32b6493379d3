use Rattle.std.proofs.Common.{◌∙◌, sym, refl}
use Rattle.std.proofs.lemmas.Bool.{false≢true}
use Rattle.small_base.specs.Rows.{class_of}
use Rattle.small_base.proofs.Tested.{rows_more, row_other, rows_all}
use Rattle.small_base.proofs.base.are_rows.Goals as goal

pub loop-at-preserved : goal.loop-at-preserved
loop-at-preserved c =
    rows_more class_of c.args.table.now c.args.classes.now c.loop-at.at _ c.index-classes-at.result c.requires c.loop-at-test.true c.index-classes-at.is c.loop-at.invariant
    (c.is_row.ensures.0 c.if-not-is_row.false)

pub returns-then-not-is_row : goal.returns-then-not-is_row
returns-then-not-is_row c = (
  λ said. absurd (false≢true said),
  λ same. absurd (row_other class_of c.args.table.now c.args.classes.now c.loop-at.at _ c.index-classes-at.result c.loop-at-test.true c.index-classes-at.is
      (λ is. false≢true (sym c.if-not-is_row.true ∙ c.is_row.ensures.1 is)) same),
)

pub returns : goal.returns
returns c = (λ said. rows_all class_of c.args.table.now c.args.classes.now c.loop-at.at c.requires c.loop-at-test.false c.loop-at.invariant, λ same. refl)
