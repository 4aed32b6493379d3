use Rattle.std.proofs.Common.{◌∙◌, sym, refl, arith}
use Rattle.std.proofs.lemmas.Bool.{false≢true}
use Rattle.small_base.specs.declared.base.Row.{Row}
use Rattle.small_base.specs.Rows.{class_of}
use Rattle.small_base.proofs.Named.{passed_more, passed_all, named_at}
use Rattle.small_base.proofs.base.is_named.Goals as goal

pub loop-row-init : goal.loop-row-init
loop-row-init c = λ is. omega (arith, is.1)

pub loop-row-preserved : goal.loop-row-preserved
loop-row-preserved c =
    passed_more (λ (row : Row). (class_of row).name) c.args.table.now c.loop-row.row-index _ c.args.name.now c.loop-row-test.true c.loop-row.invariant
    (λ same. false≢true (sym c.if-is.false ∙ c.is.ensures.1 (sym same ∙ sym c.name_of.ensures)))

pub returns-then-is : goal.returns-then-is
returns-then-is c = (
  λ said. named_at (λ (row : Row). (class_of row).name) c.args.table.now c.loop-row.row-index _ c.args.name.now c.loop-row-test.true (sym (c.is.ensures.0 c.if-is.true ∙ c.name_of.ensures)),
  λ is. refl,
)

pub returns : goal.returns
returns c = (
  λ said. absurd (false≢true said),
  λ is. absurd (passed_all (λ (row : Row). (class_of row).name) c.args.table.now c.loop-row.row-index c.args.name.now c.loop-row-test.false c.loop-row.invariant is),
)
