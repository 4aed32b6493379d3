use Rattle.std.proofs.Common.{◌≡◌, ◌∙◌, ◌↔◌, ◌-◌, length, sym}
use Rattle.std.specs.Prelude.{IsTrue}
use Rattle.std.specs.Str.{chars}
use Rattle.std.proofs.lemmas.Bool.{false≢true}
use Rattle.small_base.specs.Base.{small_base}
use Rattle.small_base.proofs.Ends.{too_short, ends, end_same}
use Rattle.small_base.proofs.base.before_base.Goals as goal

pub returns-then-set-lt21 : goal.returns-then-set-lt21
returns-then-set-lt21 c = λ classes same. too_short c.args.set.now classes c.if-set-lt21.true same

pub returns-then-are_rows : goal.returns-then-are_rows
unfolding chars small_base
returns-then-are_rows c =
    let set = c.args.set.now in
    let says : IsTrue c.are_rows.result ↔ (c.split_at.result.1.now ≡ small_base) = c.are_rows.ensures in
    ends set c.split_at.result.0.now c.split_at.result.1.now (length set - 21) c.split_at.ensures.front c.split_at.ensures.back (says.0 c.if-are_rows.true)

pub returns-else-are_rows : goal.returns-else-are_rows
unfolding chars small_base
returns-else-are_rows c =
    let set = c.args.set.now in
    let says : IsTrue c.are_rows.result ↔ (c.split_at.result.1.now ≡ small_base) = c.are_rows.ensures in
    λ classes same. false≢true (sym c.if-are_rows.false ∙ says.1 (end_same set c.split_at.result.1.now classes c.if-set-lt21.false c.split_at.ensures.back same))
