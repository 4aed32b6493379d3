use Rattle.std.proofs.Common.{◌≡◌, true, sym, subst}
use Rattle.std.specs.List.{list_all}
use Rattle.modified_utf8.specs.Text.{IsText}
use Rattle.modified_utf8.specs.TextReading.{is_plain}
use Rattle.modified_utf8.proofs.Texts.{plain_text}
use Rattle.modified_utf8.proofs.text.text_units.Goals as goal

pub returns-then-is_plain-clause-text : goal.returns-then-is_plain-clause-text
returns-then-is_plain-clause-text c =
    let answered = c.is_plain.ensures in
    let yes = c.if-is_plain.true in
    let plain : list_all is_plain c.args.bytes.now ≡ true = cc in
    let text : IsText c.args.bytes.now c.args.bytes.now = plain_text c.args.bytes.now plain in
    subst (λ units. IsText c.args.bytes.now units) (sym c.in_ok-plain_units.ensures) text
