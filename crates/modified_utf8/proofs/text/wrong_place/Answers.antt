use Rattle.std.proofs.Common.{◌≡◌, true}
use Rattle.std.specs.List.{list_all}
use Rattle.modified_utf8.specs.TextReading.{is_plain}
use Rattle.modified_utf8.proofs.Texts.{plain_text}
use Rattle.modified_utf8.proofs.text.wrong_place.Goals as goal

pub returns-then-is_plain : goal.returns-then-is_plain
returns-then-is_plain c =
    let answered = c.is_plain.ensures in
    let yes = c.if-is_plain.true in
    let plain : list_all is_plain c.args.bytes.now ≡ true = cc in
    (c.args.bytes.now, plain_text c.args.bytes.now plain)
