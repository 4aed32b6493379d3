use Rattle.std.proofs.Common.{◌≡◌, length, refl, sym, Some}
use Rattle.std.specs.Prelude.{slice_get}
use Rattle.std.proofs.lemmas.Bool.{ltb-true, ltb-false}
use Rattle.std.proofs.lemmas.Option.{slice_get_past, slice_get_read}
use Rattle.verifier.proofs.Declared.{other_place, no_place, this_place}
use Rattle.verifier.proofs.frames.declared_at.Goals as goal

pub returns-in-None : goal.returns-in-None
returns-in-None c =
    let rows = c.args.frames.now in
    let past = ltb-false c.place.result (length rows) (sym c.in-None.ensures.lookup.0) in
    sym (no_place rows c.args.at c.place.result c.place.ensures (slice_get_past rows c.place.result past))

pub returns-then-row-at : goal.returns-then-row-at
returns-then-row-at c =
    let rows = c.args.frames.now in
    let row = c.in-Some.row.now in
    let within = ltb-true c.place.result (length rows) (sym c.in-Some.ensures.lookup.0) in
    let read : slice_get rows c.place.result ≡ Some row = slice_get_read rows (length rows) c.place.result row refl within c.in-Some.ensures.lookup.1 in
    sym (this_place rows c.args.at c.place.result row c.place.ensures read c.if-row-at.true)

pub returns-else-row-at : goal.returns-else-row-at
returns-else-row-at c =
    let rows = c.args.frames.now in
    let row = c.in-Some.row.now in
    let within = ltb-true c.place.result (length rows) (sym c.in-Some.ensures.lookup.0) in
    let read : slice_get rows c.place.result ≡ Some row = slice_get_read rows (length rows) c.place.result row refl within c.in-Some.ensures.lookup.1 in
    sym (other_place rows c.args.at c.place.result row c.place.ensures read c.if-row-at.false)
