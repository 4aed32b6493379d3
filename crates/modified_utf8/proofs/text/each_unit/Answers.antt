use Rattle.std.proofs.Common.{◌≡◌, ◌-◌, ◌∙◌, [], length, ap, sym, zero-add}
use Rattle.std.proofs.lemmas.Bool.{eqb-true, eqb-false}
use Rattle.std.proofs.lemmas.List.{nil_from_length}
use Rattle.modified_utf8.specs.Text.{IsWrongAt}
use Rattle.modified_utf8.proofs.Texts.{read_all, read_wrong, text_read, wrong_is_read, text_once, text_not_wrong, wrong_read, all_read}
use Rattle.modified_utf8.proofs.text.each_unit.Goals as goal

pub returns-in_default-clause-only : goal.returns-in_default-clause-only
returns-in_default-clause-only c =
    let rest = c.loop-rest.rest.now in
    let some = eqb-false (length rest) 0 (sym c.is_empty.ensures ∙ c.loop-rest-test.true) in
    let wrong : IsWrongAt c.args.bytes.now (length c.args.bytes.now - length rest) = read_wrong c.args.bytes.now c.loop-rest.units.items rest c.loop-rest.invariant (λ none. some (ap length none)) (rw c.in_default.is at c.next_unit.ensures) in
    λ units is. text_not_wrong c.args.bytes.now units _ is wrong

pub returns-in_default-clause-read : goal.returns-in_default-clause-read
returns-in_default-clause-read c =
    let rest = c.loop-rest.rest.now in
    let place = length c.args.bytes.now - length rest in
    let some = eqb-false (length rest) 0 (sym c.is_empty.ensures ∙ c.loop-rest-test.true) in
    let wrong : IsWrongAt c.args.bytes.now place = read_wrong c.args.bytes.now c.loop-rest.units.items rest c.loop-rest.invariant (λ none. some (ap length none)) (rw c.in_default.is at c.next_unit.ensures) in
    wrong_is_read 0 c.args.bytes.now place wrong ∙ ap wrong_read (zero-add place)

pub returns-clause-only : goal.returns-clause-only
returns-clause-only c =
    let none : c.loop-rest.rest.now ≡ [] = nil_from_length c.loop-rest.rest.now (eqb-true _ _ (sym c.is_empty.ensures ∙ c.loop-rest-test.false)) in
    let text = read_all c.args.bytes.now c.loop-rest.units.items c.loop-rest.rest.now c.loop-rest.invariant none in
    λ units is. c.from_vec.ensures ∙ text_once c.args.bytes.now c.loop-rest.units.items units text is

pub returns-clause-read : goal.returns-clause-read
returns-clause-read c =
    let none : c.loop-rest.rest.now ≡ [] = nil_from_length c.loop-rest.rest.now (eqb-true _ _ (sym c.is_empty.ensures ∙ c.loop-rest-test.false)) in
    let text = read_all c.args.bytes.now c.loop-rest.units.items c.loop-rest.rest.now c.loop-rest.invariant none in
    text_read 0 c.args.bytes.now c.loop-rest.units.items text ∙ ap all_read (sym c.from_vec.ensures)
