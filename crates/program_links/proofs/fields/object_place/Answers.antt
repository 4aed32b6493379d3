use Rattle.std.proofs.Common.{◌≡◌, ◌∙◌, ap, Some, List, length, filter}
use Rattle.std.proofs.lemmas.Result.{IfOk-weaker}
use Rattle.class_model.specs.declared.class.FieldDef.{FieldDef}
use Rattle.run_state.specs.SetLooks.{field_place}
use Rattle.look_laws.specs.Shown.{is_of_object}
use Rattle.program_links.proofs.FieldsLinked.{place_linked}
use Rattle.program_links.proofs.fields.object_place.Goals as goal

pub returns : goal.returns
returns c =
    let found = c.args.found.now in
    IfOk-weaker c.number.result (λ n. n ≡ c.in_ok-sum.field-0) (λ place. field_place c.args.set.now c.args._target.now ≡ Some place) (λ place e.
    place_linked c.args.set.now c.args.before.now c.args._target.now found.number found.index found.class.now found.field.now c.at-row.result.now c.count_of_object-own.result place
    c.requires.closed c.requires.rows c.requires.found c.at-row.ensures
    (c.count_of_object-own.ensures ∙ ap (λ (fields : List FieldDef). length (filter is_of_object fields)) c.fields_in_front.ensures) (e ∙ c.in_ok-sum.ensures)) c.number.ensures
