use Rattle.std.proofs.Common.{◌≡◌, ◌∙◌, Some}
use Rattle.std.proofs.lemmas.Result.{IfOk-weaker}
use Rattle.run_state.specs.SetLooks.{shown_method}
use Rattle.program_links.specs.Methods.{Shows}
use Rattle.program_links.proofs.Called.{number_shows}
use Rattle.program_links.proofs.calls.method_number.Goals as goal

pub returns : goal.returns
returns c =
    IfOk-weaker c.number.result (λ n. n ≡ c.in_ok-sum.field-0) (λ n. Shows c.args._set.now (shown_method c.args._set.now c.args.method) (Some n)) (λ n e.
    number_shows c.args._set.now c.args.before.now c.args._target.now c.args.method c.at-row.result.now n c.requires.rows c.requires.found c.at-row.ensures (e ∙ c.in_ok-sum.ensures)) c.number.ensures
