use Rattle.std.proofs.Common.{◌∙◌, sym, ap}
use Rattle.std.proofs.lemmas.Result.{err_from_is_err_and}
use Rattle.class_input.specs.Reading.{Fails}
use Rattle.class_input.proofs.Laws.{from}
use Rattle.const_pool.specs.PoolReading.{pool, counted}
use Rattle.const_pool.proofs.PoolLaws.{begins_decoded, only_memory}
use Rattle.const_pool.proofs.pool.Pool.decode.Goals as goal

pub returns-in_err-pool-clause-only : goal.returns-in_err-pool-clause-only
returns-in_err-pool-clause-only c =
    let q = err_from_is_err_and c.from_residual.result c.from_residual.ensures.1 in
    let e = c.in_err-pool.field-0.0 in
    let fails : Fails e (pool (from 0 c.args.bytes.now)) = rw (← c.new-input.ensures) c.in_err-pool.ensures in
    λ text rest p is parts. rw (q.1, q.2) (only_memory e c.args.bytes.now text rest p fails is parts)

pub returns-clause-only : goal.returns-clause-only
returns-clause-only c = λ text rest p is parts. sym (begins_decoded c.args.bytes.now text rest p is parts) ∙ ap counted (ap pool (sym c.new-input.ensures) ∙ c.in_ok-pool.ensures)
