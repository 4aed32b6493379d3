use Rattle.std.proofs.Common.{◌≡◌, ◌∙◌, ◌-◌, get_or, ap, subst, arith, rules}
use Rattle.type_rows.specs.Halts.{Halts}
use Rattle.type_rows.specs.Calls.{arguments}
use Rattle.type_rows.specs.Operands.{pops}
use Rattle.type_rows.proofs.Steps.{pops_on, pops_halt}
use Rattle.type_rows.proofs.calls.pop_arguments.Goals as goal

pub loop-left-preserved : goal.loop-left-preserved
loop-left-preserved c =
    let params = c.args.desc.now.params in
    let item : c.index-params-left.result ≡ get_or params (c.loop-left.left - 1) c.index-params-left.result = c.index-params-left.is ∙ ap (λ xs. get_or xs (c.loop-left.left - 1) c.index-params-left.result) c.loop-left.invariant.whole in
    record {
      whole = c.loop-left.invariant.whole;
      within = omega arith;
      same = c.in_ok-pop_type.ensures.same ∙ c.loop-left.invariant.same;
      rest = pops_on c.args.method.now params (c.loop-left.left - 1) c.loop-left.left c.index-params-left.result c.loop-left.state.stack c.pop_type.new.state.stack (omega arith) c.loop-left.invariant.within item c.in_ok-pop_type.ensures.ok ∙ c.loop-left.invariant.rest;
    }

pub returns-in_err-pop_type-clause-err : goal.returns-in_err-pop_type-clause-err
returns-in_err-pop_type-clause-err c =
    let params = c.args.desc.now.params in
    let halt = c.in_err-pop_type.field-0.0 in
    let item : c.index-params-left.result ≡ get_or params (c.loop-left.left - 1) c.index-params-left.result = c.index-params-left.is ∙ ap (λ xs. get_or xs (c.loop-left.left - 1) c.index-params-left.result) c.loop-left.invariant.whole in
    let here : Halts halt (pops c.args.method.now (arguments c.args.desc.now) c.args.state.now.stack) =
    subst (Halts halt) c.loop-left.invariant.rest (pops_halt halt c.args.method.now params (c.loop-left.left - 1) c.loop-left.left c.index-params-left.result c.loop-left.state.stack (omega arith) c.loop-left.invariant.within item c.in_err-pop_type.ensures.err) in
    search rules
