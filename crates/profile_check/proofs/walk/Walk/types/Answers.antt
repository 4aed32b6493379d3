use Rattle.std.proofs.Common.{map}
use Rattle.std.specs.Prelude.{flat_map}
use Rattle.profile_check.specs.First.{first}
use Rattle.profile_check.specs.Mentions.{TypeUsed}
use Rattle.profile_check.specs.Walks.{judge}
use Rattle.profile_check.proofs.First.{tells_err, loop_more, loop_refused, loop_done, first_nil, first_map}
use Rattle.profile_check.proofs.walk.Walk.types.Goals as goal

pub loop-ty-preserved : goal.loop-ty-preserved
loop-ty-preserved c =
    let f = judge c.args.self.now.rule c.args.self.now.place in
    loop_more (λ xs. first f (map TypeUsed xs)) c.args.types.now c.loop-ty.ty-index c.ty-item.result (f (TypeUsed c.ty-item.result)) c.loop-ty-test.true c.ty-item.is (first_map f TypeUsed c.ty-item.result) c.loop-ty.invariant c.in_ok-type_used.ensures

pub returns-in_err-type_used : goal.returns-in_err-type_used
returns-in_err-type_used c =
    let f = judge c.args.self.now.rule c.args.self.now.place in
    tells_err c.from_residual.result _ _ c.from_residual.ensures.1 (loop_refused (λ xs. first f (map TypeUsed xs)) c.args.types.now c.loop-ty.ty-index c.ty-item.result (f (TypeUsed c.ty-item.result)) _ c.loop-ty-test.true c.ty-item.is (first_map f TypeUsed c.ty-item.result) c.loop-ty.invariant c.in_err-type_used.ensures)

pub returns : goal.returns
returns c =
    let f = judge c.args.self.now.rule c.args.self.now.place in
    loop_done (λ xs. first f (map TypeUsed xs)) c.args.types.now c.loop-ty.ty-index c.loop-ty-test.false c.loop-ty.invariant (first_nil f)
