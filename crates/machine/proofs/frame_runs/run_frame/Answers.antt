use Rattle.std.proofs.Common.{◌≡◌, ◌+◌, ◌≤◌, Some, refl, subst, arith}
use Rattle.std.specs.Prelude.{slice_get}
use Rattle.machine_frames.specs.declared.flow.Flow.{Flow}
use Rattle.machine_frames.specs.Acts.{Does}
use Rattle.machine_frames.specs.FrameOps.{frame_insn}
use Rattle.linked_code.specs.declared.op.Op.TheVariants as op
use Rattle.machine.proofs.Running.{runs_on, runs_out}
use Rattle.machine.proofs.frame_runs.run_frame.Goals as goal

pub returns-in-Stuck-clause-ok : goal.returns-in-Stuck-clause-ok
returns-in-Stuck-clause-ok g c =
    let none = g.T.Tag.none_of in
    let join = g.T.Tag.join_of in
    let f = c.loop-steps.frame in
    let h = c.advance.new.frame in
    let x = c.in-Some.op in
    let at : slice_get c.args.code.now f.next ≡ Some (op.Frame x) = c.in-Some.ensures.there in
    let fits : c.loop-steps.steps + 1 ≤ c.args.limit = omega arith in
    (fits, runs_out none join c.args.code.now c.args.frame.now f h c.loop-steps.steps (c.loop-steps.steps + 1) x at c.loop-steps.invariant refl (subst (λ (k : Flow). Does none join (frame_insn x) f h k) c.in-Stuck.is c.in_ok-advance.ensures.ok))

pub loop-steps-preserved : goal.loop-steps-preserved
loop-steps-preserved g c =
    let none = g.T.Tag.none_of in
    let join = g.T.Tag.join_of in
    let f = c.loop-steps.frame in
    let h = c.advance.new.frame in
    let x = c.in-Some.op in
    let at : slice_get c.args.code.now f.next ≡ Some (op.Frame x) = c.in-Some.ensures.there in
    runs_on none join c.args.code.now c.args.frame.now f h c.loop-steps.steps (c.loop-steps.steps + 1) x at c.loop-steps.invariant refl (subst (λ (k : Flow). Does none join (frame_insn x) f h k) c.in-Next.is c.in_ok-advance.ensures.ok)
