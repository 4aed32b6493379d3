use Rattle.std.proofs.Common.{rules, refl}
use Rattle.machine.specs.declared.state.Turn.TheVariants as turn
use Rattle.machine.specs.Turned.{Rests}
use Rattle.machine.proofs.DoneInsns.{if_both}
use Rattle.machine.proofs.Waiting.{wants_exactly}
use Rattle.machine.proofs.runs.step.Goals as goal

pub returns-clause-ok : goal.returns-clause-ok
returns-clause-ok g c = λ w more links behind. c.in_ok-step_root.ensures.ok w more links

pub returns-then-ne-clause-wants : goal.returns-then-ne-clause-wants
returns-then-ne-clause-wants g c = λ w links.
    let m = c.args.machine.now in
    let rests : Rests c.args.closed m m turn.Ended = search rules in
    wants_exactly g.T.Tag.none_of g.T.Tag.join_of c.args.program.now c.args.closed m m turn.Ended rests (λ w2 more links2 behind. refl) w links

pub returns-then-machine-clause-wants : goal.returns-then-machine-clause-wants
returns-then-machine-clause-wants g c = if_both c.step_framed.result c.step_framed.ensures.rests c.step_framed.ensures.ok (λ now rests answers w links.
    wants_exactly g.T.Tag.none_of g.T.Tag.join_of c.args.program.now c.args.closed c.args.machine.now c.step_framed.new.machine now rests answers w links)

pub returns-clause-wants : goal.returns-clause-wants
returns-clause-wants g c = λ w links.
    let m = c.args.machine.now in
    let rests : Rests c.args.closed m c.step_root.new.machine turn.Went = search rules in
    wants_exactly g.T.Tag.none_of g.T.Tag.join_of c.args.program.now c.args.closed m c.step_root.new.machine turn.Went rests (λ w2 more links2 behind. c.in_ok-step_root.ensures.ok w2 more links2) w links
