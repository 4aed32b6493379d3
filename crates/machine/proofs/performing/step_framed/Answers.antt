use Rattle.std.proofs.Common.{ap, ◌∙◌}
use Rattle.run_state.specs.Step.{step}
use Rattle.linked_code.specs.World.{tags_of}
use Rattle.machine.specs.declared.state.Machine.{Machine}
use Rattle.machine.specs.Shown.{shown}
use Rattle.machine.proofs.DoneInsns.{begun_now, nothing_begun, performed, if_ok}
use Rattle.machine.proofs.Stepped.{step_at}
use Rattle.machine.proofs.performing.step_framed.Goals as goal

pub returns-then-begins-clause-ok : goal.returns-then-begins-clause-ok
returns-then-begins-clause-ok g c = λ w more links behind.
    let f = c.in-Some.ensures.found w links in
    begun_now g.T.Tag.none_of g.T.Tag.join_of w c.args.program.now links c.args.machine.now c.begin_needed.new.machine more f.insn c.in_ok-begins.begins c.if-begins.true (c.in_ok-begins.ensures.ok w more f.insn links f.linked)
    ∙ step_at g.T.Tag.none_of g.T.Tag.join_of w c.args.machine.now more c.requires.framed c.requires.running f.insn f.at

pub perform-requires-clause-framed : goal.perform-requires-clause-framed
perform-requires-clause-framed g c = ap (λ (m : Machine g.row.T.Denot). m.framed) (c.in_ok-begins.ensures.kept c.if-begins.false) ∙ c.requires.framed

pub perform-requires-clause-running : goal.perform-requires-clause-running
perform-requires-clause-running g c = ap (λ (m : Machine g.row.T.Denot). m.ending) (c.in_ok-begins.ensures.kept c.if-begins.false) ∙ c.requires.running

pub returns-clause-ok : goal.returns-clause-ok
returns-clause-ok g c = if_ok c.perform.result c.perform.ensures.ok (λ turn h w more links behind.
    let f = c.in-Some.ensures.found w links in
    let n = nothing_begun g.T.Tag.none_of g.T.Tag.join_of w c.args.program.now links c.args.machine.now c.begin_needed.new.machine more f.insn c.in_ok-begins.begins c.if-begins.false (c.in_ok-begins.ensures.ok w more f.insn links f.linked) in
    performed g.T.Tag.none_of g.T.Tag.join_of w c.args.program.now links c.args.machine.now c.begin_needed.new.machine c.perform.new.machine more f.insn turn (step (tags_of g.T.Tag.none_of g.T.Tag.join_of w) w.looks (shown w c.args.machine.now more)) n.0 n.1
    (step_at g.T.Tag.none_of g.T.Tag.join_of w c.args.machine.now more c.requires.framed c.requires.running f.insn f.at) (h w more f.insn links f.linked behind))
