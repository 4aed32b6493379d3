use Rattle.std.proofs.Common.{sym, ap, ◌∙◌}
use Rattle.linked_code.specs.declared.program.LinkedClass.{LinkedClass}
use Rattle.machine.proofs.DoneInsns.{prepared, if_ok}
use Rattle.machine.proofs.performing.begin_needed.Goals as goal

pub returns-in-Some-clause-ok : goal.returns-in-Some-clause-ok
returns-in-Some-clause-ok g c = if_ok c.begin.result c.begin.ensures.ok (λ begins h w more i links linked.
    prepared g.T.Tag.none_of g.T.Tag.join_of w c.args.program.now links c.args.op c.args.machine.now c.begin.new.machine more i c.in-Some.class c.as_slice.result.now begins linked (sym c.in-Some.ensures)
    (c.as_slice.ensures ∙ ap (λ (k : LinkedClass g.row.T.Denot). k.starts) c.class.ensures) h c.requires.framed c.requires.running)
