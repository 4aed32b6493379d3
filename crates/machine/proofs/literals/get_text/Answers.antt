use Rattle.machine.proofs.DoneInsns.{if_ok}
use Rattle.machine.proofs.LiteralRows.{gives_reads}
use Rattle.machine.proofs.literals.get_text.Goals as goal

pub returns-clause-ok : goal.returns-clause-ok
returns-clause-ok g c = if_ok c.give_text.result c.give_text.ensures.ok (λ flow h. gives_reads g.T.Tag.none_of g.T.Tag.join_of c.args.program.now c.args.text c.args.frame.now c.args.areas.now c.args.class flow c.give_text.new.frame c.give_text.new.areas h)
