use Rattle.std.proofs.Common.{ap, ◌∙◌, refl}
use Rattle.linked_code.specs.declared.program.LinkedClass.{LinkedClass}
use Rattle.linked_code.specs.declared.program.Method.{Method}
use Rattle.linked_code.specs.Numbered.{class_at}
use Rattle.machine.proofs.Stepped.{root_begins_any}
use Rattle.machine.proofs.roots.begin_main.Goals as goal

pub returns-clause-ok : goal.returns-clause-ok
returns-clause-ok g c = λ w more links.
    root_begins_any g.T.Tag.none_of g.T.Tag.join_of w c.args.program.now links c.args.machine.now more c.requires.unframed c.requires.running c.in-Some.main c.as_slice.result.now c.in_ok-begin.field-0 c.begin.new.machine _ c.requires.phase c.in-Some.is
    (c.as_slice.ensures ∙ ap (λ (k : LinkedClass g.row.T.Denot). k.starts) (c.class-class.ensures ∙ ap (λ (m : Method). class_at c.args.program.now m.class) c.method.ensures)) c.in_ok-begin.ensures.ok refl
