use Rattle.std.proofs.Common.{drop}
use Rattle.machine.specs.Held.{kind_words}
use Rattle.machine.proofs.StaticRows.{write_none, write}
use Rattle.machine.proofs.statics.put_static.Goals as goal

pub returns-in_default-clause-ok : goal.returns-in_default-clause-ok
returns-in_default-clause-ok g c = λ p.
    write_none g.T.Tag.none_of g.T.Tag.join_of p c.args.frame.now c.args.areas.now c.args.class c.args.place c.args.kind c.args.narrowing c.in_default.ensures.value

pub returns-clause-ok : goal.returns-clause-ok
returns-clause-ok g c = λ p.
    write g.T.Tag.none_of g.T.Tag.join_of p c.args.frame.now c.args.areas.now c.args.class c.args.place c.args.kind c.args.narrowing c.in-Some.value (drop (kind_words c.args.kind) c.args.frame.now.stack) _ _ c.in-Some.ensures.value (cc) (cc)
