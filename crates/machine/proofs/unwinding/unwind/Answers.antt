use Rattle.std.proofs.Common.{sym, ◌∙◌, map}
use Rattle.machine.specs.Shown.{frame_of, areas_of, outside_of}
use Rattle.machine.proofs.Landings.{fails}
use Rattle.machine.proofs.unwinding.unwind.Goals as goal

pub returns-in-Fails-clause-ok : goal.returns-in-Fails-clause-ok
returns-in-Fails-clause-ok g c = λ w more links.
    let m = c.loop-target.machine in
    let ends = c.in-Fails.ensures w links in
    sym (fails w.looks (outside_of w m more) (areas_of w m.areas) (w.class c.args.class) c.args.place (map (frame_of w) m.below) (w.method m.top.method) c.loop-target.at m.top.locals (w.class c.in-Fails.begun) ends.0 ends.1)
    ∙ c.loop-target.invariant.3 w more links
