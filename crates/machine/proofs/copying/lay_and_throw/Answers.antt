use Rattle.std.proofs.Common.{◌∙◌, ap, List}
use Rattle.machine_frames.specs.declared.flow.Fault.TheVariants as fault
use Rattle.machine_heap.specs.declared.item.Item.{Item}
use Rattle.machine.specs.Copied.{laid_in}
use Rattle.machine.specs.Unwound.{thrown_at}
use Rattle.machine.proofs.CopyWrites.{laid_ready, ready_thrown}
use Rattle.machine.proofs.copying.lay_and_throw.Goals as goal

pub returns-clause-ok : goal.returns-clause-ok
returns-clause-ok g c = λ w more links.
    let none = g.T.Tag.none_of in
    let p = c.args.program.now in
    let m = c.args.machine.now in
    let q = c.ready_fault.new.machine in
    let r = c.in_ok-ready.ready in
    let at = c.args.span.target in
    let i = c.args.span.to in
    let ws = c.args.fit.now in
    c.unwind.ensures.ok w more links
    ∙ ap (λ (heap : List (Item g.row.T.Denot)). thrown_at w (w.class r.class) r.place q.top.next (record q { areas = record q.areas { heap = heap } }) more) c.lay.ensures
    ∙ ready_thrown none g.T.Tag.join_of w p links (record m { areas = record m.areas { heap = laid_in m.areas.heap at i ws } }) (record q { areas = record q.areas { heap = laid_in q.areas.heap at i ws } }) more fault.ArrayStore r
    (laid_ready none p fault.ArrayStore m q r at i ws c.in_ok-ready.ensures.ok c.requires.there)
