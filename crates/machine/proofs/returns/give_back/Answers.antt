use Rattle.std.proofs.Common.{refl, drop}
use Rattle.machine.specs.Held.{kind_words}
use Rattle.machine.proofs.Returning.{given_with}
use Rattle.machine.proofs.returns.give_back.Goals as goal

pub returns-in-Some-pop-clause-ok : goal.returns-in-Some-pop-clause-ok
returns-in-Some-pop-clause-ok g c = λ w more links.
    let m = c.args.machine.now in
    given_with g.T.Tag.none_of g.T.Tag.join_of w c.args.program.now links m more c.args.kind c.method.result.now c.in-Some.value c.narrowed-value.result (drop (kind_words c.args.kind) m.top.stack) m.below c.give.new.self c.pop.new.self c.in-Some-pop.caller
    refl c.in-Some.ensures.value c.method.ensures c.narrowed-value.ensures c.in_ok-give.ensures.ok c.in-Some-pop.ensures c.requires.framed c.requires.running
