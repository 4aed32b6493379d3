use Rattle.machine.proofs.LinkedHandlers.{catching_at, begins_some, begins_none}
use Rattle.machine.proofs.catching.judge.Goals as goal

pub returns-in-Some : goal.returns-in-Some
returns-in-Some g c = λ w links.
    let e = catching_at g.T.Tag.none_of w c.args.program.now c.args.method c.args.thrown c.args.at links in
    cc

pub returns-in-Some-begins : goal.returns-in-Some-begins
returns-in-Some-begins g c = λ w links.
    let e = catching_at g.T.Tag.none_of w c.args.program.now c.args.method c.args.thrown c.args.at links in
    ((cc), begins_some g.T.Tag.none_of w c.args.program.now c.args.method c.method-method.result.now c.in-Some-begins.class links c.method-method.ensures c.in-Some-begins.is)

pub returns-in-None-begins : goal.returns-in-None-begins
returns-in-None-begins g c = λ w links.
    let e = catching_at g.T.Tag.none_of w c.args.program.now c.args.method c.args.thrown c.args.at links in
    ((cc), begins_none g.T.Tag.none_of w c.args.program.now c.args.method c.method-method.result.now links c.method-method.ensures c.in-None-begins.is)
