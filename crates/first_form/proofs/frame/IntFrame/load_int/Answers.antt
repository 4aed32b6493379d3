use Rattle.first_form.specs.Typing.{HoldsInt, Pushes}
use Rattle.first_form.proofs.Follows.{follows_with}
use Rattle.first_form.proofs.frame.IntFrame.load_int.Goals as goal

pub returns-then-holds_int : goal.returns-then-holds_int
returns-then-holds_int c =
    let f = c.args.self.now in
    follows_with (HoldsInt f c.args.slot) (Pushes c.args.rules.max_stack f) c.push.result c.push.new.self (c.holds_int.ensures.0 c.if-holds_int.true) c.push.ensures
