use Rattle.std.proofs.Common.{◌∙◌, ℕ, length, eqb, ap}
use Rattle.set_lookups.specs.Levels.{any_levels}
use Rattle.set_lookups.proofs.Meeting.{in_cycle_meets}
use Rattle.set_lookups.proofs.cycles.is_above_itself.Goals as goal

pub returns : goal.returns
returns c = λ class.
    let test = λ (other : ℕ). eqb other c.args.number in
    c.in_ok-met.ensures ∙ ap (λ up. any_levels (length c.args.classes.now) up test (up c.args.number)) c.requires.above ∙ in_cycle_meets c.args.classes.now c.args.number class
