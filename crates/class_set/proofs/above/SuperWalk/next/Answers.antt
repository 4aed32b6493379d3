use Rattle.std.proofs.Common.{◌∙◌, ◌-◌, sym, ap, arith, flat_map}
use Rattle.std.specs.Prelude.{option_to_list}
use Rattle.set_lookups.specs.Lookups.{chain}
use Rattle.class_set.proofs.Upwards.{last_step, further_step}
use Rattle.class_set.proofs.above.SuperWalk.next.Goals as goal

pub returns-then-self-eq0 : goal.returns-then-self-eq0
returns-then-self-eq0 c =
    let walk = c.self.inside in
    sym c.self.view_is ∙ ap (λ at. flat_map (chain walk.left walk.set.now) (option_to_list at)) c.in-Some.is ∙ last_step walk.left walk.set.now c.in-Some.number c.if-self-eq0.true

pub returns-else-self-eq0 : goal.returns-else-self-eq0
returns-else-self-eq0 c =
    let walk = c.self.inside in
    sym c.self.view_is ∙ ap (λ at. flat_map (chain walk.left walk.set.now) (option_to_list at)) c.in-Some.is
    ∙ further_step walk.left (walk.left - 1) walk.set.now c.in-Some.number (option_to_list c.superclass-self-inside.result) (omega (arith, c.if-self-eq0.false)) c.superclass-self-inside.ensures
