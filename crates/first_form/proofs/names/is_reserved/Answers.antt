use Rattle.std.proofs.Common.{ℕ, List, ◌↔◌, subst}
use Rattle.std.specs.Prelude.{IsTrue}
use Rattle.first_form.specs.Naming.{HasAt}
use Rattle.first_form.proofs.Naming.{front_spelled, part_spelled, reserved_by_front, reserved_by_part}
use Rattle.first_form.proofs.names.is_reserved.Goals as goal

pub returns-then-begins : goal.returns-then-begins
returns-then-begins c =
    let units = c.args.units.now in
    reserved_by_front units c.begins.result
    (subst (λ (text : List ℕ). IsTrue c.begins.result ↔ HasAt text units 0) front_spelled c.begins.ensures) c.if-begins.true

pub returns-else-begins : goal.returns-else-begins
returns-else-begins c =
    let units = c.args.units.now in
    reserved_by_part units c.begins.result c.has_part.result
    (subst (λ (text : List ℕ). IsTrue c.begins.result ↔ HasAt text units 0) front_spelled c.begins.ensures) c.if-begins.false
    (subst (λ (text : List ℕ). IsTrue c.has_part.result ↔ ((place : ℕ) × HasAt text units place)) part_spelled c.has_part.ensures)
