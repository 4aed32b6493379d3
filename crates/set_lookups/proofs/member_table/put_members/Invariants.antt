use Rattle.std.proofs.Common.{◌≡◌, ◌≤◌, cond, drop, length, eqb, None}
use Rattle.std.specs.Option.{option_or}
use Rattle.std.specs.List.{position_from}
use Rattle.set_lookups.specs.Members.{Parts, place_in}
use Rattle.set_lookups.proofs.member_table.put_members.Given as goal

-- the members from here on have their places
abbrev pub invariant-loop-at : goal.invariant-loop-at
invariant-loop-at g l = record {
  within : l.at ≤ length l.members;
  placed : (parts : Parts) → place_in l.table parts ≡ option_or (cond (eqb l.class parts.class) (position_from (λ member. g.T.Member.is_of member parts) l.at (drop l.at l.members)) None) (place_in l.initial.table parts);
}

abbrev pub decreases-loop-at : goal.decreases-loop-at
decreases-loop-at g l = l.at
