use Rattle.std.proofs.Common.{◌≡◌, take}
use Rattle.set_lookups.specs.Members.{Parts, place_in, field_place}
use Rattle.set_lookups.proofs.member_table.place_fields.Given as goal

-- the classes so far have their places
abbrev pub invariant-loop-number : goal.invariant-loop-number
invariant-loop-number l = (parts : Parts) → place_in l.table parts ≡ field_place (take l.number l.classes) parts
