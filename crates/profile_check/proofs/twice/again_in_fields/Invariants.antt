use Rattle.std.proofs.Common.{◌≡◌, [], take, drop}
use Rattle.profile_check.specs.Members.{same_field}
use Rattle.profile_check.specs.Rows.{first_again}
use Rattle.profile_check.proofs.twice.again_in_fields.Given as goal

-- what is left decides
abbrev pub invariant-loop-k : goal.invariant-loop-k
invariant-loop-k l = first_again same_field [] 0 l.fields ≡ first_again same_field (take l.k l.fields) l.k (drop l.k l.fields)
