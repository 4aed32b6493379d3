use Rattle.std.proofs.Common.{◌≡◌, [], take, drop}
use Rattle.profile_check.specs.Members.{same_method}
use Rattle.profile_check.specs.Rows.{first_again}
use Rattle.profile_check.proofs.twice.again_in_methods.Given as goal

-- what is left decides
abbrev pub invariant-loop-k : goal.invariant-loop-k
invariant-loop-k l = first_again same_method [] 0 l.methods ≡ first_again same_method (take l.k l.methods) l.k (drop l.k l.methods)
