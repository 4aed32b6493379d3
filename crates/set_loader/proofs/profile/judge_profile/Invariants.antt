use Rattle.std.proofs.Common.{take}
use Rattle.std.specs.Prelude.{All}
use Rattle.profile_check.specs.Profile.{Profile}
use Rattle.set_loader.proofs.profile.judge_profile.Given as goal

-- those so far are in the profile
abbrev pub invariant-loop-number : goal.invariant-loop-number
invariant-loop-number l = All (Profile l.names) (take l.number l.classes)
