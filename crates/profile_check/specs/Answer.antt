-- What a check answers, want of memory aside.
use Rattle.std.specs.Prelude.{◌≡◌, Option, Some, None, Result, Ok, Err}
use Rattle.profile_check.specs.declared.profile.OutOfProfile.{OutOfProfile}
use Rattle.profile_check.specs.declared.profile.ProfileStop.{ProfileStop}
use Rattle.profile_check.specs.declared.profile.ProfileStop.TheVariants.{Out, Memory}

-- a refusal is what is found
abbrev pub Refuses : ProfileStop → Option OutOfProfile → Type 0
Refuses (Out fault) found = found ≡ Some fault
Refuses Memory found = Unit {0}

-- nothing is found, or the refusal is what is found
abbrev pub Tells : {A : Type 0} → Result A ProfileStop → Option OutOfProfile → Type 0
Tells (Ok value) found = found ≡ None
Tells (Err stop) found = Refuses stop found
