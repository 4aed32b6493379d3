-- When a device may answer a fault: this project's own rules on counts of faults.
use Rattle.std.specs.Prelude.{◌≡◌, ℕ, ◌+◌, ◌-◌, ◌^◌, ◌≤◌, min, IfErr, IsErrOf, Result}
use Rattle.outside_io.specs.declared.stop.IoStop.{IoStop}
use Rattle.outside_io.specs.declared.stop.IoStop.TheVariants.{Failed}

-- the last value of a count, where it stays
abbrev pub last_count : ℕ
last_count = 2 ^ 64 - 1

-- a count rose, or stands at its last value
abbrev pub Rose : ℕ → ℕ → Type 0
Rose before now = min (before + 1) last_count ≤ now

-- a count does not fall, and stays at its last value
pub record Grows (before now : ℕ) : Type 0 where
  pub later : before ≤ now
  pub last : before ≡ last_count → now ≡ before

-- a count grows, and the call answers `Failed` only where it rose
pub record Counts {T : Type 0} (before now : ℕ) (result : Result T IoStop) : Type 0 where
  pub later : before ≤ now
  pub last : before ≡ last_count → now ≡ before
  pub failed : IsErrOf result Failed → Rose before now

-- a count grows, and the one refusal is `Failed`, only where it rose
pub record HasCause {T : Type 0} (before now : ℕ) (result : Result T IoStop) : Type 0 where
  pub later : before ≤ now
  pub last : before ≡ last_count → now ≡ before
  pub failed : IfErr result (λ stop. (stop ≡ Failed) × Rose before now)
