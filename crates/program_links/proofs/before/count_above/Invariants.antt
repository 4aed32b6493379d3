use Rattle.std.proofs.Common.{◌≡◌, ◌+◌, ◌-◌, length}
use Rattle.std.specs.Option.{option_copied}
use Rattle.run_state.specs.SetLooks.{chain_of}
use Rattle.look_laws.specs.Shown.{layout_above}
use Rattle.program_links.specs.Before.{field_count}
use Rattle.program_links.proofs.before.count_above.Given as goal

-- what is counted, and what stands further up
abbrev pub invariant-loop-step : goal.invariant-loop-step
invariant-loop-step l = length (layout_above l.set l.class) ≡ l.count + field_count (chain_of (length l.set - l._step) l.set (option_copied l.next))
