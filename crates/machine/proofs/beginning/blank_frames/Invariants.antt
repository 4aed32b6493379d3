use Rattle.std.proofs.Common.{◌≡◌, ◌-◌, [], drop, length}
use Rattle.machine.specs.Beginning.{with_blanks}
use Rattle.machine.proofs.beginning.blank_frames.Given as goal

abbrev pub invariant-loop-behind : goal.invariant-loop-behind
invariant-loop-behind g l = l.frames.items ≡ with_blanks l.program (drop (length l.numbers - l.behind) l.numbers) []
