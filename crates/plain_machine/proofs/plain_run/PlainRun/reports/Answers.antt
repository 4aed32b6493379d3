use mathlib.Core.List.{not-mem-nil}
use Rattle.plain_machine.proofs.plain_run.PlainRun.reports.Goals as goal

-- no lifetime is named there
pub as_slice-requires : goal.as_slice-requires
as_slice-requires κs c = λ a m. absurd (not-mem-nil m)
