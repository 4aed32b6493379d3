use Rattle.std.proofs.Common.{◌≡◌, ◌++◌, take}
use Rattle.std.specs.Prelude.{flat_map}
use Rattle.command_parts.specs.RunLines.{report_line}
use Rattle.command_parts.proofs.runs.add_reports.Given as goal

-- the lines of the reports so far stand behind what was there
abbrev pub invariant-loop-report : goal.invariant-loop-report
invariant-loop-report l = l.text.items ≡ l.fn.text.items ++ flat_map report_line (take l.report-index l.reports)
