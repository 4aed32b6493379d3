use Rattle.std.proofs.Common.{◌≤◌, take}
use Rattle.modified_utf8.specs.Text.{text_bytes}
use Rattle.command_parts.specs.Told.{Took}
use Rattle.command_parts.proofs.lines.say_name.Given as goal

-- the units so far are written, and no count has fallen
abbrev pub invariant-loop-unit : goal.invariant-loop-unit
invariant-loop-unit g l = record {
  took : Took (g.E.ByteSink.held l.fn.err) (g.E.ByteSink.held l.err) (text_bytes (take l.unit-index l.unit-items));
  faults : g.E.ByteSink.faults l.fn.err ≤ g.E.ByteSink.faults l.err;
}
