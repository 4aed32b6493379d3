use Rattle.pool_names.specs.Adding.{behind, spell_each}
use Rattle.code_spelling.specs.Frames.{spell_frame, placed_rows}
use Rattle.code_spelling.proofs.FrameLoops.{Left}
use Rattle.code_spelling.proofs.frames.put_each_frame.Given as goal

abbrev pub invariant-loop-row : goal.invariant-loop-row
invariant-loop-row l = Left l.layout l.rows l.row-index l.next l.pool l.out.items (behind l.initial.out.items (spell_each (spell_frame l.layout) (placed_rows l.layout l.rows) l.initial.pool))
