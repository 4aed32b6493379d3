-- The tables behind the instructions of code in the spelling that is written: handlers (JVMS 4.7.3) and lines (4.7.12), by offsets.
use Rattle.std.specs.Prelude.{ℕ, List, [], ◌∷◌, ◌++◌}
use Rattle.class_model.specs.declared.class.Handler.{Handler}
use Rattle.class_names.specs.Pieces.{joined}
use Rattle.class_limits.specs.Sizes.{CodeLayout, offset_at}
use Rattle.pool_names.specs.Adding.{Adding, ◌>>=◌, done, spell_u16}
use Rattle.pool_names.specs.Spelling.{spell_class}
use Rattle.class_spelling.specs.Forms.{spell_index, spell_optional, spell_table}

-- the offset of an instruction, by its number; behind the last one stands the code's end
abbrev pub spell_offset : CodeLayout → ℕ → Adding (List ℕ)
spell_offset layout number = spell_u16 (offset_at layout number)

-- an entry of the exception table; a handler for every class has the index 0
unfoldable pub spell_handler : CodeLayout → Handler → Adding (List ℕ)
spell_handler layout handler = do
  start ← spell_offset layout handler.start
  end ← spell_offset layout handler.end
  target ← spell_offset layout handler.target
  caught ← spell_index (spell_optional spell_class handler.caught)
  done (joined (start ∷ end ∷ target ∷ caught ∷ []))

abbrev pub spell_handlers : CodeLayout → List Handler → Adding (List ℕ)
spell_handlers layout handlers = spell_table (spell_handler layout) handlers

-- a row of a LineNumberTable
unfoldable pub spell_line : CodeLayout → ℕ × ℕ → Adding (List ℕ)
spell_line layout row = do
  start ← spell_offset layout row.0
  line ← spell_u16 row.1
  done (start ++ line)

-- the content of a LineNumberTable
abbrev pub spell_lines : CodeLayout → List (ℕ × ℕ) → Adding (List ℕ)
spell_lines layout lines = spell_table (spell_line layout) lines
