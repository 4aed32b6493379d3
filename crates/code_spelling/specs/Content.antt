-- The content of a Code attribute (JVMS 4.7.3) in the spelling that is written.
use Rattle.std.specs.Prelude.{ℕ, ◌+◌, List, [], ◌∷◌}
use Rattle.class_model.specs.declared.class.CodeDef.{CodeDef}
use Rattle.class_model.specs.declared.class.Frame.{Frame}
use Rattle.class_names.specs.Pieces.{joined}
use Rattle.class_limits.specs.Sizes.{CodeLayout, layout_of}
use Rattle.code_attribute.specs.CodeContent.{stack_map_table, line_number_table}
use Rattle.pool_names.specs.Adding.{Adding, ◌>>=◌, done, spell_u16, spell_u32}
use Rattle.class_spelling.specs.Forms.{spell_when_any, count_any}
use Rattle.insn_spelling.specs.Spelling.{spell_insns}
use Rattle.code_spelling.specs.Tables.{spell_handlers, spell_lines}
use Rattle.code_spelling.specs.Frames.{spell_frames}

-- StackMapTable, LineNumberTable, each only where it has a row
unfoldable pub spell_code_attributes : CodeLayout → List (ℕ × Frame) → List (ℕ × ℕ) → Adding (List ℕ)
spell_code_attributes layout frames lines = do
  count ← spell_u16 (count_any frames + count_any lines)
  first ← spell_when_any stack_map_table (spell_frames layout) frames
  second ← spell_when_any line_number_table (spell_lines layout) lines
  done (joined (count ∷ first ∷ second ∷ []))

unfoldable pub spell_content : CodeLayout → CodeDef → Adding (List ℕ)
spell_content layout code = do
  max_stack ← spell_u16 code.max_stack
  max_locals ← spell_u16 code.max_locals
  len ← spell_u32 layout.size
  insns ← spell_insns layout code.insns
  handlers ← spell_handlers layout code.handlers
  attributes ← spell_code_attributes layout code.frames code.lines
  done (joined (max_stack ∷ max_locals ∷ len ∷ insns ∷ handlers ∷ attributes ∷ []))

abbrev pub spell_code : CodeDef → Adding (List ℕ)
spell_code code = spell_content (layout_of code) code
