-- The frames of a StackMapTable (JVMS 4.7.4) in the spelling that is written: every frame is a full_frame. This project's own rule.
use Rattle.std.specs.Prelude.{ℕ, ◌+◌, ◌-◌, List, [], ◌∷◌, ◌++◌, length, map, zip}
use Rattle.class_model.specs.declared.class.VType.{VType}
use Rattle.class_model.specs.declared.class.VType.TheVariants.{Top, Int, Long, Null, UninitThis, Ref, Uninit}
use Rattle.class_model.specs.declared.class.Frame.{Frame}
use Rattle.class_limits.specs.Sizes.{CodeLayout, offset_at}
use Rattle.pool_names.specs.Adding.{Adding, ◌>>=◌, done, spell_u16, spell_each}
use Rattle.pool_names.specs.Spelling.{spell_type}
use Rattle.class_spelling.specs.Forms.{spell_index, spell_table}
use Rattle.code_spelling.specs.Tables.{spell_offset}

-- a tag, and what stands behind it
abbrev pub tagged : ℕ → Adding (List ℕ) → Adding (List ℕ)
tagged tag spell = do
  rest ← spell
  done (tag ∷ rest)

-- verification_type_info: a class or an array by its own entry of the constant pool, and an object that is not
-- initialized by the offset of its `new`
unfoldable pub spell_vtype : CodeLayout → VType → Adding (List ℕ)
spell_vtype layout Top = done (0 ∷ [])
spell_vtype layout Int = done (1 ∷ [])
spell_vtype layout Long = done (4 ∷ [])
spell_vtype layout Null = done (5 ∷ [])
spell_vtype layout UninitThis = done (6 ∷ [])
spell_vtype layout (Ref ty) = tagged 7 (spell_index (spell_type ty))
spell_vtype layout (Uninit at) = tagged 8 (spell_offset layout at)

abbrev pub spell_vtypes : CodeLayout → List VType → Adding (List ℕ)
spell_vtypes layout types = spell_table (spell_vtype layout) types

-- a frame, where the one before it leaves `next` as the least offset: its delta is how far its own lies beyond that
unfoldable pub spell_frame : CodeLayout → ℕ × (ℕ × Frame) → Adding (List ℕ)
spell_frame layout placed = do
  delta ← spell_u16 (offset_at layout placed.1.0 - placed.0)
  locals ← spell_vtypes layout placed.1.1.locals
  stack ← spell_vtypes layout placed.1.1.stack
  done (255 ∷ (delta ++ (locals ++ stack)))

-- the least offset of a frame behind this one
abbrev pub behind_row : CodeLayout → ℕ × Frame → ℕ
behind_row layout row = offset_at layout row.0 + 1

-- frames, each with the least offset that the one before it leaves
abbrev pub placed_rows : CodeLayout → List (ℕ × Frame) → List (ℕ × (ℕ × Frame))
placed_rows layout rows = zip (0 ∷ map (behind_row layout) rows) rows

-- the content of a StackMapTable
unfoldable pub spell_frames : CodeLayout → List (ℕ × Frame) → Adding (List ℕ)
spell_frames layout rows = do
  count ← spell_u16 (length rows)
  frames ← spell_each (spell_frame layout) (placed_rows layout rows)
  done (count ++ frames)
