-- Code that can be written: some bytes are that code, and none of its sizes passes a limit of the format (JVMS 4.7.3 and 4.11).
use Rattle.std.specs.Prelude.{◌≡◌, ℕ, ◌+◌, ◌≤◌, sum_by, List, [], ◌∷◌, length, All, IfSome, false, None}
use Rattle.class_model.specs.declared.class.CodeDef.{CodeDef}
use Rattle.class_model.specs.declared.class.Frame.{Frame}
use Rattle.class_model.specs.declared.class.Handler.{Handler}
use Rattle.class_model.specs.declared.class.VType.{VType}
use Rattle.class_model.specs.declared.class.VType.TheVariants.{Ref}
use Rattle.class_shape.specs.Shaped.{ShapedCode}
use Rattle.class_limits.specs.Sizes.{CodeLayout, code_size, offset_at}
use Rattle.class_limits.specs.Texts.{code_texts}
use Rattle.class_limits.specs.Counts.{code_counts}
use Rattle.class_limits.specs.Lengths.{code_lengths, frame_length}
use Rattle.class_limits.specs.Limits.{first_over, long_text, is_bad_size, far_in_code}
use Rattle.pool_names.specs.Fits.{FitsText, FitsType}
use Rattle.insn_spelling.specs.Conditions.{Small, WritableInsns}
use Rattle.code_spelling.specs.Frames.{behind_row}

pub record WritableCode (code : CodeDef) : Type 0 where
  pub shaped : ShapedCode code
  pub texts : long_text (code_texts code) ≡ None
  pub counts : first_over 65535 (code_counts code) ≡ None
  pub size : is_bad_size (code_size code) ≡ false
  pub branches : far_in_code code ≡ None
  pub lengths : first_over 4294967295 (code_lengths code) ≡ None

-- ---- its parts

-- a count of two bytes
abbrev pub FitsCount : {A : Type 0} → List A → Type 0
FitsCount xs = length xs ≤ 65535

abbrev pub FitsHandler : Handler → Type 0
FitsHandler handler = IfSome handler.caught FitsText

abbrev pub FitsVType : VType → Type 0
FitsVType (Ref ty) = FitsType ty
FitsVType t = Unit {0}

-- types with their count before them
pub record FitsVTypes (types : List VType) : Type 0 where
  pub count : FitsCount types
  pub texts : All FitsVType types

pub record FitsFrame (row : ℕ × Frame) : Type 0 where
  pub locals : FitsVTypes row.1.locals
  pub stack : FitsVTypes row.1.stack

-- the offsets of frames ascend strictly, the first no less than `next`
abbrev pub Ordered : CodeLayout → ℕ → List (ℕ × Frame) → Type 0
Ordered layout next [] = Unit {0}
Ordered layout next (row ∷ rows) = (next ≤ offset_at layout row.0) × Ordered layout (behind_row layout row) rows

-- the rows of a StackMapTable, whose content has a length of four bytes
pub record FitsRows (layout : CodeLayout) (rows : List (ℕ × Frame)) : Type 0 where
  pub ordered : Ordered layout 0 rows
  pub count : FitsCount rows
  pub each : All FitsFrame rows
  pub short : 2 + sum_by frame_length rows ≤ 4294967295

-- code that can be written where its instructions stand
pub record FitsCode (layout : CodeLayout) (code : CodeDef) : Type 0 where
  pub small : Small layout
  pub insns : WritableInsns layout code.insns
  pub handlers : FitsCount code.handlers
  pub each_handler : All FitsHandler code.handlers
  pub frames : FitsRows layout code.frames
  pub lines : FitsCount code.lines
