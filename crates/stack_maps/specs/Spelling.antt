-- How this project spells a StackMapTable (JVMS 4.7.4): every frame is a full_frame.
use Rattle.std.specs.Prelude.{ℕ, ◌+◌, ◌-◌, ◌≤◌, List, [], ◌∷◌, ◌++◌, length, All}
use Rattle.std.specs.Int.{w16, to_be_bytes}
use Rattle.std.specs.List.{flat_map}
use Rattle.stack_maps.specs.declared.frame.RawType.{RawType}
use Rattle.stack_maps.specs.declared.frame.RawType.TheVariants.{Top, Int, Long, Null, UninitThis, Object, Uninit, First}
use Rattle.stack_maps.specs.declared.frame.RawFrame.{RawFrame}

-- No bytes stand for an entry of the first frame.
abbrev pub HasBytes : RawType → Type 0
HasBytes (First k) = ⊥
HasBytes t = Unit {0}

-- a frame that can be written
pub record IsWritable (frame : RawFrame) : Type 0 where
  pub few_locals : length frame.locals ≤ 65535
  pub few_items : length frame.stack ≤ 65535
  pub locals_have : All HasBytes frame.locals
  pub stack_has : All HasBytes frame.stack

-- Offsets ascend strictly from `next` on.
abbrev pub Ascending : ℕ → List RawFrame → Type 0
Ascending next [] = Unit {0}
Ascending next (frame ∷ frames) = (next ≤ frame.offset) × Ascending (frame.offset + 1) frames

abbrev pub type_text : RawType → List ℕ
type_text Top = 0 ∷ []
type_text Int = 1 ∷ []
type_text Long = 4 ∷ []
type_text Null = 5 ∷ []
type_text UninitThis = 6 ∷ []
type_text (Object k) = 7 ∷ to_be_bytes w16 k
type_text (Uninit k) = 8 ∷ to_be_bytes w16 k
type_text (First k) = []

-- types with their count before them
abbrev pub types_text : List RawType → List ℕ
types_text types = to_be_bytes w16 (length types) ++ flat_map type_text types

-- a frame whose offset is at least `next`
abbrev pub frame_text : ℕ → RawFrame → List ℕ
frame_text next frame = 255 ∷ (to_be_bytes w16 (frame.offset - next) ++ (types_text frame.locals ++ types_text frame.stack))

abbrev pub frames_text : ℕ → List RawFrame → List ℕ
frames_text next [] = []
frames_text next (frame ∷ frames) = frame_text next frame ++ frames_text (frame.offset + 1) frames

abbrev pub table_text : List RawFrame → List ℕ
table_text frames = to_be_bytes w16 (length frames) ++ frames_text 0 frames
