-- What a reader of a class file judges later: the places of a StackMapTable at which an offset delta, a class index or
-- the offset of a `new` instruction stands, in the order of the bytes.
use Rattle.std.specs.Prelude.{ℕ, ◌+◌, List, [], ◌∷◌, ◌++◌, Option, Some, None}
use Rattle.stack_maps.specs.declared.frame.RawType.{RawType}
use Rattle.stack_maps.specs.declared.frame.RawType.TheVariants as types
use Rattle.stack_maps.specs.declared.marks.Mark.{Mark}
use Rattle.stack_maps.specs.declared.marks.Mark.TheVariants.{Delta, Object, Uninit}
use Rattle.stack_maps.specs.declared.marks.FrameMark.{FrameMark}
use Rattle.stack_maps.specs.declared.written.Locals.{Locals}
use Rattle.stack_maps.specs.declared.written.Locals.TheVariants.{Kept, Chop, Append, Full}
use Rattle.stack_maps.specs.declared.written.Written.{Written}

-- how many bytes a type takes
abbrev pub size_of : RawType → ℕ
size_of (types.Object k) = 3
size_of (types.Uninit k) = 3
size_of t = 1

-- what stands behind the tag of a type
abbrev pub mark_of : RawType → Option Mark
mark_of (types.Object k) = Some (Object k)
mark_of (types.Uninit k) = Some (Uninit k)
mark_of t = None

abbrev pub marks_at : ℕ → ℕ → Option Mark → List FrameMark
marks_at frame place None = []
marks_at frame place (Some mark) = record { frame = frame; place = place; mark = mark } ∷ []

-- types one after the other, the first at a place
abbrev pub type_marks : ℕ → ℕ → List RawType → List FrameMark
type_marks frame at [] = []
type_marks frame at (t ∷ ts) = marks_at frame (at + 1) (mark_of t) ++ type_marks frame (at + size_of t) ts

abbrev pub locals_marks : ℕ → Locals → List FrameMark
locals_marks frame Kept = []
locals_marks frame (Chop gone) = []
locals_marks frame (Append more) = type_marks frame more.at more.types
locals_marks frame (Full all) = type_marks frame all.at all.types

-- a frame of a number
abbrev pub frame_marks : ℕ → Written → List FrameMark
frame_marks number frame = marks_at number frame.delta_at (Some (Delta frame.delta)) ++ (locals_marks number frame.locals ++ type_marks number frame.stack.at frame.stack.types)

-- frames one after the other, the first of a number
unfoldable pub table_marks : ℕ → List Written → List FrameMark
table_marks number [] = []
table_marks number (frame ∷ frames) = frame_marks number frame ++ table_marks (number + 1) frames
