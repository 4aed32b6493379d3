-- What the frames of a StackMapTable stand for (JVMS 4.7.4).
use Rattle.std.specs.Prelude.{ℕ, ◌+◌, ◌-◌, nat_lt, List, [], ◌∷◌, ◌++◌, length, take, Result, Ok, Err, if◌then◌else◌}
use Rattle.stack_maps.specs.declared.frame.RawType.{RawType}
use Rattle.stack_maps.specs.declared.frame.RawFrame.{RawFrame}
use Rattle.stack_maps.specs.declared.frame_stop.FrameStop.{FrameStop}
use Rattle.stack_maps.specs.declared.frame_stop.FrameStop.TheVariants.{Offset}
use Rattle.stack_maps.specs.declared.written.Locals.{Locals}
use Rattle.stack_maps.specs.declared.written.Locals.TheVariants.{Kept, Chop, Append, Full}
use Rattle.stack_maps.specs.declared.written.Written.{Written}

-- the locals of a frame, from those of the frame before it
abbrev pub locals_after : List RawType → Locals → List RawType
locals_after before Kept = before
locals_after before (Chop gone) = take (length before - gone) before
locals_after before (Append more) = before ++ more.types
locals_after before (Full all) = all.types

-- what is answered for the rest, where the first answer is no refusal
abbrev pub judging : {A B : Type 0} → Result A FrameStop → (A → Result B FrameStop) → Result B FrameStop
judging (Ok x) f = f x
judging (Err e) f = Err e

-- The offset of the first frame is its delta; that of each later one is the offset before it, plus the delta, plus 1. So
-- `next` is 0 first, and then one more than the offset before. An offset is at most 65,535.
abbrev pub offset_of : ℕ → Written → Result ℕ FrameStop
offset_of next frame = if nat_lt 65535 (next + frame.delta) then Err (Offset frame.delta_at) else Ok (next + frame.delta)

-- a frame in full, behind a frame with these locals
unfoldable pub in_full : ℕ → List RawType → Written → Result RawFrame FrameStop
in_full next before frame = judging (offset_of next frame) (λ offset. Ok (record { offset = offset; locals = locals_after before frame.locals; stack = frame.stack.types }))

-- frames before others
abbrev pub in_front : List RawFrame → Result (List RawFrame) FrameStop → Result (List RawFrame) FrameStop
in_front front (Ok frames) = Ok (front ++ frames)
in_front front (Err stop) = Err stop

-- all frames in full, or the first delta that brings an offset past 65,535
unfoldable pub expanded : ℕ → List RawType → List Written → Result (List RawFrame) FrameStop
expanded next before [] = Ok []
expanded next before (frame ∷ frames) = judging (in_full next before frame) (λ full. in_front (full ∷ []) (expanded (full.offset + 1) full.locals frames))

-- the locals before the frame that comes behind these
abbrev pub last_locals : List RawType → List RawFrame → List RawType
last_locals first [] = first
last_locals first (frame ∷ frames) = last_locals frame.locals frames
