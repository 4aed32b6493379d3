-- A state without its tags and its reports, and the maps of tags under which both machines go alike.
use Rattle.std.specs.Prelude.{◌≡◌, ℤ, List, [], map}
use Rattle.run_state.specs.Words.{Word, Empty, Num, Long, Half, Null, Ref}
use Rattle.run_state.specs.State.{Method, Frame, Item, Areas, Outside, State}
use Rattle.run_state.specs.Tags.{Tags}

module _ {T U : Type 0} (h : T → U) where
  abbrev pub word_of : Word T → Word U
  word_of Empty = Empty
  word_of (Num v t) = Num v (h t)
  word_of (Long v t) = Long v (h t)
  word_of Half = Half
  word_of Null = Null
  word_of (Ref a) = Ref a

  abbrev pub words_of : List (Word T) → List (Word U)
  words_of ws = map word_of ws

  abbrev pub item_of : Item T → Item U
  item_of x = record { ty = x.ty; own = h x.own; cells = words_of x.cells }

  abbrev pub frame_of : Frame T → Frame U
  frame_of f = record { method = f.method; next = f.next; locals = words_of f.locals; stack = words_of f.stack }

  abbrev pub frames_of : List (Frame T) → List (Frame U)
  frames_of fs = map frame_of fs

  abbrev pub areas_of : Areas T → Areas U
  areas_of ar = record { heap = map item_of ar.heap; statics = words_of ar.statics; literals = ar.literals }

-- the reports forgotten
abbrev pub quiet : Outside → Outside
quiet o = record o { reports = [] }

abbrev pub without_reports : {T : Type 0} → State T → State T
without_reports s = record s { outside = quiet s.outside }

-- the tags mapped, and the reports forgotten
abbrev pub image : {T U : Type 0} → (T → U) → State T → State U
image h s = record { frames = frames_of h s.frames; areas = areas_of h s.areas; outside = quiet s.outside; ending = s.ending }

-- all tags and all reports forgotten
unfoldable pub erase : State ℤ → State (Unit {0})
erase s = image (λ t. tt) s

-- a map of tags that keeps what a machine does with them
pub record Maps {T U : Type 0} (M : Tags T) (N : Tags U) (h : T → U) : Type 0 where
  pub at_none : h M.none ≡ N.none
  pub at_join : (a b : T) → h (M.join a b) ≡ N.join (h a) (h b)
  pub at_marked : (m : Method) (t : T) → h (M.marked m t) ≡ N.marked m (h t)
