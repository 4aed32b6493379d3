-- The bytes of a StackMapTable (JVMS 4.7.4), from number_of_entries on.
use Rattle.std.specs.Prelude.{◌≡◌, ℕ, ◌+◌, ◌-◌, ◌<◌, ◌≤◌, ◌^◌, ◌==◌, nat_lt, List, [], ◌∷◌, ◌++◌, length, MatchBool}
use Rattle.std.specs.Int.{w16, to_be_bytes}
use Rattle.class_input.specs.Grammar.{IsU16, Each}
use Rattle.stack_maps.specs.declared.frame.RawType.{RawType}
use Rattle.stack_maps.specs.declared.frame.RawType.TheVariants.{Top, Int, Long, Null, UninitThis, Object, Uninit, First}
use Rattle.stack_maps.specs.declared.written.Entries.{Entries}
use Rattle.stack_maps.specs.declared.written.Locals.{Locals}
use Rattle.stack_maps.specs.declared.written.Locals.TheVariants.{Kept, Chop, Append, Full}
use Rattle.stack_maps.specs.declared.written.Written.{Written}

-- a tag, and an index or an offset in two bytes
abbrev pub IsTagged : ℕ → List ℕ → ℕ → Type 0
IsTagged tag text k = (k < 2 ^ 16) × (text ≡ tag ∷ to_be_bytes w16 k)

-- verification_type_info. Float (tag 2) and double (tag 3) are left out.
abbrev pub IsType : List ℕ → RawType → Type 0
IsType text Top = text ≡ 0 ∷ []
IsType text Int = text ≡ 1 ∷ []
IsType text Long = text ≡ 4 ∷ []
IsType text Null = text ≡ 5 ∷ []
IsType text UninitThis = text ≡ 6 ∷ []
IsType text (Object k) = IsTagged 7 text k
IsType text (Uninit k) = IsTagged 8 text k
IsType text (First k) = ⊥

-- Below, a text begins at a place, and what it spells remembers places.

-- so many types
pub record AreTypes (count at : ℕ) (text : List ℕ) (entries : Entries) : Type 0 where
  pub begins : entries.at ≡ at
  pub counted : length entries.types ≡ count
  pub each_is : Each IsType text entries.types

-- a count in two bytes, and so many types
pub record AreCounted (at : ℕ) (text : List ℕ) (entries : Entries) : Type 0 where
  pub count : List ℕ
  pub types : List ℕ
  pub spelled : text ≡ count ++ types
  pub count_is : IsU16 count (length entries.types)
  pub types_are : AreTypes (length entries.types) (at + 2) types entries

-- The forms of stack_map_frame: what stands behind the type byte, and what it spells. A stack of no types takes no bytes.

-- same_frame and same_locals_1_stack_item_frame: the type byte, which stands at `place`, holds the delta
pub record IsShort (place delta items at : ℕ) (text : List ℕ) (frame : Written) : Type 0 where
  pub delta_at : frame.delta_at ≡ place
  pub delta_is : frame.delta ≡ delta
  pub locals_are : frame.locals ≡ Kept
  pub stack_is : AreTypes items at text frame.stack

-- same_frame_extended and same_locals_1_stack_item_frame_extended
pub record IsExtended (items at : ℕ) (text : List ℕ) (frame : Written) : Type 0 where
  pub delta : List ℕ
  pub stack : List ℕ
  pub spelled : text ≡ delta ++ stack
  pub delta_at : frame.delta_at ≡ at
  pub delta_is : IsU16 delta frame.delta
  pub locals_are : frame.locals ≡ Kept
  pub stack_is : AreTypes items (at + 2) stack frame.stack

-- chop_frame, where so many locals are known: it removes no more than there are
pub record IsChop (known gone at : ℕ) (text : List ℕ) (frame : Written) : Type 0 where
  pub enough : gone ≤ known
  pub delta : List ℕ
  pub stack : List ℕ
  pub spelled : text ≡ delta ++ stack
  pub delta_at : frame.delta_at ≡ at
  pub delta_is : IsU16 delta frame.delta
  pub locals_are : frame.locals ≡ Chop gone
  pub stack_is : AreTypes 0 (at + 2) stack frame.stack

-- append_frame
pub record IsAppend (more at : ℕ) (text : List ℕ) (frame : Written) : Type 0 where
  pub delta : List ℕ
  pub locals : List ℕ
  pub stack : List ℕ
  pub entries : Entries
  pub spelled : text ≡ delta ++ (locals ++ stack)
  pub delta_at : frame.delta_at ≡ at
  pub delta_is : IsU16 delta frame.delta
  pub locals_are : frame.locals ≡ Append entries
  pub entries_are : AreTypes more (at + 2) locals entries
  pub stack_is : AreTypes 0 (at + 2 + length locals) stack frame.stack

-- full_frame
pub record IsFull (at : ℕ) (text : List ℕ) (frame : Written) : Type 0 where
  pub delta : List ℕ
  pub locals : List ℕ
  pub stack : List ℕ
  pub entries : Entries
  pub spelled : text ≡ delta ++ (locals ++ stack)
  pub delta_at : frame.delta_at ≡ at
  pub delta_is : IsU16 delta frame.delta
  pub locals_are : frame.locals ≡ Full entries
  pub entries_are : AreCounted (at + 2) locals entries
  pub stack_is : AreCounted (at + 2 + length locals) stack frame.stack

-- by type byte: 0 to 63, 64 to 127, 247, 248 to 250, 251, 252 to 254, 255; the others are reserved
abbrev pub IsForm : ℕ → ℕ → ℕ → ℕ → List ℕ → Written → Type 0
IsForm known place tag at text frame =
    MatchBool (nat_lt tag 64) (IsShort place tag 0 at text frame)
    (MatchBool (nat_lt tag 128) (IsShort place (tag - 64) 1 at text frame)
    (MatchBool (nat_lt tag 247) ⊥
    (MatchBool (tag == 247) (IsExtended 1 at text frame)
    (MatchBool (nat_lt tag 251) (IsChop known (251 - tag) at text frame)
    (MatchBool (tag == 251) (IsExtended 0 at text frame)
    (MatchBool (nat_lt tag 255) (IsAppend (tag - 251) at text frame)
    (IsFull at text frame)))))))

-- stack_map_frame, where so many locals are known before it
pub record IsFrame (known at : ℕ) (text : List ℕ) (frame : Written) : Type 0 where
  pub tag : ℕ
  pub form : List ℕ
  pub spelled : text ≡ tag ∷ form
  pub byte : tag < 256
  pub form_is : IsForm known at tag (at + 1) form frame

-- how many locals are known after a frame
abbrev pub known_after : ℕ → Locals → ℕ
known_after known Kept = known
known_after known (Chop gone) = known - gone
known_after known (Append more) = known + length more.types
known_after known (Full all) = length all.types

-- frames one after the other
abbrev pub AreFrames : ℕ → ℕ → List ℕ → List Written → Type 0
AreFrames known at text [] = text ≡ []
AreFrames known at text (frame ∷ frames) = (first others : List ℕ) × (text ≡ first ++ others) × IsFrame known at first frame × AreFrames (known_after known frame.locals) (at + length first) others frames

-- number_of_entries and entries, where the first frame has so many locals
pub record IsTable (known at : ℕ) (text : List ℕ) (frames : List Written) : Type 0 where
  pub count : List ℕ
  pub entries : List ℕ
  pub spelled : text ≡ count ++ entries
  pub count_is : IsU16 count (length frames)
  pub frames_are : AreFrames known (at + 2) entries frames
