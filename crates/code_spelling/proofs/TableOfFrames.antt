-- The table of frames that is written is read as these.
use Rattle.std.proofs.Common.{◌≡◌, ℕ, ◌+◌, ◌-◌, ◌<◌, ◌≤◌, false, List, [], ◌∷◌, ◌++◌, length, map, Result, Ok, refl, sym, subst, arith, lit<}
use Rattle.std.specs.Prelude.{nat_lt, All, zip, pos, ◌<ℤ◌}
use Rattle.std.proofs.lemmas.Bool.{le-ltb}
use Rattle.std.proofs.lemmas.Int.{ints}
use Rattle.std.proofs.lemmas.List.Elements.{All-head, All-tail, All-nil, All-cons}
use Rattle.class_input.specs.Grammar.{IsU16, Each}
use Rattle.class_model.specs.declared.class.VType.{VType}
use Rattle.class_model.specs.declared.class.Frame.{Frame}
use Rattle.class_model.specs.declared.insn.Insn.{Insn}
use Rattle.class_shape.specs.ShapedInsn.{Ascend, AscendAbove}
use Rattle.class_shape.specs.Shaped.{ShapedFrame, place_of}
use Rattle.class_limits.specs.Sizes.{CodeLayout, offset_at}
use Rattle.const_pool.specs.Pool.{Pool}
use Rattle.class_names.specs.Pieces.{IsTable}
use Rattle.insn_code.specs.Linking.{Code}
use Rattle.frame_tables.specs.FrameTable.{IsVType, Alike, IsFrame, numbered, AreFrames}
use Rattle.stack_maps.specs.declared.frame.RawType.{RawType}
use Rattle.stack_maps.specs.declared.frame.RawFrame.{RawFrame}
use Rattle.stack_maps.specs.declared.frame_stop.FrameStop.{FrameStop}
use Rattle.stack_maps.specs.declared.written.Entries.{Entries}
use Rattle.stack_maps.specs.declared.written.Locals.TheVariants.{Full}
use Rattle.stack_maps.specs.declared.written.Written.{Written}
use Rattle.stack_maps.specs.Grammar as grammar
use Rattle.stack_maps.specs.Expand.{in_full, expanded}
use Rattle.pool_names.specs.Adding.{spell_u16, spell_each}
use Rattle.pool_names.specs.Claims.{Claims, AllClaims}
use Rattle.pool_names.proofs.Claiming.{claims_as, done_claims, Then, then_claims}
use Rattle.pool_names.proofs.Lists.{u16_claims, each_claims}
use Rattle.insn_spelling.specs.Conditions.{LaysOut, offsets}
use Rattle.insn_spelling.proofs.LayoutLaws.{lays_found, lays_length, lays_small, lays_ascend}
use Rattle.code_spelling.specs.Frames.{spell_frame, behind_row, placed_rows, spell_frames}
use Rattle.code_spelling.specs.Writable.{Ordered}
use Rattle.code_spelling.proofs.FrameLaws.{IsRawType, Spelled, frame_claims}

-- ---- types as they stand in the bytes

record Raw (r : Pool) (code : Code) (first : List VType) (text : List ℕ) (ts : List VType) : Type 0 where
  types : List RawType
  stand : Each grammar.IsType text types
  alike : Alike (IsVType r code first) types ts
  many : length types ≡ length ts

raw_types : (r : Pool) (code : Code) (first : List VType) (text : List ℕ) (ts : List VType) → Each (IsRawType r code first) text ts → Raw r code first text ts
raw_types r code first text [] h = record { types = []; stand = h; alike = tt; many = refl }
raw_types r code first text (t ∷ ts) h =
    let more = raw_types r code first h.1 ts h.4 in
    record { types = h.3.0 ∷ more.types; stand = (h.0, h.1, h.2, h.3.1, more.stand); alike = (h.3.2, more.alike); many = omega (arith, more.many) }

abbrev entries_at : ℕ → List RawType → Entries
entries_at at types = record { at = at + 2; types = types }

record Counted (r : Pool) (code : Code) (first : List VType) (at : ℕ) (text : List ℕ) (ts : List VType) : Type 0 where
  types : List RawType
  stand : grammar.AreCounted at text (entries_at at types)
  alike : Alike (IsVType r code first) types ts

counted : (r : Pool) (code : Code) (first : List VType) (at : ℕ) (text : List ℕ) (ts : List VType) → IsTable (IsRawType r code first) text ts → Counted r code first at text ts
counted r code first at text ts h =
    let raw = raw_types r code first h.rest ts h.each_is in
    record {
      types = raw.types;
      stand = record {
        count = h.count;
        types = h.rest;
        spelled = h.spelled;
        count_is = subst (λ (n : ℕ). IsU16 h.count n) (sym raw.many) h.counted;
        types_are = record { begins = refl; counted = refl; each_is = raw.stand };
      };
      alike = raw.alike;
    }

-- ---- frames, the first of them at a place, and with a least offset that the one before it leaves

-- the frames of rows, as they stand in the bytes, and in full
record Stand (r : Pool) (code : Code) (first : List VType) (known at next : ℕ) (before : List RawType) (text : List ℕ) (rows : List (ℕ × Frame)) : Type 0 where
  written : List Written
  in_full : List RawFrame
  stand : grammar.AreFrames known at text written
  full : expanded next before written ≡ Ok in_full
  alike : Alike (IsFrame r code first) in_full rows
  many : length written ≡ length rows

abbrev fully : RawFrame → Result RawFrame FrameStop
fully f = Ok f

abbrev all_fully : List RawFrame → Result (List RawFrame) FrameStop
all_fully fs = Ok fs

full_is : (next : ℕ) (before : List RawType) (delta_at offset : ℕ) (locals stack : Entries) → next ≤ offset → offset ≤ 65535
    → in_full next before (record { delta_at = delta_at; delta = offset - next; locals = Full locals; stack = stack }) ≡ fully (record { offset = offset; locals = locals.types; stack = stack.types })
unfolding in_full
full_is next before delta_at offset locals stack le small =
    let sum : next + (offset - next) ≡ offset = omega arith in
    let test : nat_lt 65535 offset ≡ false = le-ltb 65535 offset small in
    rw (sum, test) refl

frames_stand : (r : Pool) (layout : CodeLayout) (insns : List Insn) (first : List VType) (known at next : ℕ) (before : List RawType) (rows : List (ℕ × Frame)) (text : List ℕ) → LaysOut layout insns → layout.size ≤ 65535 → All (ShapedFrame insns) rows → Ordered layout next rows
    → Each (Spelled r layout insns first) text (zip (next ∷ map (behind_row layout) rows) rows) → Stand r (insns, offsets layout) first known at next before text rows
unfolding expanded
frames_stand r layout insns first known at next before [] text lays small shaped ordered h = record { written = []; in_full = []; stand = h; full = refl; alike = tt; many = refl }
frames_stand r layout insns first known at next before (row ∷ rows) text lays small shaped ordered h =
    let code : Code = (insns, offsets layout) in
    let one = h.3 in
    let offset : ℕ = offset_at layout row.0 in
    let locals = counted r code first (at + 1 + 2) one.locals row.1.locals one.locals_are in
    let stack = counted r code first (at + 1 + 2 + length one.locals) one.stack row.1.stack one.stack_is in
    let written : Written = record {
      delta_at = at + 1;
      delta = offset - next;
      locals = Full (entries_at (at + 1 + 2) locals.types);
      stack = entries_at (at + 1 + 2 + length one.locals) stack.types;
    } in
    let full : RawFrame = record { offset = offset; locals = locals.types; stack = stack.types } in
    let shaped_row = All-head (ShapedFrame insns) row rows shaped in
    let within : offset ≤ 65535 = lays_small layout insns 65535 lays small row.0 in
    let is_full : in_full next before written ≡ fully full = full_is next before (at + 1) offset (entries_at (at + 1 + 2) locals.types) (entries_at (at + 1 + 2 + length one.locals) stack.types) ordered.0 within in
    let more = frames_stand r layout insns first (length locals.types) (at + length h.0) (offset + 1) locals.types rows h.1 lays small (All-tail (ShapedFrame insns) row rows shaped) ordered.1 h.4 in
    let begins = lays_found layout insns lays row.0 (let a = shaped_row.at in omega (arith, lays_length layout insns lays)) in
    record {
      written = written ∷ more.written;
      in_full = full ∷ more.in_full;
      stand = (
        h.0,
        h.1,
        h.2,
        record {
          tag = 255;
          form = one.delta ++ (one.locals ++ one.stack);
          spelled = one.spelled;
          byte = lit< tt;
          form_is = record {
            delta = one.delta;
            locals = one.locals;
            stack = one.stack;
            entries = entries_at (at + 1 + 2) locals.types;
            spelled = refl;
            delta_at = refl;
            delta_is = one.delta_is;
            locals_are = refl;
            entries_are = locals.stand;
            stack_is = stack.stand;
          };
        },
        more.stand,
      );
      full = rw (is_full, more.full) refl;
      alike = (record { begins = begins; locals_are = locals.alike; stack_is = stack.alike }, more.alike);
      many = omega (arith, more.many);
    }

-- ---- frames that ascend by their instructions do so by their offsets

ordered_above : (layout : CodeLayout) (insns : List Insn) (last : ℕ) (rows : List (ℕ × Frame)) → LaysOut layout insns → All (ShapedFrame insns) rows → AscendAbove (pos last) (map place_of rows) → Ordered layout (offset_at layout last + 1) rows
ordered_above layout insns last [] lays shaped h = tt
ordered_above layout insns last (row ∷ rows) lays shaped h =
    let at = (All-head (ShapedFrame insns) row rows shaped).at in
    let above : pos last <ℤ pos row.0 = h.0 in
    let behind : offset_at layout last < offset_at layout row.0 = lays_ascend layout insns last row.0 lays (omega (arith, ints)) at in
    (omega arith, ordered_above layout insns row.0 rows lays (All-tail (ShapedFrame insns) row rows shaped) h.1)

pub ordered : (layout : CodeLayout) (insns : List Insn) (rows : List (ℕ × Frame)) → LaysOut layout insns → All (ShapedFrame insns) rows → Ascend (map place_of rows) → Ordered layout 0 rows
ordered layout insns [] lays shaped h = tt
ordered layout insns (row ∷ rows) lays shaped h = (omega arith, ordered_above layout insns row.0 rows lays (All-tail (ShapedFrame insns) row rows shaped) h)

-- ---- the table

rows_claims : (layout : CodeLayout) (insns : List Insn) (first : List VType) (nexts : List ℕ) (rows : List (ℕ × Frame)) → LaysOut layout insns → All (ShapedFrame insns) rows → AllClaims (λ r. Spelled r layout insns first) (spell_frame layout) (zip nexts rows)
rows_claims layout insns first [] rows lays shaped = All-nil _
rows_claims layout insns first (next ∷ nexts) [] lays shaped = All-nil _
rows_claims layout insns first (next ∷ nexts) (row ∷ rows) lays shaped =
    All-cons (λ (x : ℕ × (ℕ × Frame)). Claims (λ r text. Spelled r layout insns first text x) (spell_frame layout x)) (next, row) (zip nexts rows)
    (frame_claims layout insns first (next, row) lays (All-head (ShapedFrame insns) row rows shaped))
    (rows_claims layout insns first nexts rows lays (All-tail (ShapedFrame insns) row rows shaped))

pub frames_claims : (layout : CodeLayout) (insns : List Insn) (first : List VType) (rows : List (ℕ × Frame)) → LaysOut layout insns → layout.size ≤ 65535 → All (ShapedFrame insns) rows → Ascend (map place_of rows) → Claims (λ r text. AreFrames r (insns, offsets layout) first text rows) (spell_frames layout rows)
unfolding spell_frames
frames_claims layout insns first rows lays small shaped ascend =
    claims_as
    (Then (λ r count. IsU16 count (length rows)) (λ count. Then (λ r frames. Each (Spelled r layout insns first) frames (placed_rows layout rows)) (λ frames r text. (count ++ frames) ≡ text)))
    (λ r text. AreFrames r (insns, offsets layout) first text rows) (spell_frames layout rows)
    (λ r text h.
    let s = frames_stand r layout insns first (length (numbered 0 first)) 2 0 (numbered 0 first) rows h.2.0 lays small shaped (ordered layout insns rows lays shaped ascend) h.2.1 in
    record {
      written = s.written;
      in_full = s.in_full;
      table_is = record { count = h.0; entries = h.2.0; spelled = sym h.2.2; count_is = subst (λ (n : ℕ). IsU16 h.0 n) (sym s.many) h.1; frames_are = s.stand };
      expanded_are = s.full;
      frames_are = s.alike;
    })
    (then_claims (λ r count. IsU16 count (length rows)) _ (spell_u16 (length rows)) _ (u16_claims (length rows))
    (λ count. then_claims (λ r frames. Each (Spelled r layout insns first) frames (placed_rows layout rows)) _ (spell_each (spell_frame layout) (placed_rows layout rows)) _
    (each_claims (λ r. Spelled r layout insns first) (spell_frame layout) (placed_rows layout rows) (rows_claims layout insns first (0 ∷ map (behind_row layout) rows) rows lays shaped))
    (λ frames. done_claims (count ++ frames))))
