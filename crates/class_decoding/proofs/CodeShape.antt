-- Code that was read has its shape.
use Rattle.std.proofs.Common.{◌≡◌, ℕ, ◌+◌, ◌<◌, ◌≤◌, Bool, true, false, cond, List, [], ◌∷◌, length, map, All, Option, Some, None, refl, sym, subst, arith}
use Rattle.std.specs.Prelude.{◌==◌, slice_get, pos, ◌<ℤ◌}
use Rattle.std.proofs.lemmas.Int.{ints}
use Rattle.std.proofs.lemmas.List.Elements.{All-nil, All-cons, All-append, All-get_or}
use Rattle.std.proofs.lemmas.Option.{slice_get_within, get_or_from_slice_get}
use Rattle.class_model.specs.declared.class.CodeDef.{CodeDef}
use Rattle.class_model.specs.declared.class.Frame.{Frame}
use Rattle.class_model.specs.declared.class.Handler.{Handler}
use Rattle.class_model.specs.declared.class.VType.{VType}
use Rattle.class_model.specs.declared.insn.Insn.{Insn}
use Rattle.class_model.specs.Descriptor.{IsClassName, IsMethodType}
use Rattle.const_pool.specs.Pool.{Pool}
use Rattle.class_attributes.specs.Attributes.{contents, AtMostOne}
use Rattle.insn_code.specs.Offsets.{Offsets, start_number}
use Rattle.insn_code.specs.Linking.{Code, AreInsns}
use Rattle.code_tables.specs.CodeTables.{Begins, IsHandler, IsLine, AreLines}
use Rattle.stack_maps.specs.declared.frame.RawType.{RawType}
use Rattle.stack_maps.specs.declared.frame.RawType.TheVariants as raw
use Rattle.stack_maps.specs.declared.frame.RawFrame.{RawFrame}
use Rattle.stack_maps.specs.declared.written.Written.{Written}
use Rattle.stack_maps.specs.Expand.{locals_after, expanded}
use Rattle.stack_maps.specs.Spelling.{Ascending}
use Rattle.stack_maps.proofs.ExpandLoops.{well}
use Rattle.stack_maps.proofs.TableLaws.{well_is}
use Rattle.stack_maps.proofs.MarkLaws.{expands_is}
use Rattle.class_shape.specs.ShapedInsn.{IsTarget, AscendAbove, Ascend}
use Rattle.class_shape.specs.Shaped.{ShapedHandler, ShapedType, ShapedFrame, ShapedCode, place_of}
use Rattle.class_file.specs.declared.method.MethodHead.{MethodHead}
use Rattle.class_file.specs.ClassBytes.{listed}
use Rattle.frame_tables.specs.FirstFrame.{first_types}
use Rattle.frame_tables.specs.FrameTable.{numbered, entry_of, IsVType, Alike, IsFrame, AreFrames}
use Rattle.code_attribute.specs.CodeContent.{stack_map_table, line_number_table, AllJoined, IsCodeContent}
use Rattle.class_decoding.proofs.Counts.{of_each}
use Rattle.class_decoding.proofs.TypeShape.{type_shaped, first_shaped}
use Rattle.class_decoding.proofs.StartOrder.{Rises, placed_rise, found, numbers_rise}
use Rattle.class_decoding.proofs.InsnShape.{as_many_insns, insns_shaped}

-- ---- handlers and lines

end_within : (code : Offsets) (b : Bool) (offset end : ℕ) → cond b (Some (length code.starts)) (start_number code.starts offset) ≡ Some end → end ≤ length code.starts
end_within code true offset end h = let same : length code.starts ≡ end = cc in omega (arith, same)
end_within code false offset end h = let within = (found code.starts offset end h).within in omega (arith, within)

handler_shaped : (p : Pool) (code : Offsets) (text : List ℕ) (handler : Handler) → IsHandler p code text handler → ShapedHandler (length code.starts) handler
handler_shaped p code text handler h = record {
  ordered = h.ordered;
  within = end_within code (h.end_is.0 == code.size) h.end_is.0 handler.end h.end_is.2;
  target = (found code.starts h.target_is.0 handler.target h.target_is.2).within;
}

abbrev LineShaped : ℕ → ℕ × ℕ → Type 0
LineShaped n row = IsTarget n row.0

line_shaped : (code : Offsets) (text : List ℕ) (row : ℕ × ℕ) → IsLine code text row → LineShaped (length code.starts) row
line_shaped code text row h = (found code.starts h.3.0 row.0 h.3.2).within

lines_shaped : (code : Offsets) (cs : List (List ℕ)) (rows : List (ℕ × ℕ)) → AllJoined (AreLines code) cs rows → All (LineShaped (length code.starts)) rows
lines_shaped code [] rows h = subst (λ (z : List (ℕ × ℕ)). All (LineShaped (length code.starts)) z) (sym h) (All-nil (LineShaped (length code.starts)))
lines_shaped code (c ∷ cs) rows h =
    let n = length code.starts in
    let one = of_each (IsLine code) (LineShaped n) (line_shaped code) h.3.rest h.0 h.3.each_is in
    subst (λ (z : List (ℕ × ℕ)). All (LineShaped n) z) (sym h.2) (All-append (LineShaped n) h.0 h.1 one (lines_shaped code cs h.1 h.4))

-- ---- frames

entry_shaped : (insns : List Insn) (first : List VType) (k : ℕ) (o : Option VType) → slice_get first k ≡ o → All (ShapedType insns) first → ShapedType insns (entry_of o)
entry_shaped insns first k None is h = tt
entry_shaped insns first k (Some t) is h = subst (λ (z : VType). ShapedType insns z) (get_or_from_slice_get first k t t is) (All-get_or (ShapedType insns) first k t (slice_get_within first k t is) h)

vtype_shaped : (p : Pool) (code : Code) (first : List VType) → All (ShapedType code.0) first → (t : RawType) (v : VType) → IsVType p code first t v → ShapedType code.0 v
vtype_shaped p code first entries raw.Top v h = subst (λ (z : VType). ShapedType code.0 z) (sym h) tt
vtype_shaped p code first entries raw.Int v h = subst (λ (z : VType). ShapedType code.0 z) (sym h) tt
vtype_shaped p code first entries raw.Long v h = subst (λ (z : VType). ShapedType code.0 z) (sym h) tt
vtype_shaped p code first entries raw.Null v h = subst (λ (z : VType). ShapedType code.0 z) (sym h) tt
vtype_shaped p code first entries raw.UninitThis v h = subst (λ (z : VType). ShapedType code.0 z) (sym h) tt
vtype_shaped p code first entries (raw.Object k) v h = subst (λ (z : VType). ShapedType code.0 z) (sym h.2) (type_shaped p k h.0 h.1)
vtype_shaped p code first entries (raw.Uninit offset) v h = subst (λ (z : VType). ShapedType code.0 z) (sym h.3) (h.2)
vtype_shaped p code first entries (raw.First k) v h = subst (λ (z : VType). ShapedType code.0 z) (sym h) (entry_shaped code.0 first k (slice_get first k) refl entries)

vtypes_shaped : (p : Pool) (code : Code) (first : List VType) → All (ShapedType code.0) first → (ts : List RawType) (vs : List VType) → Alike (IsVType p code first) ts vs → All (ShapedType code.0) vs
vtypes_shaped p code first entries [] [] h = All-nil (ShapedType code.0)
vtypes_shaped p code first entries [] (v ∷ vs) h = absurd h
vtypes_shaped p code first entries (t ∷ ts) [] h = absurd h
vtypes_shaped p code first entries (t ∷ ts) (v ∷ vs) h = All-cons (ShapedType code.0) v vs (vtype_shaped p code first entries t v h.0) (vtypes_shaped p code first entries ts vs h.1)

frame_shaped : (p : Pool) (code : Code) (first : List VType) → length code.1.starts ≡ length code.0 → All (ShapedType code.0) first → (f : RawFrame) (frame : ℕ × Frame) → IsFrame p code first f frame → ShapedFrame code.0 frame
frame_shaped p code first same entries f frame h = record {
  at = subst (λ (n : ℕ). IsTarget n frame.0) same (found code.1.starts f.offset frame.0 h.begins).within;
  locals = vtypes_shaped p code first entries f.locals frame.1.locals h.locals_are;
  stack = vtypes_shaped p code first entries f.stack frame.1.stack h.stack_is;
}

frames_shaped : (p : Pool) (code : Code) (first : List VType) → length code.1.starts ≡ length code.0 → All (ShapedType code.0) first → (fs : List RawFrame) (frames : List (ℕ × Frame)) → Alike (IsFrame p code first) fs frames → All (ShapedFrame code.0) frames
frames_shaped p code first same entries [] [] h = All-nil (ShapedFrame code.0)
frames_shaped p code first same entries [] (x ∷ frames) h = absurd h
frames_shaped p code first same entries (f ∷ fs) [] h = absurd h
frames_shaped p code first same entries (f ∷ fs) (x ∷ frames) h = All-cons (ShapedFrame code.0) x frames (frame_shaped p code first same entries f x h.0) (frames_shaped p code first same entries fs frames h.1)

offsets_ascend : (next : ℕ) (before : List RawType) (ws : List Written) (fs : List RawFrame) → expanded next before ws ≡ well fs → Ascending next fs
unfolding expanded
offsets_ascend next before [] fs h = subst (λ (z : List RawFrame). Ascending next z) (well_is [] fs h) tt
offsets_ascend next before (w ∷ ws) fs h =
    let x = expands_is next before w ws fs h in
    subst (λ (z : List RawFrame). Ascending next z) x.frames_are (omega arith, offsets_ascend (next + w.delta + 1) (locals_after before w.locals) ws x.others x.others_are)

below : (n m : ℕ) → n < m → pos n <ℤ pos m
below n m lt = omega (arith, ints)

-- behind a frame of a number at an offset
numbers_ascend : (p : Pool) (code : Code) (first : List VType) (offset number : ℕ) → Rises 0 code.1.starts → Begins code.1 offset number → (fs : List RawFrame) (frames : List (ℕ × Frame)) → Ascending (offset + 1) fs → Alike (IsFrame p code first) fs frames → AscendAbove (pos number) (map place_of frames)
numbers_ascend p code first offset number rises begins [] [] up h = tt
numbers_ascend p code first offset number rises begins [] (x ∷ frames) up h = absurd h
numbers_ascend p code first offset number rises begins (f ∷ fs) [] up h = absurd h
numbers_ascend p code first offset number rises begins (f ∷ fs) (x ∷ frames) up h =
    let le = up.0 in
    let lt = numbers_rise code.1.starts offset f.offset number x.0 rises begins h.0.begins (omega (arith, le)) in
    (below number x.0 lt, numbers_ascend p code first f.offset x.0 rises h.0.begins fs frames up.1 h.1)

frames_ascend : (p : Pool) (code : Code) (first : List VType) → Rises 0 code.1.starts → (fs : List RawFrame) (frames : List (ℕ × Frame)) → Ascending 0 fs → Alike (IsFrame p code first) fs frames → Ascend (map place_of frames)
frames_ascend p code first rises [] [] up h = tt
frames_ascend p code first rises [] (x ∷ frames) up h = absurd h
frames_ascend p code first rises (f ∷ fs) [] up h = absurd h
frames_ascend p code first rises (f ∷ fs) (x ∷ frames) up h = numbers_ascend p code first f.offset x.0 rises h.0.begins fs frames up.1 h.1

record FramesShaped (insns : List Insn) (frames : List (ℕ × Frame)) : Type 0 where
  each : All (ShapedFrame insns) frames
  ascend : Ascend (map place_of frames)

table_shaped : (p : Pool) (code : Code) (first : List VType) → Rises 0 code.1.starts → length code.1.starts ≡ length code.0 → All (ShapedType code.0) first → (text : List ℕ) (frames : List (ℕ × Frame)) → AreFrames p code first text frames → FramesShaped code.0 frames
table_shaped p code first rises same entries text frames h = record {
  each = frames_shaped p code first same entries h.in_full frames h.frames_are;
  ascend = frames_ascend p code first rises h.in_full frames (offsets_ascend 0 (numbered 0 first) h.written h.in_full h.expanded_are) h.frames_are;
}

listed_shaped : (p : Pool) (code : Code) (first : List VType) → Rises 0 code.1.starts → length code.1.starts ≡ length code.0 → All (ShapedType code.0) first → (cs : List (List ℕ)) (found : Option (List (ℕ × Frame))) → AtMostOne (AreFrames p code first) cs found → FramesShaped code.0 (listed found)
listed_shaped p code first rises same entries [] None h = record { each = All-nil (ShapedFrame code.0); ascend = tt }
listed_shaped p code first rises same entries (c ∷ cs) None h = record { each = All-nil (ShapedFrame code.0); ascend = tt }
listed_shaped p code first rises same entries [] (Some frames) h = absurd h
listed_shaped p code first rises same entries (c ∷ []) (Some frames) h = table_shaped p code first rises same entries c frames h
listed_shaped p code first rises same entries (c ∷ d ∷ cs) (Some frames) h = absurd h

-- ---- code

rises_of : (p : Pool) (text starts : List ℕ) (insns : List Insn) → AreInsns p text starts insns → Rises 0 starts
rises_of p text starts insns h = subst (λ (z : List ℕ). Rises 0 z) h.starts_are (placed_rise p 0 text h.placed h.placed_are)

pub code_shaped : (p : Pool) (class : List ℕ) (head : MethodHead) (text : List ℕ) (code : CodeDef) → IsClassName class → IsMethodType head.desc → IsCodeContent p class head text code → ShapedCode code
code_shaped p class head text code name desc h =
    let insns = h.insns_are.insns_are in
    let starts = h.offsets.starts in
    let whole : Code = (code.insns, h.offsets) in
    let first = first_types class head in
    let same = as_many_insns p h.insns starts code.insns insns in
    let found_frames = listed_shaped p whole first (rises_of p h.insns starts code.insns insns) same (first_shaped code.insns class head name desc) (contents stack_map_table h.attributes_are.attributes) h.frames h.attributes_are.frames_are in
    let frames : FramesShaped code.insns code.frames = subst (λ (z : List (ℕ × Frame)). FramesShaped code.insns z) (sym h.frames_are) found_frames in
    record {
      insns = insns_shaped p h.insns starts code.insns insns;
      handlers = subst (λ (n : ℕ). All (ShapedHandler n) code.handlers) same (of_each (IsHandler p h.offsets) (ShapedHandler (length starts)) (handler_shaped p h.offsets) h.handlers_are.rest code.handlers h.handlers_are.each_is);
      frames = frames.each;
      ascend = frames.ascend;
      lines = subst (λ (n : ℕ). All (LineShaped n) code.lines) same (lines_shaped h.offsets (contents line_number_table h.attributes_are.attributes) code.lines h.attributes_are.lines_are);
    }
