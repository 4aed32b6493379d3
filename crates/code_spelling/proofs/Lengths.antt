-- How many bytes the content of a Code attribute takes, and the attributes in it.
use Rattle.std.proofs.Common.{◌≡◌, ◌∙◌, ℕ, ◌+◌, ◌*◌, ◌<◌, ◌≤◌, ◌^◌, Bool, true, false, cond, List, [], ◌∷◌, ◌++◌, length, map, refl, sym, ap, subst, arith, ltb, length-append}
use Rattle.std.specs.Prelude.{zip, sum_by}
use Rattle.std.specs.Int.{w16, w32, to_be_bytes}
use Rattle.std.proofs.lemmas.List.{length-map}
use Rattle.std.proofs.lemmas.List.Sums.{sum_by-cons}
use Rattle.class_model.specs.declared.class.CodeDef.{CodeDef}
use Rattle.class_model.specs.declared.class.Frame.{Frame}
use Rattle.class_model.specs.declared.class.Handler.{Handler}
use Rattle.class_model.specs.declared.class.VType.{VType}
use Rattle.class_model.specs.declared.class.VType.TheVariants as types
use Rattle.class_model.specs.declared.insn.Insn.{Insn}
use Rattle.class_limits.specs.Sizes.{CodeLayout, offset_at, size_at, end_from, offsets_from, code_size, layout_of}
use Rattle.class_limits.specs.Lengths.{table_length, type_length, frame_length, frames_length, whole_length, code_length}
use Rattle.const_pool.specs.Pool.{Pool}
use Rattle.class_names.specs.Pieces.{joined}
use Rattle.opcode_table.specs.Writing.{spelling}
use Rattle.pool_names.specs.Adding.{Adding, ◌>>=◌, done, unspelled, spell_u16, spell_u32, spell_each}
use Rattle.pool_names.specs.Spelling.{spell_class, spell_type, spell_bytes}
use Rattle.pool_names.proofs.Claiming.{given, bind_is}
use Rattle.class_spelling.specs.Forms.{spell_index, spell_optional, spell_table, framed, spell_attribute, spell_when_any}
use Rattle.code_attribute.specs.CodeContent.{stack_map_table, line_number_table}
use Rattle.insn_spelling.specs.Raw.{raw_of}
use Rattle.insn_spelling.specs.Conditions.{is_in_range, LaysOut}
use Rattle.insn_spelling.specs.Spelling.{index_of, spell_indexed, spell_insn, spell_placed, spell_insns}
use Rattle.insn_spelling.proofs.SizeLaws.{sized}
use Rattle.insn_spelling.proofs.LayoutLaws.{layout_is}
use Rattle.code_spelling.specs.Tables.{spell_offset, spell_handler, spell_handlers, spell_line, spell_lines}
use Rattle.code_spelling.specs.Frames.{tagged, spell_vtype, spell_vtypes, spell_frame, behind_row, placed_rows, spell_frames}
use Rattle.code_spelling.specs.Content.{spell_code_attributes, spell_content, spell_code}

-- what is spelled takes n bytes
pub record Takes (n : ℕ) (m : Adding (List ℕ)) : Type 0 where
  pub bytes : (p q : Pool) (text : List ℕ) → m p ≡ given q text → length text ≡ n

given_text : (p q : Pool) (a b : List ℕ) → given p a ≡ given q b → a ≡ b
given_text p q a b h = let pairs : (let x : Pool × List ℕ = (p, a) in x) ≡ (q, b) = cc in ap (λ (x : Pool × List ℕ). x.1) pairs

done_takes : (n : ℕ) (text : List ℕ) → length text ≡ n → Takes n (done text)
done_takes n text is = record { bytes = λ p q other h. ap length (sym (given_text p q text other h)) ∙ is }

if_takes : (n : ℕ) (b : Bool) (text : List ℕ) → length text ≡ n → Takes n (cond b (done text) unspelled)
if_takes n true text is = done_takes n text is
if_takes n false text is = record { bytes = λ p q other h. absurd cc }

u16_takes : (n : ℕ) → Takes 2 (spell_u16 n)
unfolding spell_u16
u16_takes n = if_takes 2 (ltb n 65536) (to_be_bytes w16 n) refl

u32_takes : (n : ℕ) → Takes 4 (spell_u32 n)
unfolding spell_u32
u32_takes n = if_takes 4 (ltb n 4294967296) (to_be_bytes w32 n) refl

-- whatever comes first, what comes then takes so many
behind_takes : {A : Type 0} (n : ℕ) (first : Adding A) (rest : A → Adding (List ℕ)) → ((a : A) → Takes n (rest a)) → Takes n (first >>= rest)
behind_takes n first rest each = record {
  bytes = λ p q text h. let parts = bind_is (first p) rest q text h in (each parts.1).bytes parts.0 q text parts.3;
}

-- first some bytes, and then what goes on from them
then_takes : (n m : ℕ) (first : Adding (List ℕ)) (rest : List ℕ → Adding (List ℕ)) → Takes n first → ((text : List ℕ) → length text ≡ n → Takes m (rest text)) → Takes m (first >>= rest)
then_takes n m first rest a b = record {
  bytes = λ p q text h.
      let parts = bind_is (first p) rest q text h in
      (b parts.1 (a.bytes p parts.0 parts.1 parts.2)).bytes parts.0 q text parts.3;
}

index_takes : (put : Adding ℕ) → Takes 2 (spell_index put)
unfolding spell_index
index_takes put = behind_takes 2 put spell_u16 u16_takes

each_takes : {A : Type 0} (f : A → ℕ) (spell : A → Adding (List ℕ)) (xs : List A) → ((x : A) → Takes (f x) (spell x)) → Takes (sum_by f xs) (spell_each spell xs)
unfolding spell_each
each_takes f spell [] each = done_takes 0 [] refl
each_takes f spell (x ∷ xs) each =
    then_takes (f x) (sum_by f (x ∷ xs)) (spell x) _ (each x)
    (λ first one. then_takes (sum_by f xs) (sum_by f (x ∷ xs)) (spell_each spell xs) _ (each_takes f spell xs each)
    (λ others more. done_takes (sum_by f (x ∷ xs)) (first ++ others) (omega (arith, length-append first others, one, more, sum_by-cons f x xs))))

table_takes : {A : Type 0} (f : A → ℕ) (spell : A → Adding (List ℕ)) (xs : List A) → ((x : A) → Takes (f x) (spell x)) → Takes (2 + sum_by f xs) (spell_table spell xs)
unfolding spell_table
table_takes f spell xs each =
    then_takes 2 (2 + sum_by f xs) (spell_u16 (length xs)) _ (u16_takes (length xs))
    (λ count two. then_takes (sum_by f xs) (2 + sum_by f xs) (spell_each spell xs) _ (each_takes f spell xs each)
    (λ rows more. done_takes (2 + sum_by f xs) (count ++ rows) (omega (arith, length-append count rows, two, more))))

same_sum : {A : Type 0} (n : ℕ) (xs : List A) → sum_by (λ x. n) xs ≡ n * length xs
same_sum n [] = omega arith
same_sum {A} n (x ∷ xs) = omega (arith, same_sum n xs, sum_by-cons (λ (y : A). n) x xs)

-- ---- instructions

insn_takes : (layout : CodeLayout) (pc : ℕ) (insn : Insn) → Takes (size_at layout.wide_goto pc insn) (spell_insn layout pc insn)
unfolding spell_insn
insn_takes layout pc insn =
    behind_takes (size_at layout.wide_goto pc insn) (index_of insn) (spell_indexed layout pc insn)
    (λ k. if_takes (size_at layout.wide_goto pc insn) (is_in_range insn) (spelling pc (raw_of layout pc k insn)) (sized layout pc k insn))

-- the sizes of instructions from an offset on
sizes : (wide : Bool) (pc : ℕ) (insns : List Insn) → pc + sum_by (λ x. size_at wide x.0 x.1) (zip (offsets_from wide pc insns) insns) ≡ end_from wide pc insns
unfolding offsets_from end_from
sizes wide pc [] = omega arith
sizes wide pc (insn ∷ insns) =
    let next : ℕ = pc + size_at wide pc insn in
    omega (arith, sizes wide next insns, sum_by-cons (λ (x : ℕ × Insn). size_at wide x.0 x.1) (pc, insn) (zip (offsets_from wide next insns) insns))

insns_take : (layout : CodeLayout) (insns : List Insn) → LaysOut layout insns → Takes layout.size (spell_insns layout insns)
unfolding spell_insns
insns_take layout insns lays =
    let placed : List (ℕ × Insn) = zip layout.starts insns in
    let all = each_takes (λ (x : ℕ × Insn). size_at layout.wide_goto x.0 x.1) (spell_placed layout) placed (λ x. insn_takes layout x.0 x.1) in
    let sum : sum_by (λ (x : ℕ × Insn). size_at layout.wide_goto x.0 x.1) placed ≡ layout.size = ap (λ (xs : List ℕ). sum_by (λ (x : ℕ × Insn). size_at layout.wide_goto x.0 x.1) (zip xs insns)) lays.starts_are ∙ omega (arith, sizes layout.wide_goto 0 insns, lays.size_is) in
    subst (λ (n : ℕ). Takes n (spell_each (spell_placed layout) placed)) sum all

-- ---- handlers and lines

handler_takes : (layout : CodeLayout) (handler : Handler) → Takes 8 (spell_handler layout handler)
unfolding spell_handler
handler_takes layout handler =
    then_takes 2 8 (spell_offset layout handler.start) _ (u16_takes (offset_at layout handler.start))
    (λ a two. then_takes 2 8 (spell_offset layout handler.end) _ (u16_takes (offset_at layout handler.end))
    (λ b four. then_takes 2 8 (spell_offset layout handler.target) _ (u16_takes (offset_at layout handler.target))
    (λ c six. then_takes 2 8 (spell_index (spell_optional spell_class handler.caught)) _ (index_takes (spell_optional spell_class handler.caught))
    (λ d eight. done_takes 8 (joined (a ∷ b ∷ c ∷ d ∷ [])) (simp length-append (omega (arith, two, four, six, eight)))))))

handlers_take : (layout : CodeLayout) (handlers : List Handler) → Takes (2 + 8 * length handlers) (spell_handlers layout handlers)
handlers_take layout handlers = subst (λ (n : ℕ). Takes (2 + n) (spell_handlers layout handlers)) (same_sum 8 handlers) (table_takes (λ (h : Handler). 8) (spell_handler layout) handlers (handler_takes layout))

line_takes : (layout : CodeLayout) (row : ℕ × ℕ) → Takes 4 (spell_line layout row)
unfolding spell_line
line_takes layout row =
    then_takes 2 4 (spell_offset layout row.0) _ (u16_takes (offset_at layout row.0))
    (λ a two. then_takes 2 4 (spell_u16 row.1) _ (u16_takes row.1)
    (λ b four. done_takes 4 (a ++ b) (omega (arith, length-append a b, two, four))))

lines_take : (layout : CodeLayout) (lines : List (ℕ × ℕ)) → Takes (2 + 4 * length lines) (spell_lines layout lines)
lines_take layout lines = subst (λ (n : ℕ). Takes (2 + n) (spell_lines layout lines)) (same_sum 4 lines) (table_takes (λ (row : ℕ × ℕ). 4) (spell_line layout) lines (line_takes layout))

-- ---- frames

tagged_takes : (tag : ℕ) (spell : Adding (List ℕ)) → Takes 2 spell → Takes 3 (tagged tag spell)
tagged_takes tag spell takes = then_takes 2 3 spell _ takes (λ rest two. done_takes 3 (tag ∷ rest) (omega (arith, two)))

vtype_takes : (layout : CodeLayout) (t : VType) → Takes (type_length t) (spell_vtype layout t)
unfolding spell_vtype
vtype_takes layout types.Top = done_takes 1 (0 ∷ []) refl
vtype_takes layout types.Int = done_takes 1 (1 ∷ []) refl
vtype_takes layout types.Long = done_takes 1 (4 ∷ []) refl
vtype_takes layout types.Null = done_takes 1 (5 ∷ []) refl
vtype_takes layout types.UninitThis = done_takes 1 (6 ∷ []) refl
vtype_takes layout (types.Ref ty) = tagged_takes 7 (spell_index (spell_type ty)) (index_takes (spell_type ty))
vtype_takes layout (types.Uninit at) = tagged_takes 8 (spell_offset layout at) (u16_takes (offset_at layout at))

frame_takes : (layout : CodeLayout) (placed : ℕ × (ℕ × Frame)) → Takes (frame_length placed.1) (spell_frame layout placed)
unfolding spell_frame
frame_takes layout placed =
    let frame = placed.1.1 in
    let n : ℕ = frame_length placed.1 in
    let ls : ℕ = sum_by type_length frame.locals in
    let ss : ℕ = sum_by type_length frame.stack in
    then_takes 2 n (spell_u16 _) _ (u16_takes _)
    (λ delta two. then_takes (2 + ls) n (spell_vtypes layout frame.locals) _ (table_takes type_length (spell_vtype layout) frame.locals (vtype_takes layout))
    (λ locals more. then_takes (2 + ss) n (spell_vtypes layout frame.stack) _ (table_takes type_length (spell_vtype layout) frame.stack (vtype_takes layout))
    (λ stack rest. done_takes n (255 ∷ (delta ++ (locals ++ stack))) (omega (arith, length-append delta (locals ++ stack), length-append locals stack, two, more, rest)))))

frames_sum : (nexts : List ℕ) (rows : List (ℕ × Frame)) → length rows ≤ length nexts → sum_by (λ x. frame_length x.1) (zip nexts rows) ≡ sum_by frame_length rows
frames_sum [] [] same = refl
frames_sum [] (row ∷ rows) same = absurd (omega arith)
frames_sum (next ∷ nexts) [] same = refl
frames_sum (next ∷ nexts) (row ∷ rows) same =
    omega (arith, frames_sum nexts rows (omega arith), sum_by-cons (λ (x : ℕ × (ℕ × Frame)). frame_length x.1) (next, row) (zip nexts rows), sum_by-cons frame_length row rows)

frames_take : (layout : CodeLayout) (rows : List (ℕ × Frame)) → Takes (2 + sum_by frame_length rows) (spell_frames layout rows)
unfolding spell_frames
frames_take layout rows =
    let placed = placed_rows layout rows in
    let n : ℕ = sum_by frame_length rows in
    let all : Takes n (spell_each (spell_frame layout) placed) = subst (λ (k : ℕ). Takes k (spell_each (spell_frame layout) placed)) (frames_sum (0 ∷ map (behind_row layout) rows) rows (omega (arith, length-map rows (behind_row layout)))) (each_takes (λ (x : ℕ × (ℕ × Frame)). frame_length x.1) (spell_frame layout) placed (frame_takes layout)) in
    then_takes 2 (2 + n) (spell_u16 (length rows)) _ (u16_takes (length rows))
    (λ count two. then_takes n (2 + n) (spell_each (spell_frame layout) placed) _ all
    (λ frames more. done_takes (2 + n) (count ++ frames) (omega (arith, length-append count frames, two, more))))

-- ---- attributes

framed_takes : (name : ℕ) (content : List ℕ) → Takes (6 + length content) (framed name content)
unfolding framed
framed_takes name content =
    then_takes 2 (6 + length content) (spell_u16 name) _ (u16_takes name)
    (λ index two. then_takes 4 (6 + length content) (spell_u32 (length content)) _ (u32_takes (length content))
    (λ len four. done_takes (6 + length content) (joined (index ∷ len ∷ content ∷ [])) (simp length-append (omega (arith, two, four)))))

attribute_takes : (n : ℕ) (name : List ℕ) (spell : Adding (List ℕ)) → Takes n spell → Takes (6 + n) (spell_attribute name spell)
unfolding spell_attribute
attribute_takes n name spell takes =
    behind_takes (6 + n) (spell_bytes name) _
    (λ k. then_takes n (6 + n) spell (framed k) takes
    (λ content is. subst (λ (m : ℕ). Takes (6 + m) (framed k content)) is (framed_takes k content)))

frames_attribute : (layout : CodeLayout) (rows : List (ℕ × Frame)) → Takes (whole_length (frames_length rows)) (spell_when_any stack_map_table (spell_frames layout) rows)
unfolding spell_when_any
frames_attribute layout [] = done_takes 0 [] refl
frames_attribute layout (row ∷ rows) = attribute_takes (2 + sum_by frame_length (row ∷ rows)) stack_map_table (spell_frames layout (row ∷ rows)) (frames_take layout (row ∷ rows))

lines_attribute : (layout : CodeLayout) (lines : List (ℕ × ℕ)) → Takes (whole_length (table_length 4 lines)) (spell_when_any line_number_table (spell_lines layout) lines)
unfolding spell_when_any
lines_attribute layout [] = done_takes 0 [] refl
lines_attribute layout (row ∷ lines) = attribute_takes (2 + 4 * length (row ∷ lines)) line_number_table (spell_lines layout (row ∷ lines)) (lines_take layout (row ∷ lines))

attributes_take : (layout : CodeLayout) (frames : List (ℕ × Frame)) (lines : List (ℕ × ℕ)) → Takes (2 + whole_length (frames_length frames) + whole_length (table_length 4 lines)) (spell_code_attributes layout frames lines)
unfolding spell_code_attributes
attributes_take layout frames lines =
    let f : ℕ = whole_length (frames_length frames) in
    let l : ℕ = whole_length (table_length 4 lines) in
    then_takes 2 (2 + f + l) (spell_u16 _) _ (u16_takes _)
    (λ count two. then_takes f (2 + f + l) (spell_when_any stack_map_table (spell_frames layout) frames) _ (frames_attribute layout frames)
    (λ first one. then_takes l (2 + f + l) (spell_when_any line_number_table (spell_lines layout) lines) _ (lines_attribute layout lines)
    (λ second other. done_takes (2 + f + l) (joined (count ∷ first ∷ second ∷ [])) (simp length-append (omega (arith, two, one, other))))))

-- ---- the content

size_is : (code : CodeDef) → (layout_of code).size ≡ code_size code
unfolding layout_of
size_is code = refl

pub code_takes : (code : CodeDef) → Takes (code_length code) (spell_code code)
unfolding spell_content code_length
code_takes code =
    let layout = layout_of code in
    let n : ℕ = 12 + code_size code + 8 * length code.handlers + whole_length (frames_length code.frames) + whole_length (table_length 4 code.lines) in
    then_takes 2 n (spell_u16 code.max_stack) _ (u16_takes code.max_stack)
    (λ a one. then_takes 2 n (spell_u16 code.max_locals) _ (u16_takes code.max_locals)
    (λ b two. then_takes 4 n (spell_u32 layout.size) _ (u32_takes layout.size)
    (λ c three. then_takes layout.size n (spell_insns layout code.insns) _ (insns_take layout code.insns (layout_is code))
    (λ d four. then_takes (2 + 8 * length code.handlers) n (spell_handlers layout code.handlers) _ (handlers_take layout code.handlers)
    (λ e five. then_takes (2 + whole_length (frames_length code.frames) + whole_length (table_length 4 code.lines)) n (spell_code_attributes layout code.frames code.lines) _ (attributes_take layout code.frames code.lines)
    (λ f six. done_takes n (joined (a ∷ b ∷ c ∷ d ∷ e ∷ f ∷ [])) (simp length-append (omega (arith, one, two, three, four, five, six, size_is code)))))))))

-- ---- contents that have a length of four bytes

pub frames_short : (layout : CodeLayout) (rows : List (ℕ × Frame)) → 2 + sum_by frame_length rows ≤ 4294967295 → (p q : Pool) (text : List ℕ) → spell_frames layout rows p ≡ given q text → length text < 2 ^ 32
frames_short layout rows few p q text h = let bytes = (frames_take layout rows).bytes p q text h in omega (arith, bytes)

pub lines_short : (layout : CodeLayout) (lines : List (ℕ × ℕ)) → length lines ≤ 65535 → (p q : Pool) (text : List ℕ) → spell_lines layout lines p ≡ given q text → length text < 2 ^ 32
lines_short layout lines few p q text h = let bytes = (lines_take layout lines).bytes p q text h in omega (arith, bytes)
