-- What it means for the parts of code that no limit is passed.
use Rattle.std.proofs.Common.{◌≡◌, ◌∙◌, ℕ, zero, suc, ◌+◌, ◌<◌, ◌≤◌, ◌^◌, Bool, true, false, List, [], ◌∷◌, ◌++◌, length, map, Option, Some, None, Result, Ok, Err, refl, sym, subst, arith, lit≤}
use Rattle.std.specs.Prelude.{nat_lt, ◌==◌, ◌||◌, All, IfSome, option_map, option_to_list, sum_by, if◌then◌else◌}
use Rattle.std.specs.List.{flat_map, find}
use Rattle.std.proofs.lemmas.Bool.{ltb-false}
use Rattle.std.proofs.lemmas.Bool.Decides.{nat_tests}
use Rattle.std.proofs.lemmas.List.Elements.{All-nil, All-cons, All-head, All-tail}
use Rattle.modified_utf8.specs.Text.{text_bytes}
use Rattle.class_model.specs.Descriptor.{field_descriptor}
use Rattle.class_model.specs.declared.types.BaseType.{BaseType}
use Rattle.class_model.specs.declared.types.BaseType.TheVariants as bases
use Rattle.class_model.specs.declared.types.JType.{JType}
use Rattle.class_model.specs.declared.types.FieldRef.{FieldRef}
use Rattle.class_model.specs.declared.types.MethodRef.{MethodRef}
use Rattle.class_model.specs.declared.class.CodeDef.{CodeDef}
use Rattle.class_model.specs.declared.class.Frame.{Frame}
use Rattle.class_model.specs.declared.class.Handler.{Handler}
use Rattle.class_model.specs.declared.class.VType.{VType}
use Rattle.class_model.specs.declared.class.VType.TheVariants.{Ref}
use Rattle.class_model.specs.declared.insn.Insn.{Insn}
use Rattle.class_model.specs.declared.insn.Insn.TheVariants.{PushString, GetStatic, PutStatic, GetField, PutField, Invoke, New, ANewArray, CheckCast, InstanceOf, MultiNewArray}
use Rattle.class_limits.specs.Sizes.{CodeLayout, end_from, uses_wide_goto, code_size, layout_of}
use Rattle.class_limits.specs.Texts.{name_texts, base_name, class_texts_of, type_texts, desc_texts, insn_texts, handler_texts, vtype_texts, frame_texts, code_texts}
use Rattle.class_limits.specs.Counts.{count_of, frame_counts, code_counts}
use Rattle.class_limits.specs.Lengths.{table_length, frame_length, frames_length, code_length, code_lengths, length_of, lengths_if}
use Rattle.class_limits.specs.Limits.{first_over, long_text, far_in_code}
use Rattle.pool_names.specs.Fits.{FitsText, FitsType, FitsField, FitsMethod}
use Rattle.pool_names.specs.Spelling.{class_text_of}
use Rattle.insn_spelling.specs.Conditions.{FitsTexts, NoneFar, WritableInsns}
use Rattle.insn_spelling.proofs.LayoutLaws.{layout_is, lays_small}
use Rattle.const_pool.specs.Pool.{Pool}
use Rattle.class_file.specs.declared.method.MethodHead.{MethodHead}
use Rattle.code_attribute.specs.CodeContent.{IsCodeContent}
use Rattle.pool_names.specs.Adding.{behind, Unfit}
use Rattle.pool_names.specs.Claims.{Claims}
use Rattle.pool_names.proofs.Claiming.{given}
use Rattle.code_spelling.specs.Content.{spell_content, spell_code}
use Rattle.code_spelling.specs.Writable.{WritableCode, FitsCount, FitsHandler, FitsVType, FitsFrame, FitsCode}
use Rattle.code_spelling.proofs.TableOfFrames.{ordered}
use Rattle.code_spelling.proofs.ContentLaws.{content_claims}
use Rattle.code_spelling.proofs.Lengths.{code_takes}

-- ---- lists

all_front : {A : Type 0} (P : A → Type 0) (xs ys : List A) → All P (xs ++ ys) → All P xs
all_front P [] ys h = All-nil P
all_front P (x ∷ xs) ys h = All-cons P x xs (All-head P x (xs ++ ys) h) (all_front P xs ys (All-tail P x (xs ++ ys) h))

all_behind : {A : Type 0} (P : A → Type 0) (xs ys : List A) → All P (xs ++ ys) → All P ys
all_behind P [] ys h = h
all_behind P (x ∷ xs) ys h = all_behind P xs ys (All-tail P x (xs ++ ys) h)

all_flat : {A B : Type 0} (P : B → Type 0) (Q : A → Type 0) (f : A → List B) → ((x : A) → All P (f x) → Q x) → (xs : List A) → All P (flat_map f xs) → All Q xs
all_flat P Q f each [] h = All-nil Q
all_flat P Q f each (x ∷ xs) h = All-cons Q x xs (each x (all_front P (f x) (flat_map f xs) h)) (all_flat P Q f each xs (all_behind P (f x) (flat_map f xs) h))

-- ---- nothing over a bound

abbrev Within : ℕ → ℕ → Type 0
Within most n = n ≤ most

within_all : (most : ℕ) (ns : List ℕ) → find (nat_lt most) ns ≡ None → All (Within most) ns
within_all most [] h = All-nil (Within most)
within_all most (n ∷ ns) h = by (nat_lt most n) refl (λ g. within_all most ns g)
  where
    by : (b : Bool) → nat_lt most n ≡ b → (find (nat_lt most) ns ≡ None → All (Within most) ns) → All (Within most) (n ∷ ns)
    by true is more = absurd (let found : find (nat_lt most) (n ∷ ns) ≡ Some n = rw is refl in cc)
    by false is more = let rest : find (nat_lt most) (n ∷ ns) ≡ find (nat_lt most) ns = rw is refl in All-cons (Within most) n ns (ltb-false most n is) (more (sym rest ∙ h))

none_told : {A B : Type 0} (f : A → B) (o : Option A) → option_map f o ≡ None → o ≡ None
none_told f None h = refl
none_told f (Some a) h = absurd cc

pub none_over : (most : ℕ) (ns : List ℕ) → first_over most ns ≡ None → All (Within most) ns
unfolding first_over
none_over most ns h = within_all most ns (none_told _ (find (nat_lt most) ns) h)

abbrev Short : List ℕ → Type 0
Short text = length text ≤ 65535

short_of : (texts : List (List ℕ)) → All (Within 65535) (map length texts) → All Short texts
short_of [] h = All-nil Short
short_of (text ∷ texts) h = All-cons Short text texts (All-head (Within 65535) (length text) (map length texts) h) (short_of texts (All-tail (Within 65535) (length text) (map length texts) h))

none_long : (texts : List (List ℕ)) → long_text texts ≡ None → All Short texts
unfolding long_text
none_long texts h = short_of texts (none_over 65535 (map length texts) h)

-- ---- texts

name_fits : (name : List ℕ) → All Short (name_texts name) → FitsText name
unfolding name_texts
name_fits name h = let short = All-head Short (text_bytes name) [] h in omega (arith, short)

no_depth : (depth : ℕ) → (suc depth == 0) ≡ false
no_depth depth = grind (arith, nat_tests)

same_name : (depth : ℕ) (base : BaseType) (ty : JType) → ty.depth ≡ depth → ty.base ≡ base → (if depth == 0 then base_name base else field_descriptor ty) ≡ class_text_of depth base (field_descriptor ty)
unfolding field_descriptor
same_name zero (bases.Class name) ty d b = refl
same_name zero (bases.Primitive primitive) ty d b = rw (d, b) refl
same_name (suc depth) (bases.Class name) ty d b = rw (no_depth depth) refl
same_name (suc depth) (bases.Primitive primitive) ty d b = rw (no_depth depth) refl

class_fits : (ty : JType) → All Short (class_texts_of ty) → FitsType ty
class_fits ty h = let fits = name_fits _ h in subst (λ (name : List ℕ). FitsText name) (same_name ty.depth ty.base ty refl refl) fits

field_fits : (field : FieldRef) → All Short (name_texts field.class ++ name_texts field.name ++ type_texts field.ty) → FitsField field
field_fits field h =
    let front = all_front Short (name_texts field.class ++ name_texts field.name) (type_texts field.ty) h in
    record {
      class = name_fits field.class (all_front Short (name_texts field.class) (name_texts field.name) front);
      name = name_fits field.name (all_behind Short (name_texts field.class) (name_texts field.name) front);
      type = name_fits (field_descriptor field.ty) (all_behind Short (name_texts field.class ++ name_texts field.name) (type_texts field.ty) h);
    }

method_fits : (method : MethodRef) → All Short (class_texts_of method.class ++ name_texts method.name ++ desc_texts method.desc) → FitsMethod method
method_fits method h =
    let front = all_front Short (class_texts_of method.class ++ name_texts method.name) (desc_texts method.desc) h in
    record {
      class = class_fits method.class (all_front Short (class_texts_of method.class) (name_texts method.name) front);
      name = name_fits method.name (all_behind Short (class_texts_of method.class) (name_texts method.name) front);
      desc = name_fits _ (all_behind Short (class_texts_of method.class ++ name_texts method.name) (desc_texts method.desc) h);
    }

insn_fits : (insn : Insn) → All Short (insn_texts insn) → FitsTexts insn
insn_fits (PushString units) h = name_fits units h
insn_fits (GetStatic field) h = field_fits field h
insn_fits (PutStatic field) h = field_fits field h
insn_fits (GetField field) h = field_fits field h
insn_fits (PutField field) h = field_fits field h
insn_fits (Invoke kind method) h = method_fits method h
insn_fits (New class) h = name_fits class h
insn_fits (ANewArray ty) h = class_fits ty h
insn_fits (CheckCast ty) h = class_fits ty h
insn_fits (InstanceOf ty) h = class_fits ty h
insn_fits (MultiNewArray ty dimensions) h = class_fits ty h
insn_fits insn h = tt

handler_fits : (handler : Handler) → All Short (handler_texts handler) → FitsHandler handler
handler_fits handler h = by handler.caught h
  where
    by : (caught : Option (List ℕ)) → All Short (flat_map name_texts (option_to_list caught)) → IfSome caught FitsText
    by None g = tt
    by (Some name) g = name_fits name (all_front Short (name_texts name) [] g)

vtype_fits : (t : VType) → All Short (vtype_texts t) → FitsVType t
vtype_fits (Ref ty) h = class_fits ty h
vtype_fits t h = tt

-- ---- code

record Fit (code : CodeDef) : Type 0 where
  insns : All FitsTexts code.insns
  handlers : All FitsHandler code.handlers
  frames : All (λ row. All FitsVType row.1.locals × All FitsVType row.1.stack) code.frames

fit : (code : CodeDef) → long_text (code_texts code) ≡ None → Fit code
fit code h =
    let i = flat_map insn_texts code.insns in
    let k = flat_map handler_texts code.handlers in
    let f = flat_map frame_texts code.frames in
    let all = none_long (code_texts code) h in
    let front = all_front Short (i ++ k) f all in
    record {
      insns = all_flat Short FitsTexts insn_texts insn_fits code.insns (all_front Short i k front);
      handlers = all_flat Short FitsHandler handler_texts handler_fits code.handlers (all_behind Short i k front);
      frames = all_flat Short (λ row. All FitsVType row.1.locals × All FitsVType row.1.stack) frame_texts (λ row g. (
        all_flat Short FitsVType vtype_texts vtype_fits row.1.locals (all_front Short (flat_map vtype_texts row.1.locals) (flat_map vtype_texts row.1.stack) g),
        all_flat Short FitsVType vtype_texts vtype_fits row.1.stack (all_behind Short (flat_map vtype_texts row.1.locals) (flat_map vtype_texts row.1.stack) g),
      )) code.frames (all_behind Short (i ++ k) f all);
    }

count_fits : {A : Type 0} (xs : List A) → All (Within 65535) (count_of xs) → FitsCount xs
unfolding count_of
count_fits xs h = All-head (Within 65535) (length xs) [] h

-- ---- what the parts of code need so that they can be written

pub record Parts (code : CodeDef) : Type 0 where
  pub small : code_size code ≤ 65535
  pub some : 0 < code_size code
  pub insns : WritableInsns (layout_of code) code.insns
  pub handlers : FitsCount code.handlers
  pub each_handler : All FitsHandler code.handlers
  pub frames : FitsCount code.frames
  pub each_frame : All FitsFrame code.frames
  pub lines : FitsCount code.lines
  pub short : code_length code ≤ 4294967295

both_false : (a b : Bool) → (a || b) ≡ false → (a ≡ false) × (b ≡ false)
both_false true b h = absurd cc
both_false false b h = (refl, h)

some_size : (n : ℕ) → (n == 0) ≡ false → 0 < n
some_size n h = grind (arith, nat_tests)

none_far : (code : CodeDef) → far_in_code code ≡ None → NoneFar (layout_of code) code.insns
unfolding far_in_code layout_of code_size uses_wide_goto
none_far code h = record { near = h; gotos = λ narrow. by (nat_lt 32767 (end_from false 0 code.insns)) refl narrow }
  where
    by : (b : Bool) → nat_lt 32767 (end_from false 0 code.insns) ≡ b → b ≡ false → end_from b 0 code.insns ≤ 32767
    by true is narrow = absurd cc
    by false is narrow = ltb-false 32767 (end_from false 0 code.insns) is

frames_fit : (rows : List (ℕ × Frame)) → All (λ row. All FitsVType row.1.locals × All FitsVType row.1.stack) rows → All (Within 65535) (flat_map frame_counts rows) → All FitsFrame rows
frames_fit [] texts counts = All-nil FitsFrame
frames_fit (row ∷ rows) texts counts =
    let One : ℕ × Frame → Type 0 = λ r. All FitsVType r.1.locals × All FitsVType r.1.stack in
    let one = All-head One row rows texts in
    let here = all_front (Within 65535) (frame_counts row) (flat_map frame_counts rows) counts in
    All-cons FitsFrame row rows
    (record {
      locals = record { count = count_fits row.1.locals (all_front (Within 65535) (count_of row.1.locals) (count_of row.1.stack) here); texts = one.0 };
      stack = record { count = count_fits row.1.stack (all_behind (Within 65535) (count_of row.1.locals) (count_of row.1.stack) here); texts = one.1 };
    })
    (frames_fit rows (All-tail One row rows texts) (all_behind (Within 65535) (frame_counts row) (flat_map frame_counts rows) counts))

size_of_layout : (code : CodeDef) → (layout_of code).size ≡ code_size code
unfolding layout_of
size_of_layout code = refl

first_length : (n : ℕ) (rest : List ℕ) → All (Within 4294967295) (length_of n ++ rest) → n ≤ 4294967295
unfolding length_of
first_length n rest h = All-head (Within 4294967295) n rest h

pub parts_of : (code : CodeDef) → WritableCode code → Parts code
parts_of code w =
    let texts = fit code w.texts in
    let counts = none_over 65535 (code_counts code) w.counts in
    let h = count_of code.handlers in
    let f = count_of code.frames in
    let each = flat_map frame_counts code.frames in
    let l = count_of code.lines in
    let three = all_front (Within 65535) (h ++ f ++ each) l counts in
    let two = all_front (Within 65535) (h ++ f) each three in
    let size = both_false (code_size code == 0) (nat_lt 65535 (code_size code)) w.size in
    let small : code_size code ≤ 65535 = ltb-false 65535 (code_size code) size.1 in
    let lengths = none_over 4294967295 (code_lengths code) w.lengths in
    record {
      small = small;
      some = some_size (code_size code) size.0;
      insns = record { laid = layout_is code; small = omega (arith, size_of_layout code); near = none_far code w.branches; shaped = w.shaped.insns; texts = texts.insns };
      handlers = count_fits code.handlers (all_front (Within 65535) h f two);
      each_handler = texts.handlers;
      frames = count_fits code.frames (all_behind (Within 65535) h f two);
      each_frame = frames_fit code.frames texts.frames (all_behind (Within 65535) (h ++ f) each three);
      lines = count_fits code.lines (all_behind (Within 65535) (h ++ f ++ each) l counts);
      short = first_length (code_length code) _ (all_front (Within 4294967295) _ _ lengths);
    }

-- ---- where the instructions of code stand

if_length : (rows : List (ℕ × Frame)) → All (Within 4294967295) (lengths_if (frames_length rows)) → 2 + sum_by frame_length rows ≤ 4294967295
unfolding lengths_if
if_length [] h = lit≤ tt
if_length (row ∷ rows) h = All-head (Within 4294967295) (2 + sum_by frame_length (row ∷ rows)) [] h

frames_short : (code : CodeDef) → WritableCode code → 2 + sum_by frame_length code.frames ≤ 4294967295
frames_short code w =
    let n = length_of (code_length code) in
    let f = lengths_if (frames_length code.frames) in
    let l = lengths_if (table_length 4 code.lines) in
    if_length code.frames (all_behind (Within 4294967295) n f (all_front (Within 4294967295) (n ++ f) l (none_over 4294967295 (code_lengths code) w.lengths)))

fits_at : (code : CodeDef) → WritableCode code → FitsCode (layout_of code) code
fits_at code w =
    let parts = parts_of code w in
    record {
      small = lays_small (layout_of code) code.insns 65535 (layout_is code) parts.insns.small;
      insns = parts.insns;
      handlers = parts.handlers;
      each_handler = parts.each_handler;
      frames = record { ordered = ordered (layout_of code) code.insns code.frames (layout_is code) w.shaped.frames w.shaped.ascend; count = parts.frames; each = parts.each_frame; short = frames_short code w };
      lines = parts.lines;
    }

pub fits_code : (layout : CodeLayout) (code : CodeDef) → layout ≡ layout_of code → WritableCode code → FitsCode layout code
fits_code layout code is w = subst (λ (l : CodeLayout). FitsCode l code) (sym is) (fits_at code w)

pub layout_small : (code : CodeDef) → WritableCode code → code_size code ≤ 65535
layout_small code w = (parts_of code w).small

-- ---- what is claimed, and how long it is

pub code_claims : (class : List ℕ) (head : MethodHead) (code : CodeDef) → WritableCode code → Claims (λ r text. IsCodeContent r class head text code) (spell_code code)
code_claims class head code w =
    let parts = parts_of code w in
    content_claims (layout_of code) code class head parts.insns w.shaped (omega (arith, parts.some, size_of_layout code)) parts.lines

nothing_before : (o : Result (Pool × List ℕ) Unfit) (q : Pool) (text : List ℕ) → behind [] o ≡ given q text → o ≡ given q text
nothing_before (Ok x) q text h = h
nothing_before (Err last) q text h = absurd cc

pub code_short : (layout : CodeLayout) (code : CodeDef) → layout ≡ layout_of code → WritableCode code → (p q : Pool) (before text : List ℕ) → before ≡ [] → behind before (spell_content layout code p) ≡ given q text → length text < 2 ^ 32
code_short layout code is w p q before text none h =
    let alone : spell_content layout code p ≡ given q text = nothing_before (spell_content layout code p) q text (subst (λ (b : List ℕ). behind b (spell_content layout code p) ≡ given q text) none h) in
    let at : spell_code code p ≡ given q text = subst (λ (l : CodeLayout). spell_content l code p ≡ given q text) is alone in
    omega (arith, (code_takes code).bytes p q text at, (parts_of code w).short)
