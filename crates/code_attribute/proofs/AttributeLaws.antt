-- Reading the attributes of code is exact for what they say.
use Rattle.std.proofs.Common.{◌≡◌, inl, inr, ℕ, ◌+◌, ◌≤◌, Bool, true, false, cond, ltb, List, [], ◌∷◌, ◌++◌, length, Option, Some, None, refl, sym, ap, subst, ◌∙◌, append_assoc, arith}
use Rattle.std.specs.Prelude.{MatchBool}
use Rattle.std.specs.Int.{w16}
use Rattle.std.proofs.lemmas.Bool.{ltb-false, le-ltb}
use Rattle.std.proofs.lemmas.List.{append-nil, length-append}
use Rattle.class_input.specs.declared.bad_class.BadKind.TheVariants.{Target, Twice}
use Rattle.class_input.specs.Reading.{◌>>=◌, refused, here, number, each, many}
use Rattle.class_input.specs.Grammar.{IsU16, Each}
use Rattle.class_input.proofs.Laws.{Then, Exact, Exact-same, refused_exact, then_exact, mapped_exact, here_exact, if_exact, u16_exact, many_exact}
use Rattle.class_model.specs.declared.class.Frame.{Frame}
use Rattle.class_model.specs.declared.class.VType.{VType}
use Rattle.const_pool.specs.Pool.{Pool}
use Rattle.class_names.specs.Pieces.{AtIndex}
use Rattle.class_names.specs.Steps.{at_index}
use Rattle.class_names.proofs.StepLaws.{split, on_false, fit_judges, at_index_exact}
use Rattle.class_attributes.specs.Attributes.{Attribute, is_named, contents, AtMostOne}
use Rattle.class_attributes.specs.AttributeReading.{content, once, kept}
use Rattle.class_attributes.proofs.AttributeLaws.{IsContent, Step, Folded, Gathers, names_apart}
use Rattle.insn_code.specs.Offsets.{Offsets, start_number}
use Rattle.insn_code.specs.Linking.{Code}
use Rattle.insn_code.proofs.StepLaws.{two_exact}
use Rattle.code_tables.specs.CodeTables.{Begins, IsLine, AreLines}
use Rattle.code_tables.specs.TableReading.{start_at, line}
use Rattle.frame_tables.specs.FrameTable.{AreFrames}
use Rattle.frame_tables.specs.FrameReading.{frames}
use Rattle.frame_tables.proofs.FrameLaws.{frames_exact}
use Rattle.code_attribute.specs.CodeContent.{stack_map_table, line_number_table, AllJoined, AreCodeAttributes}
use Rattle.code_attribute.specs.CodeContentReading.{Found, nothing_found, behind, counted_rows, more_rows, with_frames, with_rows, code_attribute, code_attributes}
use Rattle.code_attribute.proofs.StepLaws.{content_exact, content_mapped, kept_exact, content_if, step_exact, table_of_exact}

abbrev Rows : Type 0
Rows = List (ℕ × ℕ)

abbrev Frames : Type 0
Frames = List (ℕ × Frame)

-- ---- rows of line numbers

line_exact : (code : Offsets) → Exact (IsLine code) (line code)
unfolding line
line_exact code = two_exact (AtIndex (Begins code)) IsU16 (at_index (start_at code)) (number w16) (at_index_exact (Begins code) (start_at code) (λ place offset. fit_judges place Target (start_number code.starts offset))) u16_exact

-- rows behind others, which are not too many with them
abbrev MoreRows : Offsets → Rows → List ℕ → Rows → Type 0
MoreRows code before text after = (rows : Rows) × AreLines code text rows × (length before + length rows ≤ 65535) × (before ++ rows ≡ after)

abbrev Counted : Offsets → ℕ → List ℕ → Rows → Type 0
Counted code count text rows = (length rows ≡ count) × Each (IsLine code) text rows

abbrev BehindR : Offsets → Rows → ℕ → List ℕ → Rows → Type 0
BehindR code before count text after = (rows : Rows) × Counted code count text rows × (before ++ rows ≡ after)

abbrev CountR : Offsets → Rows → ℕ → List ℕ → Rows → Type 0
CountR code before count text after = MatchBool (ltb 65535 (length before + count)) ⊥ (BehindR code before count text after)

rows_to : (code : Offsets) (before : Rows) (text : List ℕ) (after : Rows) → Then IsU16 (CountR code before) text after → MoreRows code before text after
rows_to code before text after h =
    elim (split (ltb 65535 (length before + h.0)) h.5) [
      | inl a ↦ absurd a.1
      | inr a ↦
          let r = a.1 in
          let len = r.1.0 in
          let few = ltb-false 65535 (length before + h.0) a.0 in
          (r.0, record { count = h.1; rest = h.2; spelled = h.3; counted = subst (λ (k : ℕ). IsU16 h.1 k) (sym len) h.4; each_is = r.1.1 }, omega (arith, few, len), r.2)
    ]

rows_from : (code : Offsets) (before : Rows) (text : List ℕ) (after : Rows) → MoreRows code before text after → Then IsU16 (CountR code before) text after
rows_from code before text after h =
    let rows = h.0 in
    let t = h.1 in
    let few = le-ltb 65535 (length before + length rows) h.2 in
    (length rows, t.count, t.rest, t.spelled, t.counted, on_false ⊥ (BehindR code before (length rows) t.rest after) (ltb 65535 (length before + length rows)) few (rows, (refl, t.each_is), h.3))

more_rows_exact : (code : Offsets) (before : Rows) → Exact (MoreRows code before) (more_rows code before)
unfolding more_rows
more_rows_exact code before =
    Exact-same (Then IsU16 (CountR code before)) (MoreRows code before) (here >>= λ place. number w16 >>= counted_rows code before place)
    (rows_to code before)
    (rows_from code before)
    (here_exact (Then IsU16 (CountR code before)) (λ place. number w16 >>= counted_rows code before place) (λ place.
    then_exact IsU16 (CountR code before) (number w16) (counted_rows code before place) u16_exact (λ count.
    if_exact (ltb 65535 (length before + count)) (λ text after. ⊥) (BehindR code before count) (refused place Twice) (behind before (many count (line code)))
    (refused_exact (λ text after. ⊥) place Twice (λ text after h. h))
    (mapped_exact (Counted code count) (many count (line code)) (λ rows. before ++ rows) (many_exact (IsLine code) count (line code) (line_exact code))))))

-- ---- one attribute

abbrev found_of : Option Frames → Rows → Found
found_of frames rows = (frames, rows)

-- frames, where there were none
abbrev SomeFrames : Pool → Code → List VType → Option Frames → List ℕ → Option Frames → Type 0
SomeFrames p code first None text after = (frames : Frames) × AreFrames p code first text frames × ((let o : Option Frames = Some frames in o) ≡ after)
SomeFrames p code first (Some found) text after = ⊥

once_exact : (p : Pool) (code : Code) (first : List VType) (place : ℕ) (o : Option Frames) → Exact (IsContent (SomeFrames p code first o)) (once place (frames p code first) o)
unfolding once
once_exact p code first place None = content_mapped (AreFrames p code first) (content (frames p code first)) (λ a. Some a) (content_exact (AreFrames p code first) (frames p code first) (frames_exact p code first))
once_exact p code first place (Some found) = refused_exact (IsContent (SomeFrames p code first (Some found))) place Twice (λ text x h. h.stands)

abbrev FramesSay : Pool → Code → List VType → Found → List ℕ → Found → Type 0
FramesSay p code first found text after = (o : Option Frames) × SomeFrames p code first found.0 text o × (found_of o found.1 ≡ after)

abbrev RowsSay : Code → Found → List ℕ → Found → Type 0
RowsSay code found text after = (rows : Rows) × MoreRows code.1 found.1 text rows × (found_of found.0 rows ≡ after)

abbrev Kept : Found → List ℕ → Found → Type 0
Kept found text after = found ≡ after

abbrev Says : Pool → Code → List VType → List ℕ → Found → List ℕ → Found → Type 0
Says p code first name found text after =
    MatchBool (is_named stack_map_table name) (FramesSay p code first found text after) (MatchBool (is_named line_number_table name) (RowsSay code found text after) (Kept found text after))

abbrev Next : Pool → Code → List VType → Found → Attribute → Found → Type 0
Next p code first found a after = Says p code first a.name found a.content after

attribute_exact : (p : Pool) (code : Code) (first : List VType) (found : Found) → Exact (Step (Next p code first) p found) (code_attribute p code first found)
unfolding code_attribute
attribute_exact p code first found =
    step_exact (Says p code first) p found (λ place name. cond (is_named stack_map_table name) (with_frames p code first place found) (cond (is_named line_number_table name) (with_rows code found) (kept found))) (λ place name.
    content_if (is_named stack_map_table name) (FramesSay p code first found) (λ text after. MatchBool (is_named line_number_table name) (RowsSay code found text after) (Kept found text after)) (with_frames p code first place found) (cond (is_named line_number_table name) (with_rows code found) (kept found))
    (content_mapped (SomeFrames p code first found.0) (once place (frames p code first) found.0) (λ o. found_of o found.1) (once_exact p code first place found.0))
    (content_if (is_named line_number_table name) (RowsSay code found) (Kept found) (with_rows code found) (kept found)
    (content_mapped (MoreRows code.1 found.1) (content (more_rows code.1 found.1)) (λ rows. found_of found.0 rows) (content_exact (MoreRows code.1 found.1) (more_rows code.1 found.1) (more_rows_exact code.1 found.1)))
    (kept_exact found)))

-- ---- all of them

-- what contents say behind those that gave `found`
abbrev FramesRest : Pool → Code → List VType → Option Frames → List (List ℕ) → Option Frames → Type 0
FramesRest p code first None cs after = AtMostOne (AreFrames p code first) cs after
FramesRest p code first (Some found) cs after = (cs ≡ []) × ((let o : Option Frames = Some found in o) ≡ after)

abbrev RowsRest : Code → Rows → List (List ℕ) → Rows → Type 0
RowsRest code before cs after = (rows : Rows) × AllJoined (AreLines code.1) cs rows × (before ++ rows ≡ after) × (length after ≤ 65535)

frames_none : (p : Pool) (code : Code) (first : List VType) (o after : Option Frames) → o ≡ after → FramesRest p code first o [] after
frames_none p code first None None e = tt
frames_none p code first None (Some a) e = absurd cc
frames_none p code first (Some found) after e = (refl, e)

none_frames : (p : Pool) (code : Code) (first : List VType) (o after : Option Frames) → FramesRest p code first o [] after → o ≡ after
none_frames p code first None None h = refl
none_frames p code first None (Some a) h = absurd h
none_frames p code first (Some found) after h = h.1

frames_once : (p : Pool) (code : Code) (first : List VType) (o m after : Option Frames) (c : List ℕ) (cs : List (List ℕ)) → SomeFrames p code first o c m → FramesRest p code first m cs after → FramesRest p code first o (c ∷ cs) after
frames_once p code first (Some found) m after c cs some h = absurd some
frames_once p code first None None after c cs some h = absurd (let e = some.2 in cc)
frames_once p code first None (Some b) after c cs some h =
    let same : some.0 ≡ b = let e = some.2 in cc in
    let one : AtMostOne (AreFrames p code first) (c ∷ []) (Some b) = subst (λ (z : Frames). AreFrames p code first c z) same some.1 in
    subst (λ (z : List (List ℕ)). AtMostOne (AreFrames p code first) (c ∷ z) after) (sym h.0) (subst (λ (z : Option Frames). AtMostOne (AreFrames p code first) (c ∷ []) z) h.1 one)

-- a first content, and what the others say behind it
abbrev OnceMore : Pool → Code → List VType → Option Frames → List ℕ → List (List ℕ) → Option Frames → Type 0
OnceMore p code first o c cs after = (m : Option Frames) × SomeFrames p code first o c m × FramesRest p code first m cs after

once_frames : (p : Pool) (code : Code) (first : List VType) (o after : Option Frames) (c : List ℕ) (cs : List (List ℕ)) → FramesRest p code first o (c ∷ cs) after → OnceMore p code first o c cs after
once_frames p code first (Some found) after c cs h = absurd (let e = h.0 in cc)
once_frames p code first None None c [] h = absurd h
once_frames p code first None None c (d ∷ cs) h = absurd h
once_frames p code first None (Some a) c [] h = (Some a, (a, h, refl), (refl, refl))
once_frames p code first None (Some a) c (d ∷ cs) h = absurd h

rows_once : (code : Code) (before rows after : Rows) (c : List ℕ) (cs : List (List ℕ)) → MoreRows code.1 before c rows → RowsRest code rows cs after → RowsRest code before (c ∷ cs) after
rows_once code before rows after c cs more h =
    (more.0 ++ h.0, (more.0, h.0, refl, more.1, h.1), sym (append_assoc before more.0 h.0) ∙ ap (λ (z : Rows). z ++ h.0) more.3 ∙ h.2, h.3)

once_rows : (code : Code) (before after : Rows) (c : List ℕ) (cs : List (List ℕ)) → RowsRest code before (c ∷ cs) after → (rows : Rows) × MoreRows code.1 before c rows × RowsRest code rows cs after
once_rows code before after c cs h =
    let j = h.1 in
    let one = j.0 in
    let others = j.1 in
    let whole : (before ++ one) ++ others ≡ after = append_assoc before one others ∙ ap (λ (z : Rows). before ++ z) (sym j.2) ∙ h.2 in
    let few : length before + length one ≤ 65535 = omega (arith, ap length whole, length-append (before ++ one) others, length-append before one, h.3) in
    (before ++ one, (one, j.3, few, refl), (others, j.4, whole, h.3))

abbrev Both : Pool → Code → List VType → Found → List (List ℕ) → List (List ℕ) → Found → Type 0
Both p code first o cs ds t = FramesRest p code first o.0 cs t.0 × RowsRest code o.1 ds t.1

abbrev OneOf : Pool → Code → List VType → Bool → Bool → Found → List ℕ → Found → Type 0
OneOf p code first a b found text after = MatchBool a (FramesSay p code first found text after) (MatchBool b (RowsSay code found text after) (Kept found text after))

abbrev put_content : Bool → List ℕ → List (List ℕ) → List (List ℕ)
put_content b c cs = cond b (c ∷ cs) cs

one_more : (p : Pool) (code : Code) (first : List VType) (a b : Bool) (c : List ℕ) (cs ds : List (List ℕ)) (o m t : Found) → (a ≡ true → b ≡ true → ⊥)
    → OneOf p code first a b o c m → Both p code first m cs ds t → Both p code first o (put_content a c cs) (put_content b c ds) t
one_more p code first true true c cs ds o m t apart h rest = absurd (apart refl refl)
one_more p code first true false c cs ds o m t apart h rest =
    let r = subst (λ (z : Found). Both p code first z cs ds t) (sym h.2) rest in
    (frames_once p code first o.0 h.0 t.0 c cs h.1 r.0, r.1)
one_more p code first false true c cs ds o m t apart h rest =
    let r = subst (λ (z : Found). Both p code first z cs ds t) (sym h.2) rest in
    (r.0, rows_once code o.1 h.0 t.1 c ds h.1 r.1)
one_more p code first false false c cs ds o m t apart h rest = subst (λ (z : Found). Both p code first z cs ds t) (sym h) rest

more_one : (p : Pool) (code : Code) (first : List VType) (a b : Bool) (c : List ℕ) (cs ds : List (List ℕ)) (o t : Found) → (a ≡ true → b ≡ true → ⊥)
    → Both p code first o (put_content a c cs) (put_content b c ds) t → (m : Found) × OneOf p code first a b o c m × Both p code first m cs ds t
more_one p code first true true c cs ds o t apart h = absurd (apart refl refl)
more_one p code first true false c cs ds o t apart h = let m = once_frames p code first o.0 t.0 c cs h.0 in (found_of m.0 o.1, (m.0, m.1, refl), (m.2, h.1))
more_one p code first false true c cs ds o t apart h = let m = once_rows code o.1 t.1 c ds h.1 in (found_of o.0 m.0, (m.0, m.1, refl), (h.0, m.2))
more_one p code first false false c cs ds o t apart h = (o, refl, h)

apart : (name : List ℕ) → is_named stack_map_table name ≡ true → is_named line_number_table name ≡ true → ⊥
apart name = names_apart stack_map_table line_number_table (λ e. absurd cc) name

still_few : (p : Pool) (code : Code) (first : List VType) (a b : Bool) (c : List ℕ) (o m : Found) → length o.1 ≤ 65535 → OneOf p code first a b o c m → length m.1 ≤ 65535
still_few p code first true b c o m few h = subst (λ (z : Found). length z.1 ≤ 65535) h.2 few
still_few p code first false true c o m few h =
    let r = h.1 in
    let all : length h.0 ≤ 65535 = subst (λ (z : Rows). length z ≤ 65535) r.3 (omega (arith, length-append o.1 r.0, r.2)) in
    subst (λ (z : Found). length z.1 ≤ 65535) h.2 all
still_few p code first false false c o m few h = subst (λ (z : Found). length z.1 ≤ 65535) h few

folded_both : (p : Pool) (code : Code) (first : List VType) (xs : List Attribute) (o t : Found) → length o.1 ≤ 65535 → Folded (Next p code first) o xs t → Both p code first o (contents stack_map_table xs) (contents line_number_table xs) t
folded_both p code first [] o t few h =
    (frames_none p code first o.0 t.0 (ap (λ (z : Found). z.0) h), ([], refl, append-nil o.1 ∙ ap (λ (z : Found). z.1) h, subst (λ (z : Found). length z.1 ≤ 65535) h few))
folded_both p code first (a ∷ xs) o t few h =
    one_more p code first (is_named stack_map_table a.name) (is_named line_number_table a.name) a.content (contents stack_map_table xs) (contents line_number_table xs) o h.0 t (apart a.name) h.1
    (folded_both p code first xs h.0 t (still_few p code first (is_named stack_map_table a.name) (is_named line_number_table a.name) a.content o h.0 few h.1) h.2)

same_found : (x y : Found) → x.0 ≡ y.0 → x.1 ≡ y.1 → x ≡ y
same_found x y a b = ap (λ (z : Option Frames). found_of z x.1) a ∙ ap (λ (z : Rows). found_of y.0 z) b

no_rows : (code : Code) (before after : Rows) → RowsRest code before [] after → before ≡ after
no_rows code before after h = sym (append-nil before) ∙ ap (λ (z : Rows). before ++ z) (sym h.1) ∙ h.2

both_folded : (p : Pool) (code : Code) (first : List VType) (xs : List Attribute) (o t : Found) → Both p code first o (contents stack_map_table xs) (contents line_number_table xs) t → Folded (Next p code first) o xs t
both_folded p code first [] o t h = same_found o t (none_frames p code first o.0 t.0 h.0) (no_rows code o.1 t.1 h.1)
both_folded p code first (a ∷ xs) o t h =
    let m = more_one p code first (is_named stack_map_table a.name) (is_named line_number_table a.name) a.content (contents stack_map_table xs) (contents line_number_table xs) o t (apart a.name) h in
    (m.0, m.1, both_folded p code first xs m.0 t m.2)

abbrev AttributesR : Pool → Code → List VType → List ℕ → Found → Type 0
AttributesR p code first text found = AreCodeAttributes p code first text found.0 found.1

pub attributes_exact : (p : Pool) (code : Code) (first : List VType) → Exact (AttributesR p code first) (code_attributes p code first)
unfolding code_attributes
attributes_exact p code first =
    Exact-same (Gathers (Next p code first) p nothing_found) (AttributesR p code first) (number w16 >>= λ count. each count (code_attribute p code first) nothing_found)
    (λ text t h.
    let b = folded_both p code first h.attributes nothing_found t (omega arith) h.folded in
    let rows = b.1 in
    record { attributes = h.attributes; stand = h.stand; frames_are = b.0; lines_are = subst (λ (z : Rows). AllJoined (AreLines code.1) (contents line_number_table h.attributes) z) rows.2 rows.1; few_lines = rows.3 })
    (λ text t h. record { attributes = h.attributes; stand = h.stand; folded = both_folded p code first h.attributes nothing_found t (h.frames_are, (t.1, h.lines_are, refl, h.few_lines)) })
    (table_of_exact (Next p code first) p nothing_found (code_attribute p code first) (attribute_exact p code first))
