-- What is written for the content of a Code attribute is that code.
use Rattle.std.proofs.Common.{◌≡◌, ℕ, ◌+◌, ◌<◌, ◌≤◌, List, [], ◌∷◌, length, map, Option, Some, None, refl, sym, subst}
use Rattle.std.specs.Prelude.{All}
use Rattle.std.proofs.lemmas.List.{append-nil}
use Rattle.class_input.specs.Grammar.{IsU16, IsU32}
use Rattle.class_model.specs.declared.class.CodeDef.{CodeDef}
use Rattle.class_model.specs.declared.class.Frame.{Frame}
use Rattle.class_model.specs.declared.class.VType.{VType}
use Rattle.class_model.specs.declared.insn.Insn.{Insn}
use Rattle.class_shape.specs.ShapedInsn.{Ascend, IsTarget}
use Rattle.class_shape.specs.Shaped.{ShapedCode, ShapedFrame, place_of}
use Rattle.class_limits.specs.Sizes.{CodeLayout}
use Rattle.const_pool.specs.Pool.{Pool}
use Rattle.class_names.specs.Pieces.{joined}
use Rattle.class_attributes.specs.Attributes.{contents, AtMostOne, ReadsTwo}
use Rattle.class_file.specs.declared.method.MethodHead.{MethodHead}
use Rattle.class_file.specs.ClassBytes.{listed}
use Rattle.insn_code.specs.Linking.{Code, IsCode}
use Rattle.code_tables.specs.CodeTables.{AreHandlers, AreLines}
use Rattle.frame_tables.specs.FirstFrame.{first_types}
use Rattle.frame_tables.specs.FrameTable.{AreFrames}
use Rattle.code_attribute.specs.CodeContent.{stack_map_table, line_number_table, AllJoined, AreCodeAttributes, IsCodeContent}
use Rattle.pool_names.specs.Adding.{Adding, done, spell_u16, spell_u32}
use Rattle.pool_names.specs.Claims.{Claims}
use Rattle.pool_names.proofs.Claiming.{claims_as, done_claims, Then, then_claims}
use Rattle.pool_names.proofs.Lists.{u16_claims, u32_claims}
use Rattle.class_spelling.specs.Forms.{spell_when_any, count_some, count_any}
use Rattle.class_spelling.proofs.Forms.{WhenSome, attribute_claims, two_reads}
use Rattle.insn_spelling.specs.Conditions.{LaysOut, WritableInsns, offsets}
use Rattle.insn_spelling.specs.Spelling.{spell_insns}
use Rattle.insn_spelling.proofs.CodeLaws.{insns_claims}
use Rattle.code_spelling.specs.Tables.{spell_handlers, spell_lines}
use Rattle.code_spelling.specs.Frames.{spell_frames}
use Rattle.code_spelling.specs.Content.{spell_code_attributes, spell_content}
use Rattle.code_spelling.proofs.TableLaws.{handlers_claims, lines_claims}
use Rattle.code_spelling.proofs.TableOfFrames.{frames_claims}

-- ---- attributes

-- the rows of an attribute that is there where they are some
abbrev found_in : {A : Type 0} → List A → Option (List A)
found_in [] = None
found_in (x ∷ xs) = Some (x ∷ xs)

found_listed : {A : Type 0} (xs : List A) → xs ≡ listed (found_in xs)
found_listed [] = refl
found_listed (x ∷ xs) = refl

found_count : {A : Type 0} (xs : List A) → count_any xs ≡ count_some (found_in xs)
found_count [] = refl
found_count (x ∷ xs) = refl

any_claims : {A : Type 0} (C : List A → Pool → List ℕ → Type 0) (name : List ℕ) (spell : List A → Adding (List ℕ)) (xs : List A) → Claims (C xs) (spell xs) → Claims (WhenSome C name (found_in xs)) (spell_when_any name spell xs)
unfolding spell_when_any
any_claims C name spell [] claims = claims_as (λ r text. [] ≡ text) (λ r text. text ≡ []) (done []) (λ r text h. sym h) (done_claims [])
any_claims C name spell (x ∷ xs) claims = attribute_claims (C (x ∷ xs)) name (spell (x ∷ xs)) claims

-- what is claimed in each pool holds in this one
in_pool : {A : Type 0} (R : Pool → List ℕ → A → Type 0) (name : List ℕ) (r : Pool) (o : Option A) (text : List ℕ) → WhenSome (λ x p content. R p content x) name o r text → WhenSome (λ x p content. R r content x) name o r text
in_pool R name r None text h = h
in_pool R name r (Some x) text h = h

-- the rows of at most one attribute are those of all
all_joined : {A : Type 0} (R : List ℕ → List A → Type 0) (texts : List (List ℕ)) (found : Option (List A)) → AtMostOne R texts found → AllJoined R texts (listed found)
all_joined R [] None h = refl
all_joined R [] (Some xs) h = absurd h
all_joined R (text ∷ []) None h = absurd h
all_joined R (text ∷ []) (Some xs) h = (xs, [], sym (append-nil xs), h, refl)
all_joined R (text ∷ other ∷ texts) found h = absurd h

attributes_claims : (layout : CodeLayout) (insns : List Insn) (first : List VType) (frames : List (ℕ × Frame)) (lines : List (ℕ × ℕ)) → LaysOut layout insns → layout.size ≤ 65535 → All (ShapedFrame insns) frames → Ascend (map place_of frames) → All (λ row. IsTarget (length insns) row.0) lines → length lines ≤ 65535
    → Claims (λ r text. AreCodeAttributes r (insns, offsets layout) first text (found_in frames) lines) (spell_code_attributes layout frames lines)
unfolding spell_code_attributes
attributes_claims layout insns first frames lines lays small shaped ascend within few =
    let code : Code = (insns, offsets layout) in
    let n : ℕ = count_any frames + count_any lines in
    let F : List (ℕ × Frame) → Pool → List ℕ → Type 0 = λ rows r text. AreFrames r code first text rows in
    let L : List (ℕ × ℕ) → Pool → List ℕ → Type 0 = λ rows r text. AreLines (offsets layout) text rows in
    claims_as
    (Then (λ r count. IsU16 count n) (λ count.
    Then (WhenSome F stack_map_table (found_in frames)) (λ one.
    Then (WhenSome L line_number_table (found_in lines)) (λ two r text. joined (count ∷ one ∷ two ∷ []) ≡ text))))
    (λ r text. AreCodeAttributes r code first text (found_in frames) lines) (spell_code_attributes layout frames lines)
    (λ r text h.
    let counts : IsU16 h.0 (count_some (found_in frames) + count_some (found_in lines)) = rw (← found_count frames, ← found_count lines) h.1 in
    let both : ReadsTwo r stack_map_table (AreFrames r code first) line_number_table (AreLines (offsets layout)) text (found_in frames, found_in lines) =
    two_reads (AreFrames r code first) (AreLines (offsets layout)) stack_map_table line_number_table r (found_in frames) (found_in lines) h.0 h.2.0 h.2.2.0 text refl refl refl refl counts (sym h.2.2.2)
    (in_pool (λ p. AreFrames p code first) stack_map_table r (found_in frames) h.2.0 h.2.1) (in_pool (λ p. AreLines (offsets layout)) line_number_table r (found_in lines) h.2.2.0 h.2.2.1) in
    record {
      attributes = both.attributes;
      stand = both.stand;
      frames_are = both.first_is;
      lines_are = subst (λ (rows : List (ℕ × ℕ)). AllJoined (AreLines (offsets layout)) (contents line_number_table both.attributes) rows) (sym (found_listed lines)) (all_joined (AreLines (offsets layout)) (contents line_number_table both.attributes) (found_in lines) both.second_is);
      few_lines = few;
    })
    (then_claims _ _ (spell_u16 n) _ (u16_claims n)
    (λ count. then_claims (WhenSome F stack_map_table (found_in frames)) _ (spell_when_any stack_map_table (spell_frames layout) frames) _
    (any_claims F stack_map_table (spell_frames layout) frames (frames_claims layout insns first frames lays small shaped ascend))
    (λ one. then_claims (WhenSome L line_number_table (found_in lines)) _ (spell_when_any line_number_table (spell_lines layout) lines) _
    (any_claims L line_number_table (spell_lines layout) lines (lines_claims layout insns lines lays within))
    (λ two. done_claims (joined (count ∷ one ∷ two ∷ []))))))

-- ---- the content

pub content_claims : (layout : CodeLayout) (code : CodeDef) (class : List ℕ) (head : MethodHead) → WritableInsns layout code.insns → ShapedCode code → 0 < layout.size → length code.lines ≤ 65535 → Claims (λ r text. IsCodeContent r class head text code) (spell_content layout code)
unfolding spell_content
content_claims layout code class head w shaped some few =
    let insns = code.insns in
    let first : List VType = first_types class head in
    claims_as
    (Then (λ r a. IsU16 a code.max_stack) (λ a.
    Then (λ r b. IsU16 b code.max_locals) (λ b.
    Then (λ r c. IsU32 c layout.size) (λ c.
    Then (λ r d. IsCode r layout.size d (insns, offsets layout)) (λ d.
    Then (λ r e. AreHandlers r (offsets layout) e code.handlers) (λ e.
    Then (λ r f. AreCodeAttributes r (insns, offsets layout) first f (found_in code.frames) code.lines) (λ f r text. joined (a ∷ b ∷ c ∷ d ∷ e ∷ f ∷ []) ≡ text)))))))
    (λ r text. IsCodeContent r class head text code) (spell_content layout code)
    (λ r text h. record {
      max_stack = h.0;
      max_locals = h.2.0;
      len = h.2.2.0;
      insns = h.2.2.2.0;
      handlers = h.2.2.2.2.0;
      attributes = h.2.2.2.2.2.0;
      offsets = offsets layout;
      frames = found_in code.frames;
      spelled = sym h.2.2.2.2.2.2;
      max_stack_is = h.1;
      max_locals_is = h.2.1;
      len_is = h.2.2.1;
      not_empty = some;
      not_long = w.small;
      insns_are = h.2.2.2.1;
      handlers_are = h.2.2.2.2.1;
      attributes_are = h.2.2.2.2.2.1;
      frames_are = found_listed code.frames;
    })
    (then_claims _ _ (spell_u16 code.max_stack) _ (u16_claims code.max_stack)
    (λ a. then_claims _ _ (spell_u16 code.max_locals) _ (u16_claims code.max_locals)
    (λ b. then_claims _ _ (spell_u32 layout.size) _ (u32_claims layout.size)
    (λ c. then_claims _ _ (spell_insns layout insns) _ (insns_claims layout insns w)
    (λ d. then_claims _ _ (spell_handlers layout code.handlers) _ (handlers_claims layout insns code.handlers w.laid shaped.handlers)
    (λ e. then_claims _ _ (spell_code_attributes layout code.frames code.lines) _ (attributes_claims layout insns first code.frames code.lines w.laid w.small shaped.frames shaped.ascend shaped.lines few)
    (λ f. done_claims (joined (a ∷ b ∷ c ∷ d ∷ e ∷ f ∷ [])))))))))
