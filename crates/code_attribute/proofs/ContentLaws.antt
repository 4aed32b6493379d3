-- Reading the content of a Code attribute is exact for what its bytes are.
use Rattle.std.proofs.Common.{◌≡◌, inl, inr, ℕ, ◌<◌, ◌≤◌, Bool, false, ltb, eqb, List, [], ◌++◌, refl, sym, ap, subst, arith}
use Rattle.std.specs.Prelude.{MatchBool, ◌||◌, ◌==◌}
use Rattle.std.specs.Int.{w16, w32}
use Rattle.std.proofs.lemmas.Bool.{ltb-false, le-ltb, eqb-false, ne_eqb, or_from, or_parts}
use Rattle.std.proofs.lemmas.List.{append-nil}
use Rattle.class_input.specs.declared.bad_class.BadKind.TheVariants.{CodeLength}
use Rattle.class_input.specs.Reading.{◌>>=◌, done, refused, here, number}
use Rattle.class_input.specs.Grammar.{IsU16, IsU32}
use Rattle.class_input.proofs.Laws.{IsDone, Then, Exact, Exact-same, done_exact, refused_exact, then_exact, mapped_exact, here_exact, if_exact, u16_exact, u32_exact}
use Rattle.class_model.specs.declared.class.CodeDef.{CodeDef}
use Rattle.class_model.specs.declared.class.Frame.{Frame}
use Rattle.class_model.specs.declared.class.Handler.{Handler}
use Rattle.class_model.specs.declared.class.VType.{VType}
use Rattle.const_pool.specs.Pool.{Pool}
use Rattle.class_names.proofs.StepLaws.{split, on_false, front_alone}
use Rattle.class_attributes.proofs.AttributeLaws.{then_joined, last_joined}
use Rattle.insn_code.specs.Linking.{Code, IsCode}
use Rattle.insn_code.specs.CodeReading.{insns}
use Rattle.insn_code.proofs.CodeLaws.{insns_exact}
use Rattle.code_tables.specs.CodeTables.{AreHandlers}
use Rattle.code_tables.specs.TableReading.{handlers}
use Rattle.code_tables.proofs.TableLaws.{handlers_exact}
use Rattle.class_file.specs.declared.method.MethodHead.{MethodHead}
use Rattle.class_file.specs.ClassBytes.{listed}
use Rattle.frame_tables.specs.FirstFrame.{first_types}
use Rattle.code_attribute.specs.CodeContent.{AreCodeAttributes, IsCodeContent}
use Rattle.code_attribute.specs.CodeContentReading.{Found, code_attributes, length_of, code_length, made_code, code_content}
use Rattle.code_attribute.proofs.AttributeLaws.{attributes_exact}

-- ---- the length

abbrev IsLength : List ℕ → ℕ → Type 0
IsLength text n = IsU32 text n × (0 < n) × (n ≤ 65535)

abbrev out_of_range : ℕ → Bool
out_of_range n = (n == 0) || ltb 65535 n

abbrev LengthR : ℕ → List ℕ → ℕ → Type 0
LengthR n text m = MatchBool (out_of_range n) ⊥ (IsDone n text m)

above : (n : ℕ) → (n ≡ 0 → ⊥) → 0 < n
above n differ = omega (arith, differ)

length_to : (text : List ℕ) (m : ℕ) → Then IsU32 LengthR text m → IsLength text m
length_to text m h =
    elim (split (out_of_range h.0) h.5) [
      | inl a ↦ absurd a.1
      | inr a ↦
          let parts = or_parts (eqb h.0 0) (ltb 65535 h.0) a.0 in
          let done_ = a.1 in
          let is : IsU32 text h.0 = subst (λ (z : List ℕ). IsU32 z h.0) (front_alone text h.1 h.2 h.3 done_.0) h.4 in
          subst (λ (z : ℕ). IsLength text z) done_.1 (is, above h.0 (eqb-false h.0 0 parts.0), ltb-false 65535 h.0 parts.1)
    ]

length_from : (text : List ℕ) (m : ℕ) → IsLength text m → Then IsU32 LengthR text m
length_from text m h =
    let some : eqb m 0 ≡ false = ne_eqb m 0 (λ none. let positive = h.1 in omega (arith, none, positive)) in
    (m, text, [], sym (append-nil text), h.0, on_false ⊥ (IsDone m [] m) (out_of_range m) (or_from (eqb m 0) (ltb 65535 m) some (le-ltb 65535 m h.2)) (refl, refl))

length_exact : Exact IsLength code_length
unfolding code_length
length_exact =
    Exact-same (Then IsU32 LengthR) IsLength (here >>= λ place. number w32 >>= length_of place)
    length_to
    length_from
    (here_exact (Then IsU32 LengthR) (λ place. number w32 >>= length_of place) (λ place.
    then_exact IsU32 LengthR (number w32) (length_of place) u32_exact (λ n.
    if_exact (out_of_range n) (λ text m. ⊥) (IsDone n) (refused place CodeLength) (done n) (refused_exact (λ text m. ⊥) place CodeLength (λ text m h. h)) (done_exact n))))

-- ---- the content

abbrev Attributes : Pool → Code → List VType → List ℕ → Found → Type 0
Attributes p code first text found = AreCodeAttributes p code first text found.0 found.1

abbrev AttributesEnd : Pool → List VType → ℕ → ℕ → Code → List Handler → List ℕ → CodeDef → Type 0
AttributesEnd p first max_stack max_locals code handlers text out = (found : Found) × Attributes p code first text found × (made_code max_stack max_locals code handlers found ≡ out)

abbrev HandlersR : Pool → List VType → ℕ → ℕ → Code → List ℕ → CodeDef → Type 0
HandlersR p first max_stack max_locals code = Then (AreHandlers p code.1) (AttributesEnd p first max_stack max_locals code)

abbrev InsnsR : Pool → List VType → ℕ → ℕ → ℕ → List ℕ → CodeDef → Type 0
InsnsR p first max_stack max_locals len = Then (IsCode p len) (HandlersR p first max_stack max_locals)

abbrev ContentR : Pool → List VType → List ℕ → CodeDef → Type 0
ContentR p first = Then IsU16 (λ max_stack. Then IsU16 (λ max_locals. Then IsLength (InsnsR p first max_stack max_locals)))

content_to : (p : Pool) (class : List ℕ) (head : MethodHead) (text : List ℕ) (out : CodeDef) → ContentR p (first_types class head) text out → IsCodeContent p class head text out
content_to p class head text out h =
    let a = h.5 in
    let b = a.5 in
    let c = b.5 in
    let d = c.5 in
    let e = d.5 in
    let code = c.0 in
    let size : b.0 ≡ code.1.size = sym (c.4.size_is) in
    subst (λ (z : CodeDef). IsCodeContent p class head text z) e.2 (record {
      max_stack = h.1;
      max_locals = a.1;
      len = b.1;
      insns = c.1;
      handlers = d.1;
      attributes = d.2;
      offsets = code.1;
      frames = e.0.0;
      spelled = then_joined _ _ _ _ h.3 (then_joined _ _ _ _ a.3 (then_joined _ _ _ _ b.3 (then_joined _ _ _ _ c.3 (then_joined _ _ _ _ d.3 (last_joined d.2)))));
      max_stack_is = h.4;
      max_locals_is = a.4;
      len_is = subst (λ (k : ℕ). IsU32 b.1 k) size b.4.0;
      not_empty = subst (λ (k : ℕ). 0 < k) size b.4.1;
      not_long = subst (λ (k : ℕ). k ≤ 65535) size b.4.2;
      insns_are = subst (λ (k : ℕ). IsCode p k c.1 code) size c.4;
      handlers_are = d.4;
      attributes_are = e.1;
      frames_are = refl;
    })

-- code with the frames that it has
with_frames : (code : CodeDef) (frames : List (ℕ × Frame)) → frames ≡ code.frames → record code { frames = frames } ≡ code
with_frames code frames e = ap (λ (z : List (ℕ × Frame)). record code { frames = z }) e

content_from : (p : Pool) (class : List ℕ) (head : MethodHead) (text : List ℕ) (out : CodeDef) → IsCodeContent p class head text out → ContentR p (first_types class head) text out
content_from p class head text out h =
    let first = first_types class head in
    let code : Code = (out.insns, h.offsets) in
    let found : Found = (h.frames, out.lines) in
    let end : Attributes p code first (h.attributes ++ []) found = subst (λ (z : List ℕ). Attributes p code first z found) (sym (append-nil h.attributes)) h.attributes_are in
    let made : made_code out.max_stack out.max_locals code out.handlers found ≡ out = with_frames out (listed h.frames) (sym h.frames_are) in (
      out.max_stack,
      h.max_stack,
      _,
      h.spelled,
      h.max_stack_is,
      (
        out.max_locals,
        h.max_locals,
        _,
        refl,
        h.max_locals_is,
        (
          h.offsets.size,
          h.len,
          _,
          refl,
          (h.len_is, h.not_empty, h.not_long),
          (code, h.insns, _, refl, h.insns_are, (out.handlers, h.handlers, _, refl, h.handlers_are, (found, end, made))),
        ),
      ),
    )

pub content_exact : (p : Pool) (class : List ℕ) (head : MethodHead) → Exact (IsCodeContent p class head) (code_content p class head)
unfolding code_content
content_exact p class head =
    let first = first_types class head in
    Exact-same (ContentR p first) (IsCodeContent p class head) _ (content_to p class head) (content_from p class head)
    (then_exact IsU16 _ (number w16) _ u16_exact (λ max_stack.
    then_exact IsU16 _ (number w16) _ u16_exact (λ max_locals.
    then_exact IsLength (InsnsR p first max_stack max_locals) code_length _ length_exact (λ len.
    then_exact (IsCode p len) (HandlersR p first max_stack max_locals) (insns p len) _ (insns_exact p len) (λ code.
    then_exact (AreHandlers p code.1) (AttributesEnd p first max_stack max_locals code) (handlers p code.1) _ (handlers_exact p code.1) (λ rows.
    mapped_exact (Attributes p code first) (code_attributes p code first) (made_code max_stack max_locals code rows) (attributes_exact p code first)))))))
