-- No limit of the class file format is passed by the classes of the written set, that of the constant pool aside.
use Rattle.std.proofs.Common.{◌≡◌, ◌∙◌, ℕ, zero, suc, ◌+◌, ◌*◌, ◌≤◌, ◌^◌, Bool, true, false, List, [], ◌∷◌, ◌++◌, length, Option, Some, None, refl, sym, ap, subst, ⊎_elim, arith, length-append}
use Rattle.std.specs.Prelude.{◌⊎◌, ◌==◌, cond, codes, map, zip, All, nat_lt, is_none, option_map, option_and_then, option_to_list}
use Rattle.std.specs.List.{find, flat_map, list_all}
use Rattle.std.specs.Str.{chars}
use Rattle.std.proofs.lemmas.Bool.{le-ltb}
use Rattle.std.proofs.lemmas.Bool.Decides.{eqb_tells}
use Rattle.std.proofs.lemmas.List.{append-nil}
use Rattle.std.proofs.lemmas.List.Elements.{All-cons, All-nil, All-append, All-head, All-tail, All-weaker}
use Rattle.std.proofs.lemmas.List.Sums.{AllPass-from_list_all}
use Rattle.lists.specs.Texts.{units_of}
use Rattle.modified_utf8.specs.Text.{text_bytes, unit_bytes}
use Rattle.class_model.specs.declared.types.JType.{JType}
use Rattle.class_model.specs.declared.types.MethodRef.{MethodRef}
use Rattle.class_model.specs.declared.class.Frame.{Frame}
use Rattle.class_model.specs.declared.class.Handler.{Handler}
use Rattle.class_model.specs.declared.class.FieldDef.{FieldDef}
use Rattle.class_model.specs.declared.class.InnerRow.{InnerRow}
use Rattle.class_model.specs.declared.class.CodeDef.{CodeDef}
use Rattle.class_model.specs.declared.class.MethodDef.{MethodDef}
use Rattle.class_model.specs.declared.class.ClassDef.{ClassDef}
use Rattle.class_model.specs.declared.insn.Kind.TheVariants as kind
use Rattle.class_model.specs.declared.insn.Width.TheVariants as width
use Rattle.class_model.specs.declared.insn.StackOp.TheVariants as stack
use Rattle.class_model.specs.declared.insn.InvokeKind.TheVariants as invoke
use Rattle.class_model.specs.declared.insn.Insn.{Insn}
use Rattle.class_model.specs.declared.insn.Insn.TheVariants.{PushInt, Load, Store, Stack, Bin, Return, Invoke}
use Rattle.class_model.specs.Descriptor.{field_descriptor, method_descriptor}
use Rattle.class_limits.specs.Sizes.{size_at, end_from, offsets_from, offsets_of, uses_wide_goto, code_size}
use Rattle.class_limits.specs.Texts as texts
use Rattle.class_limits.specs.Texts.{insn_texts, code_texts, method_texts, class_texts}
use Rattle.class_limits.specs.Counts as counts
use Rattle.class_limits.specs.Counts.{class_counts}
use Rattle.class_limits.specs.Branches.{branch_target, far_branch, placed_insns}
use Rattle.class_limits.specs.Lengths as lengths
use Rattle.class_limits.specs.Lengths.{class_lengths}
use Rattle.class_limits.specs.Limits.{first, first_that, first_over, long_text, is_bad_size, bad_size, far_in_code, first_limit}
use Rattle.class_encoding.specs.Encoding.{limit_of}
use Rattle.instrument_set.proofs.PoolRoom.{PoolFits, form_fits, thrown_fits, object_fits, string_fits, system_fits, native_fits, report_fits}
use Rattle.run_state.specs.declared.config.Config.{Config}
use Rattle.first_form.specs.declared.frame.IntFrame.{IntFrame}
use Rattle.profile_check.specs.declared.profile.Names.{Names}
use Rattle.profile_check.specs.declared.profile.Names.TheVariants.{Source, Written}
use Rattle.first_form.specs.declared.natives.Native.{Native}
use Rattle.first_form.specs.declared.natives.Native.TheVariants.{Read, Write, Report}
use Rattle.small_base.specs.Members.{object_name, takes_int}
use Rattle.first_form.specs.Natives.{class_of, name_of, desc_of, ref_of}
use Rattle.first_form.specs.Typing.{Types, Runs, first_frame}
use Rattle.first_form.specs.FormOne.{main_desc, main_method, IsStraight, FormOne}
use Rattle.first_form.specs.FirstSet.{IsFirstSet}
use Rattle.small_base.specs.Base.{small_base}
use Rattle.first_form.specs.Base.{report_class}
use Rattle.instrument_set.specs.declared.marks.Marks.{Marks}
use Rattle.instrument_set.specs.Marking.{marks_of}
use Rattle.instrument_set.specs.Pieces.{call_piece, piece_of, pieces, after}
use Rattle.instrument_set.specs.Written.{cleared, written_code, written_method, written_class}
use Rattle.instrument_set.specs.WrittenSet.{written_base, written_set}
use Rattle.instrument_set.proofs.Typed.{written_straight}
use Rattle.instrument_set.proofs.Formed.{written_form, all_inserted, base_alone}
use Rattle.instrument_set.proofs.Beside.{each_of_base}
use Rattle.instrument_set.proofs.Headline.{written_one}

-- ---- the first number that is over a bound

-- none of the numbers is over a bound
abbrev pub AllWithin : ℕ → List ℕ → Type 0
AllWithin most [] = Unit {0}
AllWithin most (n ∷ ns) = (n ≤ most) × AllWithin most ns

not_over : (most n : ℕ) → n ≤ most → nat_lt most n ≡ false
not_over most n h = le-ltb most n h

none_found : (most : ℕ) (ns : List ℕ) → AllWithin most ns → find (nat_lt most) ns ≡ None
none_found most [] h = refl
none_found most (n ∷ ns) h = rw (not_over most n h.0) (none_found most ns h.1)

pub none_over : (most : ℕ) (ns : List ℕ) → AllWithin most ns → first_over most ns ≡ None
unfolding first_over
none_over most ns h = rw (none_found most ns h) refl

-- each text has at most so many bytes
abbrev IsShortText : List ℕ → Type 0
IsShortText text = length text ≤ 65535

short_texts : (texts : List (List ℕ)) → All IsShortText texts → AllWithin 65535 (map length texts)
short_texts [] h = tt
short_texts (t ∷ ts) h = (All-head IsShortText t ts h, short_texts ts (All-tail IsShortText t ts h))

no_long_text : (texts : List (List ℕ)) → All IsShortText texts → long_text texts ≡ None
unfolding long_text
no_long_text texts h = none_over 65535 (map length texts) (short_texts texts h)

all_one : {A : Type 0} (P : A → Type 0) (x : A) → P x → All P (x ∷ [])
all_one P x h = All-cons P x [] h (All-nil P)

all_two : {A : Type 0} (P : A → Type 0) (x y : A) → P x → P y → All P (x ∷ y ∷ [])
all_two P x y h g = All-cons P x (y ∷ []) h (all_one P y g)

-- ---- texts

three_texts : (a b c : List ℕ) → length a ≤ 65535 → length b ≤ 65535 → length c ≤ 65535 → All IsShortText (a ∷ b ∷ c ∷ [])
three_texts a b c h g k = All-cons IsShortText a (b ∷ c ∷ []) h (all_two IsShortText b c g k)

native_texts : (native : Native) → All IsShortText (insn_texts (Invoke invoke.Static (ref_of native)))
unfolding chars field_descriptor method_descriptor texts.name_texts
native_texts Read = three_texts (text_bytes (class_of Read)) (text_bytes (name_of Read)) (text_bytes (method_descriptor (desc_of Read))) (omega arith) (omega arith) (omega arith)
native_texts Write = three_texts (text_bytes (class_of Write)) (text_bytes (name_of Write)) (text_bytes (method_descriptor (desc_of Write))) (omega arith) (omega arith) (omega arith)
native_texts Report = three_texts (text_bytes (class_of Report)) (text_bytes (name_of Report)) (text_bytes (method_descriptor (desc_of Report))) (omega arith) (omega arith) (omega arith)

abbrev HasShortTexts : Insn → Type 0
HasShortTexts insn = All IsShortText (insn_texts insn)

insn_short : (most : ℕ) (insn : Insn) (f g : IntFrame) → Types Written most insn f g → HasShortTexts insn
insn_short most (PushInt number) f g h = All-nil IsShortText
insn_short most (Load kind.Int slot) f g h = All-nil IsShortText
insn_short most (Store kind.Int slot) f g h = All-nil IsShortText
insn_short most (Stack stack.Pop) f g h = All-nil IsShortText
insn_short most (Bin width.Int op) f g h = All-nil IsShortText
insn_short most (Invoke invoke.Static method) f g h = subst (λ (m : MethodRef). HasShortTexts (Invoke invoke.Static m)) (sym h.1) (native_texts h.0)
insn_short most _ f g h = absurd h

runs_short : (most : ℕ) (body : List Insn) (f g : IntFrame) → Runs Written most body f g → All IsShortText (flat_map insn_texts (body ++ Return None ∷ []))
runs_short most [] f g runs = All-nil IsShortText
runs_short most (x ∷ xs) f g runs =
    All-append IsShortText (insn_texts x) (flat_map insn_texts (xs ++ Return None ∷ [])) (insn_short most x f runs.0 runs.1) (runs_short most xs runs.0 g runs.2)

-- ---- a class of the form, written out

abbrev bare : CodeDef → CodeDef
bare code = record code { handlers = []; frames = []; lines = [] }

abbrev formed : ClassDef → CodeDef → ClassDef
formed class code = record class { super_name = Some object_name; interfaces = []; fields = []; methods = main_method (bare code) ∷ []; source = None; inner = [] }

code_is : (code : CodeDef) → IsStraight Written code → code ≡ bare code
code_is code straight =
    let made : List Handler → List (ℕ × Frame) → List (ℕ × ℕ) → CodeDef = λ hs fs ls. record code { handlers = hs; frames = fs; lines = ls } in
    ap (λ (hs : List Handler). made hs code.frames code.lines) straight.no_handler
    ∙ ap (λ (fs : List (ℕ × Frame)). made [] fs code.lines) straight.no_frame
    ∙ ap (λ (ls : List (ℕ × ℕ)). made [] [] ls) straight.no_line

class_is : (class : ClassDef) (form : FormOne Written class) → class ≡ formed class form.code
class_is class form =
    let header = form.header in
    let only = form.only_main ∙ ap (λ (code : CodeDef). main_method code ∷ []) (code_is form.code form.straight) in
    let made : Option (List ℕ) → List (List ℕ) → List FieldDef → List MethodDef → Option (List ℕ) → List InnerRow → ClassDef =
    λ above is fs ms source rows. record class { super_name = above; interfaces = is; fields = fs; methods = ms; source = source; inner = rows } in
    let ms : List MethodDef = main_method (bare form.code) ∷ [] in
    ap (λ (above : Option (List ℕ)). made above class.interfaces class.fields class.methods class.source class.inner) header.super_name
    ∙ ap (λ (is : List (List ℕ)). made (Some object_name) is class.fields class.methods class.source class.inner) header.no_interface
    ∙ ap (λ (fs : List FieldDef). made (Some object_name) [] fs class.methods class.source class.inner) header.no_field
    ∙ ap (λ (ms : List MethodDef). made (Some object_name) [] [] ms class.source class.inner) only
    ∙ ap (λ (source : Option (List ℕ)). made (Some object_name) [] [] ms source class.inner) header.no_source
    ∙ ap (λ (rows : List InnerRow). made (Some object_name) [] [] ms None rows) header.no_inner

-- ---- texts of such a class

nothing : (texts : List (List ℕ)) → All IsShortText texts → All IsShortText (texts ++ [])
nothing texts h = All-append IsShortText texts [] h (All-nil IsShortText)

insns_short : (code : CodeDef) → IsStraight Written code → All IsShortText (flat_map insn_texts code.insns)
insns_short code straight =
    subst (λ (xs : List Insn). All IsShortText (flat_map insn_texts xs)) (sym straight.returns) (runs_short code.max_stack straight.body (first_frame code.max_locals) straight.last straight.runs)

code_short : (code : CodeDef) → IsStraight Written code → All IsShortText (code_texts (bare code))
code_short code straight = nothing (flat_map insn_texts code.insns ++ []) (nothing (flat_map insn_texts code.insns) (insns_short code straight))

four_texts : (a b c d : List ℕ) (others : List (List ℕ)) → length a ≤ 65535 → length b ≤ 65535 → length c ≤ 65535 → length d ≤ 65535 → All IsShortText others → All IsShortText (a ∷ b ∷ c ∷ d ∷ others)
four_texts a b c d others h g k m rest =
    All-cons IsShortText a (b ∷ c ∷ d ∷ others) h (All-cons IsShortText b (c ∷ d ∷ others) g (All-cons IsShortText c (d ∷ others) k (All-cons IsShortText d others m rest)))

class_short : (class : ClassDef) (form : FormOne Written class) → length (text_bytes class.name) ≤ 16000 → All IsShortText (class_texts (formed class form.code))
unfolding chars field_descriptor method_descriptor texts.class_texts texts.header_texts texts.member_texts texts.attribute_texts texts.name_texts
class_short class form short =
    let one = code_texts (bare form.code) in
    four_texts (text_bytes class.name) (text_bytes object_name) (text_bytes (units_of (codes "main"))) (text_bytes (method_descriptor main_desc)) ((((one ++ []) ++ []) ++ []) ++ [])
    (omega (arith, short)) (omega arith) (omega arith) (omega arith)
    (nothing (((one ++ []) ++ []) ++ []) (nothing ((one ++ []) ++ []) (nothing (one ++ []) (nothing one (code_short form.code form.straight)))))

-- ---- counts

counts_few : (class : ClassDef) (code : CodeDef) → AllWithin 65535 (class_counts (formed class code))
unfolding counts.class_counts counts.header_counts counts.count_of
counts_few class code = (omega arith, (omega arith, (omega arith, (omega arith, (omega arith, (omega arith, (omega arith, (omega arith, tt))))))))

-- ---- bytes of code

cond_most : (b : Bool) (m x y : ℕ) → x ≤ m → y ≤ m → cond b x y ≤ m
cond_most true m x y h k = h
cond_most false m x y h k = k

cond_some : (b : Bool) (m x y : ℕ) → m ≤ x → m ≤ y → m ≤ cond b x y
cond_some true m x y h k = h
cond_some false m x y h k = k

-- an instruction of the form takes one to four bytes, wherever it stands
few_bytes : (names : Names) (wide : Bool) (pc most : ℕ) (insn : Insn) (f g : IntFrame) → Types names most insn f g → (1 ≤ size_at wide pc insn) × (size_at wide pc insn ≤ 4)
unfolding size_at
few_bytes names wide pc most (PushInt number) f g h = (cond_some _ 1 1 _ (omega arith) (cond_some _ 1 2 3 (omega arith) (omega arith)), cond_most _ 4 1 _ (omega arith) (cond_most _ 4 2 3 (omega arith) (omega arith)))
few_bytes names wide pc most (Load kind.Int slot) f g h = (cond_some _ 1 1 _ (omega arith) (cond_some _ 1 2 4 (omega arith) (omega arith)), cond_most _ 4 1 _ (omega arith) (cond_most _ 4 2 4 (omega arith) (omega arith)))
few_bytes names wide pc most (Store kind.Int slot) f g h = (cond_some _ 1 1 _ (omega arith) (cond_some _ 1 2 4 (omega arith) (omega arith)), cond_most _ 4 1 _ (omega arith) (cond_most _ 4 2 4 (omega arith) (omega arith)))
few_bytes names wide pc most (Stack stack.Pop) f g h = (omega arith, omega arith)
few_bytes names wide pc most (Bin width.Int op) f g h = (omega arith, omega arith)
few_bytes names wide pc most (Invoke invoke.Static method) f g h = (omega arith, omega arith)
few_bytes names wide pc most _ f g h = absurd h

-- where code of the form ends, by the count of its instructions
ends_within : (names : Names) (wide : Bool) (pc most : ℕ) (body : List Insn) (f g : IntFrame) → Runs names most body f g
    → (pc + length body + 1 ≤ end_from wide pc (body ++ Return None ∷ [])) × (end_from wide pc (body ++ Return None ∷ []) ≤ pc + 4 * length body + 1)
unfolding end_from size_at
ends_within names wide pc most [] f g runs = (omega arith, omega arith)
ends_within names wide pc most (x ∷ xs) f g runs =
    let one = few_bytes names wide pc most x f runs.0 runs.1 in
    let rest = ends_within names wide (pc + size_at wide pc x) most xs runs.0 g runs.2 in
    let low = one.0 in let high = one.1 in let rest_low = rest.0 in let rest_high = rest.1 in
    (omega (arith, low, rest_low), omega (arith, high, rest_high))

size_within : (names : Names) (code : CodeDef) → IsStraight names code → (1 ≤ code_size code) × (code_size code ≤ 4 * length code.insns + 1)
unfolding code_size
size_within names code straight =
    let wide = uses_wide_goto code in
    let ends = ends_within names wide 0 code.max_stack straight.body (first_frame code.max_locals) straight.last straight.runs in
    let is = ap (λ (xs : List Insn). end_from wide 0 xs) straight.returns in
    let count = ap (λ (xs : List Insn). length xs) straight.returns in
    let low = ends.0 in let high = ends.1 in
    (omega (arith, is, low), omega (arith, is, high, count, length-append straight.body (Return None ∷ [])))

insns_within : (names : Names) (code : CodeDef) → IsStraight names code → length code.insns ≤ code_size code
unfolding code_size
insns_within names code straight =
    let wide = uses_wide_goto code in
    let ends = ends_within names wide 0 code.max_stack straight.body (first_frame code.max_locals) straight.last straight.runs in
    let is = ap (λ (xs : List Insn). end_from wide 0 xs) straight.returns in
    let count = ap (λ (xs : List Insn). length xs) straight.returns in
    let low = ends.0 in
    omega (arith, is, low, count, length-append straight.body (Return None ∷ []))

main_once : (code other : CodeDef) → main_method code ∷ [] ≡ main_method other ∷ [] → code ≡ other
main_once code other e = let q = ap (λ (ms : List MethodDef). map (λ (m : MethodDef). m.code) ms) e in cc

-- ---- branches

insn_near : (offsets : List ℕ) (most pc : ℕ) (insn : Insn) (f g : IntFrame) → Types Written most insn f g → far_branch offsets (pc, insn) ≡ None
insn_near offsets most pc (PushInt number) f g h = refl
insn_near offsets most pc (Load kind.Int slot) f g h = refl
insn_near offsets most pc (Store kind.Int slot) f g h = refl
insn_near offsets most pc (Stack stack.Pop) f g h = refl
insn_near offsets most pc (Bin width.Int op) f g h = refl
insn_near offsets most pc (Invoke invoke.Static method) f g h = refl
insn_near offsets most pc _ f g h = absurd h

runs_near : (offsets : List ℕ) (wide : Bool) (pc most : ℕ) (body : List Insn) (f g : IntFrame) → Runs Written most body f g
    → first (far_branch offsets) (zip (offsets_from wide pc (body ++ Return None ∷ [])) (body ++ Return None ∷ [])) ≡ None
unfolding first offsets_from
runs_near offsets wide pc most [] f g runs = refl
runs_near offsets wide pc most (x ∷ xs) f g runs = rw (insn_near offsets most pc x f runs.0 runs.1) (runs_near offsets wide (pc + size_at wide pc x) most xs runs.0 g runs.2)

code_near : (code : CodeDef) → IsStraight Written code → far_in_code code ≡ None
unfolding far_in_code offsets_of
code_near code straight =
    subst (λ (xs : List Insn). first (far_branch (offsets_from (uses_wide_goto code) 0 code.insns)) (zip (offsets_from (uses_wide_goto code) 0 xs) xs) ≡ None) (sym straight.returns)
    (runs_near (offsets_from (uses_wide_goto code) 0 code.insns) (uses_wide_goto code) 0 code.max_stack straight.body (first_frame code.max_locals) straight.last straight.runs)

-- ---- a class of the form passes no limit

not_zero : (n : ℕ) → 1 ≤ n → n == 0 ≡ false
not_zero n some = ⊎_elim (λ yes. absurd (let zero_is = yes.1 in omega (arith, some, zero_is))) (λ no. no.0) (eqb_tells n 0)

no_bad_size : (n : ℕ) → 1 ≤ n → n ≤ 65535 → is_bad_size n ≡ false
no_bad_size n some few = rw (not_zero n some) (le-ltb 65535 n few)

size_good : (code : CodeDef) → IsStraight Written code → length code.insns ≤ 5400 → bad_size (bare code ∷ []) ≡ None
unfolding bad_size
size_good code straight few =
    let within = size_within Written code straight in
    let low = within.0 in let high = within.1 in
    let same = ap code_size (code_is code straight) in
    rw (no_bad_size (code_size (bare code)) (omega (arith, same, low)) (omega (arith, same, high, few))) refl

lengths_few : (class : ClassDef) (code : CodeDef) → IsStraight Written code → length code.insns ≤ 5400 → AllWithin 4294967295 (class_lengths (formed class code))
unfolding lengths.class_lengths lengths.length_of lengths.lengths_if lengths.code_length
lengths_few class code straight few =
    let within = size_within Written code straight in
    let high = within.1 in
    let same = ap code_size (code_is code straight) in
    (omega (arith, same, high, few), tt)

branches_near : (code : CodeDef) → IsStraight Written code → first far_in_code (bare code ∷ []) ≡ None
unfolding first
branches_near code straight = rw (subst (λ (c : CodeDef). far_in_code c ≡ None) (code_is code straight) (code_near code straight)) refl

pub form_unlimited : (class : ClassDef) → FormOne Written class → (code : CodeDef) → class.methods ≡ main_method code ∷ [] → length code.insns ≤ 5400 → length (text_bytes class.name) ≤ 16000 → first_limit class ≡ None
unfolding first_limit
form_unlimited class form code only few short =
    let same : form.code ≡ code = main_once form.code code (sym form.only_main ∙ only) in
    let few_insns : length form.code.insns ≤ 5400 = subst (λ (c : CodeDef). length c.insns ≤ 5400) (sym same) few in
    let whole = formed class form.code in
    subst (λ (c : ClassDef). first_limit c ≡ None) (sym (class_is class form))
    (rw (no_long_text (class_texts whole) (class_short class form short))
    (rw (none_over 65535 (class_counts whole) (counts_few class form.code))
    (rw (size_good form.code form.straight few_insns)
    (rw (branches_near form.code form.straight)
    (rw (none_over 4294967295 (class_lengths whole) (lengths_few class form.code form.straight few_insns)) refl)))))

-- ---- how many instructions are written

length_cleared : (from n : ℕ) → length (cleared from n) ≡ 2 * n
length_cleared from zero = refl
length_cleared from (suc n) = omega (arith, length_cleared (from + 1) n)

length_reported : (b : Bool) (insn x y z w : Insn) → length (cond b (x ∷ y ∷ z ∷ w ∷ []) [] ++ insn ∷ []) ≤ 5
length_reported true insn x y z w = omega arith
length_reported false insn x y z w = omega arith

length_call : (locals : ℕ) (marks : Marks) (insn : Insn) (result : Option JType) (d : ℕ) → length (call_piece locals marks insn result d) ≤ 5
length_call locals marks insn (Some given) d = omega arith
length_call locals marks insn None d = length_reported marks.write insn _ _ _ _

length_piece : (locals : ℕ) (marks : Marks) (insn : Insn) (d : ℕ) → length (piece_of locals marks insn d) ≤ 5
length_piece locals marks (PushInt number) d = omega arith
length_piece locals marks (Load k slot) d = omega arith
length_piece locals marks (Store k slot) d = omega arith
length_piece locals marks (Bin w op) d = omega arith
length_piece locals marks (Invoke k method) d = length_call locals marks (Invoke k method) method.desc.result d
length_piece locals marks _ d = omega arith

length_pieces : (locals : ℕ) (marks : Marks) (insns : List Insn) (d : ℕ) → length (pieces locals marks insns d) ≤ 5 * length insns
length_pieces locals marks [] d = omega arith
length_pieces locals marks (x ∷ xs) d =
    omega (arith, length-append (piece_of locals marks x d) (pieces locals marks xs (after x d)), length_piece locals marks x d, length_pieces locals marks xs (after x d))

-- of code of at most 1,000 bytes
length_written : (marks : Marks) (code : CodeDef) → IsStraight Source code → code_size code ≤ 1000 → code.max_locals ≤ 100 → code.max_stack ≤ 100 → length (written_code marks code).insns ≤ 5400
length_written marks code straight bytes locals words =
    let a = length-append (cleared code.max_locals (code.max_locals + code.max_stack)) (pieces code.max_locals marks code.insns 0) in
    let b = length_cleared code.max_locals (code.max_locals + code.max_stack) in
    let c = length_pieces code.max_locals marks code.insns 0 in
    let e = insns_within Source code straight in
    omega (arith, a, b, c, e, bytes, locals, words)

pub class_unlimited : (marks : Marks) (class : ClassDef) → FormOne Source class → first_limit (written_class marks class) ≡ None
class_unlimited marks class form =
    let kept = form.kept in
    let new = written_form marks class form in
    form_unlimited (written_class marks class) new (written_code marks form.code) (ap (λ (ms : List MethodDef). map (written_method marks) ms) form.only_main)
    (length_written marks form.code form.straight kept.few_bytes kept.few_locals kept.few_words) kept.named.few_bytes

-- ---- the classes beside it

-- a test of it
is_small_enough : ClassDef → Bool
is_small_enough class = is_none (first_limit class)

none_is : {A : Type 0} (o : Option A) → is_none o ≡ true → o ≡ None
none_is None h = refl
none_is (Some x) h = absurd cc

base_small : list_all is_small_enough small_base ≡ true
unfolding is_small_enough small_base chars field_descriptor method_descriptor first_limit long_text first_over bad_size code_size uses_wide_goto end_from size_at first far_in_code offsets_of offsets_from texts.class_texts texts.header_texts texts.member_texts texts.attribute_texts texts.name_texts counts.class_counts counts.header_counts counts.count_of lengths.class_lengths lengths.length_of lengths.lengths_if lengths.code_length
base_small = refl

small_base_unlimited : All (λ class. first_limit class ≡ None) small_base
unfolding is_small_enough
small_base_unlimited =
    All-weaker (λ (class : ClassDef). is_small_enough class ≡ true) (λ (class : ClassDef). first_limit class ≡ None) (λ class h. none_is (first_limit class) h) small_base (AllPass-from_list_all is_small_enough small_base base_small)

report_unlimited : first_limit report_class ≡ None
unfolding chars field_descriptor method_descriptor first_limit long_text first_over bad_size code_size uses_wide_goto end_from size_at first far_in_code offsets_of offsets_from texts.class_texts texts.header_texts texts.member_texts texts.attribute_texts texts.name_texts counts.class_counts counts.header_counts counts.count_of lengths.class_lengths lengths.length_of lengths.lengths_if lengths.code_length report_class
report_unlimited = refl

-- ---- with the limit of the constant pool

abbrev pub IsUnlimited : ClassDef → Type 0
IsUnlimited class = limit_of class ≡ None

unlimited : (class : ClassDef) → first_limit class ≡ None → PoolFits class → IsUnlimited class
unfolding limit_of
unlimited class sizes pool = rw sizes pool

base_fits : All PoolFits small_base
base_fits = each_of_base PoolFits (λ name above h. thrown_fits name above) object_fits string_fits system_fits native_fits

base_unlimited : All IsUnlimited written_base
base_unlimited =
    all_inserted IsUnlimited report_class small_base (unlimited report_class report_unlimited report_fits)
    (λ k d l. unlimited _ (small_base_unlimited k d l) (base_fits k d l))

pool_fits : (marks : Marks) (class : ClassDef) → FormOne Source class → PoolFits (written_class marks class)
pool_fits marks class form =
    let kept = form.kept in
    let new = written_form marks class form in
    form_fits (written_class marks class) new (written_code marks form.code) (ap (λ (ms : List MethodDef). map (written_method marks) ms) form.only_main) (written_straight marks form.code form.straight)
    (length_written marks form.code form.straight kept.few_bytes kept.few_locals kept.few_words)

-- every class of the written set
pub written_unlimited : (set : List ClassDef) (config : Config) → IsFirstSet set → All IsUnlimited (written_set (marks_of config) set)
written_unlimited set config first =
    let marks = marks_of config in
    ⊎_elim
    (λ (e : set ≡ small_base). subst (λ (s : List ClassDef). All IsUnlimited (written_set marks s)) (sym e) (subst (λ (w : List ClassDef). All IsUnlimited w) (sym (base_alone marks)) base_unlimited))
    (λ (q : (class : ClassDef) × (set ≡ class ∷ small_base) × FormOne Source class).
    subst (λ (s : List ClassDef). All IsUnlimited (written_set marks s)) (sym q.1)
    (subst (λ (w : List ClassDef). All IsUnlimited w) (sym (written_one marks q.0))
    (all_inserted IsUnlimited (written_class marks q.0) written_base (unlimited (written_class marks q.0) (class_unlimited marks q.0 q.2) (pool_fits marks q.0 q.2)) base_unlimited)))
    first
