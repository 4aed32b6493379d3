-- Branches that lead too far.
use Rattle.std.proofs.Common.{◌≡◌, ◌∙◌, ℕ, zero, suc, ◌+◌, ◌-◌, ◌<◌, ◌≤◌, Bool, true, false, List, [], ◌∷◌, ◌++◌, length, get_or, take, drop, refl, sym, ap, subst, Option, Some, None, arith}
use Rattle.std.specs.Prelude.{nat_lt, zip, slice_get, flat_map, option_and_then, option_to_list, min}
use Rattle.std.specs.Option.{option_or}
use Rattle.std.proofs.lemmas.Slice.Zip.{get_or-zip, length-zip}
use Rattle.std.proofs.lemmas.Option.{get_or_from_slice_get}
use Rattle.class_model.specs.declared.insn.Insn.{Insn}
use Rattle.class_model.specs.declared.class.CodeDef.{CodeDef}
use Rattle.class_model.specs.declared.class.MethodDef.{MethodDef}
use Rattle.class_limits.specs.Sizes.{size_at, end_from, offsets_from, uses_wide_goto, code_size, offsets_of}
use Rattle.class_limits.specs.Branches.{branch_target, far, far_branch, placed_insns}
use Rattle.class_limits.specs.Limits.{first, bad_size, codes_in, far_in_code, told, is_bad_size}
use Rattle.class_limits.proofs.Offsets.{end_above}
use Rattle.class_limits.proofs.First.{NoneYet, none_more, none_in_all, found_here, first_append, bad_flat, or_left, or_right}

-- each instruction has an offset
offsets_many : (wide : Bool) (pc : ℕ) (xs : List Insn) → length (offsets_from wide pc xs) ≡ length xs
unfolding offsets_from
offsets_many wide pc [] = refl
offsets_many wide pc (x ∷ xs) = ap suc (offsets_many wide (pc + size_at wide pc x) xs)

pub as_many_offsets : (code : CodeDef) → length (offsets_of code) ≡ length code.insns
unfolding offsets_of
as_many_offsets code = offsets_many (uses_wide_goto code) 0 code.insns

-- ---- instruction by instruction

zipped_is : (os : List ℕ) (xs : List Insn) (i o : ℕ) (x : Insn) → length xs ≡ length os → i < length xs → x ≡ get_or xs i x → slice_get os i ≡ Some o → (o, x) ≡ get_or (zip os xs) i (o, x)
zipped_is os xs i o x same lt is at =
    ap (λ y. (o, y)) is ∙ ap (λ p. (p, get_or xs i x)) (sym (get_or_from_slice_get os i o o at)) ∙ sym (get_or-zip os xs i (o, x) (omega arith) lt)

within_zip : (os : List ℕ) (xs : List Insn) (i : ℕ) → length xs ≡ length os → i < length xs → i < length (zip os xs)
within_zip os xs i same lt = omega (arith, length-zip os xs)

pub no_far_more : {B : Type 0} (f : ℕ × Insn → Option B) (os : List ℕ) (xs : List Insn) (i o : ℕ) (x : Insn) → NoneYet f (zip os xs) i → length xs ≡ length os → i < length xs → x ≡ get_or xs i x → slice_get os i ≡ Some o → f (o, x) ≡ None → NoneYet f (zip os xs) (i + 1)
no_far_more f os xs i o x none same lt is at nothing =
    none_more f (zip os xs) i (o, x) none (within_zip os xs i same lt) (zipped_is os xs i o x same lt is at) nothing

pub far_here : {B : Type 0} (f : ℕ × Insn → Option B) (os : List ℕ) (xs : List Insn) (i o : ℕ) (x : Insn) (y : B) → NoneYet f (zip os xs) i → length xs ≡ length os → i < length xs → x ≡ get_or xs i x → slice_get os i ≡ Some o → f (o, x) ≡ Some y → first f (zip os xs) ≡ Some y
far_here f os xs i o x y none same lt is at some =
    found_here f (zip os xs) i (o, x) y none (within_zip os xs i same lt) (zipped_is os xs i o x same lt is at) some

pub no_far : {B : Type 0} (f : ℕ × Insn → Option B) (os : List ℕ) (xs : List Insn) (i : ℕ) → NoneYet f (zip os xs) i → length xs ≡ length os → length xs ≤ i → first f (zip os xs) ≡ None
no_far f os xs i none same le = none_in_all f (zip os xs) i none (omega (arith, length-zip os xs))

-- ---- short code

-- no offset is past the end
offset_within : (wide : Bool) (pc : ℕ) (xs : List Insn) (k o : ℕ) → slice_get (offsets_from wide pc xs) k ≡ Some o → o ≤ end_from wide pc xs
unfolding offsets_from end_from
offset_within wide pc [] k o h = absurd cc
offset_within wide pc (x ∷ xs) zero o h =
    let here : pc ≡ o = cc in
    omega (arith, end_above wide (pc + size_at wide pc x) xs)
offset_within wide pc (x ∷ xs) (suc k) o h = offset_within wide (pc + size_at wide pc x) xs k o h

-- offsets of at most 32,767
AreNear : List ℕ → Type 0
AreNear os = (k o : ℕ) → slice_get os k ≡ Some o → o ≤ 32767

near : (from to : ℕ) → from ≤ 32767 → to ≤ 32767 → far from to ≡ None
near from to f t = grind arith

near_lead : (from : ℕ) (to : Option ℕ) → from ≤ 32767 → ((o : ℕ) → to ≡ Some o → o ≤ 32767) → option_and_then (far from) to ≡ None
near_lead from None f t = refl
near_lead from (Some to) f t = near from to f (t to refl)

near_branch : (os : List ℕ) (from : ℕ) (target : Option ℕ) → AreNear os → from ≤ 32767 → option_and_then (λ t. option_and_then (far from) (slice_get os t)) target ≡ None
unfolding AreNear
near_branch os from None n f = refl
near_branch os from (Some t) n f = near_lead from (slice_get os t) f (λ o. n t o)

none_far : (os starts : List ℕ) (xs : List Insn) → AreNear os → AreNear starts → first (far_branch os) (zip starts xs) ≡ None
unfolding AreNear first
none_far os [] xs n m = refl
none_far os (o ∷ starts) [] n m = refl
none_far os (o ∷ starts) (x ∷ xs) n m =
    ap (λ z. option_or z (first (far_branch os) (zip starts xs))) (near_branch os o (branch_target x) n (m 0 o refl)) ∙ none_far os starts xs n (λ k. m (suc k))

pub short_code : (code : CodeDef) → told (code_size code) ≤ 32767 → far_in_code code ≡ None
unfolding far_in_code code_size offsets_of AreNear
short_code code small =
    let near_all : AreNear (offsets_of code) = (λ k o h. omega (arith, offset_within (uses_wide_goto code) 0 code.insns k o h)) in
    none_far (offsets_of code) (offsets_of code) code.insns near_all near_all

-- ---- methods

size_small : (code : CodeDef) → bad_size (code ∷ []) ≡ None → code_size code ≤ 65535
unfolding bad_size
size_small code none = grind arith

pub size_in : (method : MethodDef) (code : CodeDef) → method.code ≡ Some code → bad_size (codes_in method) ≡ None → code_size code ≤ 65535
size_in method code is none = size_small code (subst (λ c. bad_size (option_to_list c) ≡ None) is none)

pub first_flat : {A B C : Type 0} (g : B → Option C) (f : A → List B) (xs : List A) → first g (flat_map f xs) ≡ first (λ x. first g (f x)) xs
unfolding first
first_flat g f [] = refl
first_flat g f (x ∷ xs) = first_append g (f x) (flat_map f xs) ∙ ap (option_or (first g (f x))) (first_flat g f xs)

-- where nothing is found in all, nothing is found in each
pub nothing_at : {A B : Type 0} (f : A → Option B) (xs : List A) (i : ℕ) (x : A) → first f xs ≡ None → i < length xs → x ≡ get_or xs i x → f x ≡ None
unfolding first
nothing_at f [] i x none lt is = absurd (omega arith)
nothing_at f (y ∷ ys) zero x none lt is = ap f is ∙ or_left (f y) (first f ys) none
nothing_at f (y ∷ ys) (suc i) x none lt is = nothing_at f ys i x (or_right (f y) (first f ys) none) (omega arith) is

-- the code of a method, where the size of no code is bad
pub sizes_in : (methods : List MethodDef) (i : ℕ) (method : MethodDef) → bad_size (flat_map codes_in methods) ≡ None → i < length methods → method ≡ get_or methods i method → bad_size (codes_in method) ≡ None
sizes_in methods i method none lt is = nothing_at (λ m. bad_size (codes_in m)) methods i method (sym (bad_flat codes_in methods) ∙ none) lt is
