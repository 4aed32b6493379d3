-- Where the instructions of code begin: each at an offset of its own, no farther than the code's end.
use Rattle.std.proofs.Common.{◌≡◌, ◌∙◌, ℕ, zero, suc, ◌<◌, ◌≤◌, ◌+◌, Bool, true, false, List, [], ◌∷◌, length, Option, Some, None, refl, sym, ap, subst, arith, lit<, slice_get}
use Rattle.std.specs.Prelude.{pos, ◌-ℤ◌, nat_lt, ◌&&◌, ◌==◌, FitsSigned, MatchBool, All, zip, option_and_then, if◌then◌else◌}
use Rattle.std.specs.Option.{option_or}
use Rattle.std.specs.List.{position_or_len}
use Rattle.std.specs.Int.{w16}
use Rattle.std.proofs.lemmas.Bool.{lt-ltb}
use Rattle.std.proofs.lemmas.Bool.Decides.{nat_tests}
use Rattle.std.proofs.lemmas.Int.{ints}
use Rattle.std.proofs.lemmas.List.Elements.{All-nil, All-cons, All-head, All-tail}
use Rattle.class_model.specs.declared.insn.Insn.{Insn}
use Rattle.class_model.specs.declared.insn.Insn.TheVariants.{PushInt, PushLong, Load, Store, Iinc, If, IfInt, IfRef, IfNull, Goto, TableSwitch, LookupSwitch, Invoke}
use Rattle.class_model.specs.declared.insn.InvokeKind.{InvokeKind}
use Rattle.class_model.specs.declared.insn.InvokeKind.TheVariants as calls
use Rattle.class_model.specs.declared.class.CodeDef.{CodeDef}
use Rattle.class_limits.specs.Sizes.{CodeLayout, is_small_int, is_small_long, invoke_size, size_at, end_from, offsets_from, code_size, offsets_of, layout_of, or_end, offset_at}
use Rattle.class_limits.specs.Branches.{far, far_branch}
use Rattle.class_limits.specs.Limits.{first}
use Rattle.class_limits.proofs.Offsets.{end_above}
use Rattle.opcode_table.specs.Writing.{fits_i8}
use Rattle.insn_code.specs.Offsets.{start_number}
use Rattle.class_shape.specs.ShapedInsn.{ShapedInsn}
use Rattle.insn_spelling.specs.Raw.{distance}
use Rattle.insn_spelling.specs.Conditions.{Small, FitsBranch, LaysOut, NoneFar, Writable}
use Rattle.insn_spelling.proofs.Jumps.{Found}

-- ---- an instruction takes a byte or more

if_some : (b : Bool) (m n : ℕ) → 0 < m → 0 < n → 0 < (if b then m else n)
if_some true m n h k = h
if_some false m n h k = k

call_some : (kind : InvokeKind) → 0 < invoke_size kind
call_some calls.Virtual = lit< tt
call_some calls.Special = lit< tt
call_some calls.Static = lit< tt
call_some calls.Interface = lit< tt

pub size_some : (wide : Bool) (pc : ℕ) (insn : Insn) → 0 < size_at wide pc insn
unfolding size_at
size_some wide pc (PushInt n) = if_some (is_small_int n) 1 _ (lit< tt) (if_some (fits_i8 n) 2 3 (lit< tt) (lit< tt))
size_some wide pc (PushLong n) = if_some (is_small_long n) 1 3 (lit< tt) (lit< tt)
size_some wide pc (Load kind slot) = if_some (nat_lt slot 4) 1 _ (lit< tt) (if_some (nat_lt slot 256) 2 4 (lit< tt) (lit< tt))
size_some wide pc (Store kind slot) = if_some (nat_lt slot 4) 1 _ (lit< tt) (if_some (nat_lt slot 256) 2 4 (lit< tt) (lit< tt))
size_some wide pc (Iinc slot step) = if_some (nat_lt slot 256 && fits_i8 step) 3 6 (lit< tt) (lit< tt)
size_some wide pc (Goto target) = if_some wide 5 3 (lit< tt) (lit< tt)
size_some wide pc (TableSwitch low default targets) = omega arith
size_some wide pc (LookupSwitch default rows) = omega arith
size_some wide pc (Invoke kind method) = call_some kind
size_some wide pc _ = lit< tt

-- ---- offsets ascend

some_same : (a b : ℕ) → (let x : Option ℕ = Some a in x) ≡ Some b → a ≡ b
some_same a b h = cc

pub record At (wide : Bool) (pc : ℕ) (insns : List Insn) (k offset : ℕ) : Type 0 where
  pub above : pc ≤ offset
  pub within : offset ≤ end_from wide pc insns
  pub number : position_or_len (λ start. start == offset) (offsets_from wide pc insns) ≡ k
  pub there : k < length (offsets_from wide pc insns)

pub at_of : (wide : Bool) (pc : ℕ) (insns : List Insn) (k offset : ℕ) → slice_get (offsets_from wide pc insns) k ≡ Some offset → At wide pc insns k offset
unfolding offsets_from end_from
at_of wide pc [] k offset h = absurd cc
at_of wide pc (insn ∷ insns) zero offset h =
    let same : pc ≡ offset = some_same pc offset h in
    let here : (pc == offset) ≡ true = grind (arith, nat_tests) in
    record {
      above = omega arith;
      within = omega (arith, end_above wide (pc + size_at wide pc insn) insns);
      number = rw here refl;
      there = omega arith;
    }
at_of wide pc (insn ∷ insns) (suc k) offset h =
    let next = at_of wide (pc + size_at wide pc insn) insns k offset h in
    let behind : pc < offset = omega (arith, size_some wide pc insn, next.above) in
    let other : (pc == offset) ≡ false = grind (arith, nat_tests) in
    record {
      above = omega arith;
      within = next.within;
      number = rw other (omega (arith, next.number));
      there = omega (arith, next.there);
    }

pub there_is : (xs : List ℕ) (k : ℕ) → k < length xs → (x : ℕ) × (slice_get xs k ≡ Some x)
there_is [] k lt = absurd (omega arith)
there_is (x ∷ xs) zero lt = (x, refl)
there_is (x ∷ xs) (suc k) lt = there_is xs k (omega arith)

pub number_found : (wide : Bool) (pc : ℕ) (insns : List Insn) (k offset : ℕ) → slice_get (offsets_from wide pc insns) k ≡ Some offset → start_number (offsets_from wide pc insns) offset ≡ Some k
number_found wide pc insns k offset h =
    let a = at_of wide pc insns k offset h in
    let test : nat_lt (position_or_len (λ start. start == offset) (offsets_from wide pc insns)) (length (offsets_from wide pc insns)) ≡ true = rw a.number (lt-ltb k _ a.there) in
    rw (test, a.number) refl

pub offset_of : (layout : CodeLayout) (k offset : ℕ) → slice_get layout.starts k ≡ Some offset → offset_at layout k ≡ offset
offset_of layout k offset h = ap (or_end layout.size) h

-- ---- the layout of code

pub layout_is : (code : CodeDef) → LaysOut (layout_of code) code.insns
unfolding layout_of code_size offsets_of
layout_is code = record { starts_are = refl; size_is = refl }

pub lays_small : (layout : CodeLayout) (insns : List Insn) (most : ℕ) → LaysOut layout insns → layout.size ≤ most → (number : ℕ) → offset_at layout number ≤ most
lays_small layout insns most lays size number = by (slice_get layout.starts number) refl
  where
    by : (o : Option ℕ) → slice_get layout.starts number ≡ o → or_end layout.size o ≤ most
    by None h = size
    by (Some offset) h =
        let a = at_of layout.wide_goto 0 insns number offset (sym (ap (λ (xs : List ℕ). slice_get xs number) lays.starts_are) ∙ h) in
        omega (arith, a.within, lays.size_is)

pub lays_found : (layout : CodeLayout) (insns : List Insn) → LaysOut layout insns → Found layout
lays_found layout insns lays k lt =
    let there = there_is layout.starts k lt in
    let found = number_found layout.wide_goto 0 insns k there.0 (sym (ap (λ (xs : List ℕ). slice_get xs k) lays.starts_are) ∙ there.1) in
    rw (offset_of layout k there.0 there.1) (ap (λ (xs : List ℕ). start_number xs there.0) lays.starts_are ∙ found)

pub offsets_length : (wide : Bool) (pc : ℕ) (insns : List Insn) → length (offsets_from wide pc insns) ≡ length insns
unfolding offsets_from
offsets_length wide pc [] = refl
offsets_length wide pc (insn ∷ insns) = omega (arith, offsets_length wide (pc + size_at wide pc insn) insns)

pub lays_length : (layout : CodeLayout) (insns : List Insn) → LaysOut layout insns → length layout.starts ≡ length insns
lays_length layout insns lays = ap length lays.starts_are ∙ offsets_length layout.wide_goto 0 insns

-- ---- no branch leads too far

near_by : (from to : ℕ) → far from to ≡ None → FitsSigned w16 (pos to -ℤ pos from)
near_by from to h = grind (arith, ints, nat_tests)

near_of : (layout : CodeLayout) (pc target : ℕ) → target < length layout.starts → option_and_then (far pc) (slice_get layout.starts target) ≡ None → FitsSigned w16 (distance layout pc target)
near_of layout pc target within h =
    let there = there_is layout.starts target within in
    let is_near : far pc there.0 ≡ None = sym (ap (option_and_then (far pc)) there.1) ∙ h in
    rw (offset_of layout target there.0 there.1) (near_by pc there.0 is_near)

goto_near : (layout : CodeLayout) (pc target : ℕ) (wide : Bool) → (wide ≡ false → (pc ≤ 32767) × (offset_at layout target ≤ 32767)) → MatchBool wide (Unit {0}) (FitsSigned w16 (distance layout pc target))
goto_near layout pc target true h = tt
goto_near layout pc target false h =
    let parts = h refl in
    let p : pc ≤ 32767 = parts.0 in
    let q : offset_at layout target ≤ 32767 = parts.1 in
    omega (arith, ints)

branch_fits : (layout : CodeLayout) (pc : ℕ) (insn : Insn) → ShapedInsn (length layout.starts) insn → far_branch layout.starts (pc, insn) ≡ None → ((target : ℕ) → layout.wide_goto ≡ false → (pc ≤ 32767) × (offset_at layout target ≤ 32767)) → FitsBranch layout pc insn
branch_fits layout pc (If cond target) shaped near gotos = near_of layout pc target shaped near
branch_fits layout pc (IfInt cond target) shaped near gotos = near_of layout pc target shaped near
branch_fits layout pc (IfRef same target) shaped near gotos = near_of layout pc target shaped near
branch_fits layout pc (IfNull null target) shaped near gotos = near_of layout pc target shaped near
branch_fits layout pc (Goto target) shaped near gotos = goto_near layout pc target layout.wide_goto (gotos target)
branch_fits layout pc insn shaped near gotos = tt

neither : {A : Type 0} (x y : Option A) → option_or x y ≡ None → (x ≡ None) × (y ≡ None)
neither None y h = (refl, h)
neither (Some a) y h = absurd cc

-- each instruction can be written at its offset
writable_from : (layout : CodeLayout) (pc : ℕ) (insns : List Insn) → Small layout → end_from layout.wide_goto pc insns ≤ 65535 → (layout.wide_goto ≡ false → end_from layout.wide_goto pc insns ≤ 32767)
    → ((target : ℕ) → layout.wide_goto ≡ false → offset_at layout target ≤ 32767) → All (ShapedInsn (length layout.starts)) insns → first (far_branch layout.starts) (zip (offsets_from layout.wide_goto pc insns) insns) ≡ None
    → All (λ x. Writable layout (length layout.starts) x.0 x.1) (zip (offsets_from layout.wide_goto pc insns) insns)
unfolding offsets_from end_from first
writable_from layout pc [] small ends low targets shaped near = All-nil _
writable_from layout pc (insn ∷ insns) small ends low targets shaped near =
    let size : ℕ = size_at layout.wide_goto pc insn in
    let parts = neither (far_branch layout.starts (pc, insn)) _ near in
    let above : pc + size ≤ end_from layout.wide_goto (pc + size) insns = end_above layout.wide_goto (pc + size) insns in
    let One : Insn → Type 0 = ShapedInsn (length layout.starts) in
    All-cons (λ (x : ℕ × Insn). Writable layout (length layout.starts) x.0 x.1) (pc, insn) _
    (record {
      small = small;
      near = omega arith;
      shaped = All-head One insn insns shaped;
      branch = branch_fits layout pc insn (All-head One insn insns shaped) parts.0 (λ target h. (let e = low h in omega (arith, e), targets target h));
      size = omega arith;
    })
    (writable_from layout (pc + size) insns small ends low targets (All-tail One insn insns shaped) parts.1)

pub lays_writable : (layout : CodeLayout) (insns : List Insn) → LaysOut layout insns → layout.size ≤ 65535 → NoneFar layout insns → All (ShapedInsn (length insns)) insns → All (λ x. Writable layout (length layout.starts) x.0 x.1) (zip layout.starts insns)
lays_writable layout insns lays size none shaped =
    let starts : List ℕ = offsets_from layout.wide_goto 0 insns in
    let near : first (far_branch layout.starts) (zip starts insns) ≡ None = sym (ap (λ (xs : List ℕ). first (far_branch layout.starts) (zip xs insns)) lays.starts_are) ∙ none.near in
    let all = writable_from layout 0 insns (lays_small layout insns 65535 lays size) (omega (arith, lays.size_is)) (λ h. let e = none.gotos h in omega (arith, e, lays.size_is))
    (λ target h. lays_small layout insns 32767 lays (none.gotos h) target) (subst (λ (n : ℕ). All (ShapedInsn n) insns) (sym (lays_length layout insns lays)) shaped) near in
    subst (λ (xs : List ℕ). All (λ x. Writable layout (length layout.starts) x.0 x.1) (zip xs insns)) (sym lays.starts_are) all

-- there are no more instructions than bytes
count_within : (wide : Bool) (pc : ℕ) (insns : List Insn) → pc + length insns ≤ end_from wide pc insns
unfolding end_from
count_within wide pc [] = omega arith
count_within wide pc (insn ∷ insns) = omega (arith, size_some wide pc insn, count_within wide (pc + size_at wide pc insn) insns)

pub few_insns : (layout : CodeLayout) (insns : List Insn) → LaysOut layout insns → length insns ≤ layout.size
few_insns layout insns lays = omega (arith, lays.size_is, count_within layout.wide_goto 0 insns)

-- ---- the code's end

step_before : (wide : Bool) (pc : ℕ) (insns : List Insn) (k offset : ℕ) → slice_get (offsets_from wide pc insns) k ≡ Some offset → offset < end_from wide pc insns
unfolding offsets_from end_from
step_before wide pc [] k offset h = absurd cc
step_before wide pc (insn ∷ insns) zero offset h = let same : pc ≡ offset = some_same pc offset h in omega (arith, size_some wide pc insn, end_above wide (pc + size_at wide pc insn) insns)
step_before wide pc (insn ∷ insns) (suc k) offset h = step_before wide (pc + size_at wide pc insn) insns k offset h

-- an instruction begins before the end
pub offset_before : (layout : CodeLayout) (insns : List Insn) (number : ℕ) → LaysOut layout insns → number < length insns → offset_at layout number < layout.size
offset_before layout insns number lays within =
    let there = there_is layout.starts number (omega (arith, lays_length layout insns lays)) in
    let before : there.0 < end_from layout.wide_goto 0 insns = step_before layout.wide_goto 0 insns number there.0 (sym (ap (λ (xs : List ℕ). slice_get xs number) lays.starts_are) ∙ there.1) in
    omega (arith, offset_of layout number there.0 there.1, before, lays.size_is)

behind_all : (xs : List ℕ) (k : ℕ) → length xs ≤ k → slice_get xs k ≡ None
behind_all [] k le = refl
behind_all (x ∷ xs) zero le = absurd (omega arith)
behind_all (x ∷ xs) (suc k) le = behind_all xs k (omega arith)

-- and behind the last of them stands the end
pub lays_end : (layout : CodeLayout) (insns : List Insn) (number : ℕ) → LaysOut layout insns → length insns ≤ number → offset_at layout number ≡ layout.size
lays_end layout insns number lays behind = ap (or_end layout.size) (behind_all layout.starts number (omega (arith, lays_length layout insns lays)))

offsets_ascend : (wide : Bool) (pc : ℕ) (insns : List Insn) (k m a b : ℕ) → slice_get (offsets_from wide pc insns) k ≡ Some a → slice_get (offsets_from wide pc insns) m ≡ Some b → k < m → a < b
unfolding offsets_from
offsets_ascend wide pc [] k m a b h g lt = absurd cc
offsets_ascend wide pc (insn ∷ insns) k zero a b h g lt = absurd (omega arith)
offsets_ascend wide pc (insn ∷ insns) zero (suc m) a b h g lt =
    let same : pc ≡ a = some_same pc a h in
    let behind = at_of wide (pc + size_at wide pc insn) insns m b g in
    omega (arith, behind.above, size_some wide pc insn)
offsets_ascend wide pc (insn ∷ insns) (suc k) (suc m) a b h g lt = offsets_ascend wide (pc + size_at wide pc insn) insns k m a b h g (omega arith)

-- an instruction begins behind each one before it
pub lays_ascend : (layout : CodeLayout) (insns : List Insn) (k m : ℕ) → LaysOut layout insns → k < m → m < length insns → offset_at layout k < offset_at layout m
lays_ascend layout insns k m lays lt within =
    let a = there_is layout.starts k (omega (arith, lays_length layout insns lays)) in
    let b = there_is layout.starts m (omega (arith, lays_length layout insns lays)) in
    let at_k = sym (ap (λ (xs : List ℕ). slice_get xs k) lays.starts_are) ∙ a.1 in
    let at_m = sym (ap (λ (xs : List ℕ). slice_get xs m) lays.starts_are) ∙ b.1 in
    omega (arith, offset_of layout k a.0 a.1, offset_of layout m b.0 b.1, offsets_ascend layout.wide_goto 0 insns k m a.0 b.0 at_k at_m lt)
