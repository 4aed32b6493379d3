-- Code of the first form finds what its pieces need.
use Rattle.std.proofs.Common.{◌≡◌, ℕ, zero, suc, ◌+◌, ◌-◌, ◌≤◌, List, [], ◌∷◌, ◌++◌, length, Some, None, refl, sym, ap, ◌∙◌, subst, inl, inr, ⊎_elim, arith}
use Rattle.std.specs.Prelude.{slice_get, replicate, All}
use Rattle.std.specs.Str.{chars}
use Rattle.std.proofs.lemmas.Option.{same_Some, slice_get_within}
use Rattle.class_model.specs.declared.class.VType.TheVariants as types
use Rattle.class_model.specs.declared.class.VType.{VType}
use Rattle.class_model.specs.declared.types.MethodRef.{MethodRef}
use Rattle.class_model.specs.declared.class.CodeDef.{CodeDef}
use Rattle.class_model.specs.declared.class.MethodDef.{MethodDef}
use Rattle.class_model.specs.declared.class.ClassDef.{ClassDef}
use Rattle.class_model.specs.declared.insn.Kind.TheVariants as kind
use Rattle.class_model.specs.declared.insn.Width.TheVariants as width
use Rattle.class_model.specs.declared.insn.StackOp.TheVariants as stack
use Rattle.class_model.specs.declared.insn.InvokeKind.TheVariants as invoke
use Rattle.class_model.specs.declared.insn.BinOp.{BinOp}
use Rattle.class_model.specs.declared.insn.BinOp.TheVariants as operation
use Rattle.class_model.specs.declared.insn.Insn.{Insn}
use Rattle.class_model.specs.declared.insn.Insn.TheVariants.{PushInt, Load, Store, Stack, Bin, Return, Invoke}
use Rattle.run_state.specs.Natives as machine
use Rattle.first_form.specs.declared.frame.IntFrame.{IntFrame}
use Rattle.profile_check.specs.declared.profile.Names.TheVariants.{Source}
use Rattle.first_form.specs.declared.natives.Native.{Native}
use Rattle.first_form.specs.declared.natives.Native.TheVariants.{Read, Write, Report}
use Rattle.first_form.specs.Natives as form
use Rattle.first_form.specs.Typing.{Types, Runs, Calls, first_frame, IsFirstOp}
use Rattle.first_form.specs.FormOne.{main_method, IsStraight, FormOne}
use Rattle.instrument_set.specs.Pieces.{after, Fits, AllFit}
use Rattle.instrument_set.specs.Written.{CanWriteCode, CanWriteMethod, CanWriteClass}
use Rattle.instrument_set.proofs.Natives.{ref_of}
use Rattle.instrument_set.proofs.SlotLaws.{length_set}
use Rattle.instrument_set.proofs.Fine.{NeverFails, Fine, FallsOn, depths, AreFine}

never_fails : (op : BinOp) → IsFirstOp op → NeverFails op
never_fails operation.Add h = tt
never_fails operation.And h = tt
never_fails operation.Or h = tt
never_fails operation.Xor h = tt
never_fails _ h = absurd h

read_same : form.ref_of Read ≡ ref_of machine.Read
unfolding chars
read_same = refl

write_same : form.ref_of Write ≡ ref_of machine.Write
unfolding chars
write_same = refl

call_fine : (locals words : ℕ) (native : Native) (method : MethodRef) (f g : IntFrame) → method ≡ form.ref_of native → Calls Source words native f g → Fine locals words (Invoke invoke.Static method) f.depth
call_fine locals words Read method f g is h = inl (is ∙ read_same, h.0)
call_fine locals words Write method f g is h = inr (is ∙ write_same, omega (arith, h.0))
call_fine locals words Report method f g is h = absurd h

-- an instruction that types is fine
insn_fine : (locals words : ℕ) (insn : Insn) (f g : IntFrame) → length f.locals ≡ locals → f.depth ≤ words → Types Source words insn f g → Fine locals words insn f.depth
insn_fine locals words (PushInt number) f g sized low h = h.0
insn_fine locals words (Load kind.Int slot) f g sized low h = (let q = slice_get_within f.locals slot types.Int h.0 in omega (arith, q, sized), h.1.0)
insn_fine locals words (Store kind.Int slot) f g sized low h = (omega (arith, h.0, sized), omega (arith, h.1))
insn_fine locals words (Stack stack.Pop) f g sized low h = omega (arith, h.0)
insn_fine locals words (Bin width.Int op) f g sized low h = (never_fails op h.0, omega (arith, h.1.0, h.1.1), low)
insn_fine locals words (Invoke invoke.Static method) f g sized low h = call_fine locals words h.0 method f g h.1 h.2
insn_fine locals words _ f g sized low h = absurd h

call_depth : (words : ℕ) (native : Native) (method : MethodRef) (f g : IntFrame) → method ≡ form.ref_of native → Calls Source words native f g → g.depth ≡ after (Invoke invoke.Static method) f.depth
call_depth words Read method f g is h = h.1 ∙ ap (λ (m : MethodRef). after (Invoke invoke.Static m) f.depth) (sym is)
call_depth words Write method f g is h = (let q : g.depth ≡ f.depth - 1 = omega (arith, h.0) in q) ∙ ap (λ (m : MethodRef). after (Invoke invoke.Static m) f.depth) (sym is)
call_depth words Report method f g is h = absurd h

-- the depth behind it
pub insn_depth : (words : ℕ) (insn : Insn) (f g : IntFrame) → Types Source words insn f g → g.depth ≡ after insn f.depth
insn_depth words (PushInt number) f g h = h.1
insn_depth words (Load kind.Int slot) f g h = h.1.1
insn_depth words (Store kind.Int slot) f g h = omega (arith, h.1)
insn_depth words (Stack stack.Pop) f g h = omega (arith, h.0)
insn_depth words (Bin width.Int op) f g h = omega (arith, h.1.1)
insn_depth words (Invoke invoke.Static method) f g h = call_depth words h.0 method f g h.1 h.2
insn_depth words _ f g h = absurd h

call_bound : (words : ℕ) (native : Native) (f g : IntFrame) → f.depth ≤ words → Calls Source words native f g → (g.depth ≤ words) × (length g.locals ≡ length f.locals)
call_bound words Read f g low h = (omega (arith, h.0, h.1), ap length h.2)
call_bound words Write f g low h = (omega (arith, h.0, low), ap length h.1)
call_bound words Report f g low h = absurd h

-- the stack keeps within its bound, and the locals keep their count
pub insn_bound : (words : ℕ) (insn : Insn) (f g : IntFrame) → f.depth ≤ words → Types Source words insn f g → (g.depth ≤ words) × (length g.locals ≡ length f.locals)
insn_bound words (PushInt number) f g low h = (omega (arith, h.0, h.1), ap length h.2)
insn_bound words (Load kind.Int slot) f g low h = (omega (arith, h.1.0, h.1.1), ap length h.1.2)
insn_bound words (Store kind.Int slot) f g low h = (omega (arith, h.1, low), ap length h.2 ∙ length_set f.locals slot types.Int)
insn_bound words (Stack stack.Pop) f g low h = (omega (arith, h.0, low), ap length h.1)
insn_bound words (Bin width.Int op) f g low h = (omega (arith, h.1.1, low), ap length h.1.2)
insn_bound words (Invoke invoke.Static method) f g low h = call_bound words h.0 f g low h.2
insn_bound words _ f g low h = absurd h

abbrev returning : List Insn → List Insn
returning body = body ++ Return None ∷ []

first_depth : (body : List Insn) (d : ℕ) → slice_get (depths (returning body) d) 0 ≡ Some d
first_depth [] d = refl
first_depth (x ∷ xs) d = refl

each_fine : (locals words : ℕ) (body : List Insn) (f last : IntFrame) (d : ℕ) → d ≡ f.depth → length f.locals ≡ locals → f.depth ≤ words → Runs Source words body f last
    → (pc e : ℕ) (insn : Insn) → slice_get (returning body) pc ≡ Some insn → slice_get (depths (returning body) d) pc ≡ Some e → Fine locals words insn e
each_fine locals words [] f last d deep sized low runs zero e insn i g = subst (λ (x : Insn). Fine locals words x e) (same_Some (Return None) insn i) tt
each_fine locals words [] f last d deep sized low runs (suc pc) e insn i g = cc
each_fine locals words (x ∷ xs) f last d deep sized low runs zero e insn i g =
    subst (λ (y : Insn). Fine locals words y e) (same_Some x insn i)
    (subst (λ (k : ℕ). Fine locals words x k) (sym deep ∙ same_Some d e g) (insn_fine locals words x f runs.0 sized low runs.1))
each_fine locals words (x ∷ xs) f last d deep sized low runs (suc pc) e insn i g =
    let bound = insn_bound words x f runs.0 low runs.1 in
    each_fine locals words xs runs.0 last (after x d) (ap (λ (k : ℕ). after x k) deep ∙ sym (insn_depth words x f runs.0 runs.1)) (bound.1 ∙ sized) bound.0 runs.2 pc e insn i g

each_next : (body : List Insn) (d pc e : ℕ) (insn : Insn) → slice_get (returning body) pc ≡ Some insn → slice_get (depths (returning body) d) pc ≡ Some e → FallsOn insn
    → slice_get (depths (returning body) d) (pc + 1) ≡ Some (after insn e)
each_next [] d zero e insn i g on = absurd (subst FallsOn (sym (same_Some (Return None) insn i)) on)
each_next [] d (suc pc) e insn i g on = cc
each_next (x ∷ xs) d zero e insn i g on =
    first_depth xs (after x d) ∙ ap (λ (y : Insn). Some (after y d)) (same_Some x insn i) ∙ ap (λ (k : ℕ). Some (after insn k)) (same_Some d e g)
each_next (x ∷ xs) d (suc pc) e insn i g on =
    let one : suc (pc + 1) ≡ suc pc + 1 = omega arith in
    subst (λ (k : ℕ). slice_get (depths (returning (x ∷ xs)) d) k ≡ Some (after insn e)) one (each_next xs (after x d) pc e insn i g on)

each_there : (code : List Insn) (d pc e : ℕ) → slice_get (depths code d) pc ≡ Some e → (insn : Insn) × (slice_get code pc ≡ Some insn)
each_there [] d pc e g = absurd (let q : None ≡ Some e = g in cc)
each_there (x ∷ xs) d zero e g = (x, refl)
each_there (x ∷ xs) d (suc pc) e g = each_there xs (after x d) pc e g

pub length_replicate : {A : Type 0} (count : ℕ) (x : A) → length (replicate count x) ≡ count
length_replicate zero x = refl
length_replicate (suc count) x = ap suc (length_replicate count x)

pub first_sized : (locals : ℕ) → 1 ≤ locals → length (first_frame locals).locals ≡ locals
first_sized locals some = let q = length_replicate {A = VType} (locals - 1) types.Top in omega (arith, q)

-- straight-line code is fine
pub code_fine : (code : CodeDef) → IsStraight Source code → AreFine code.max_locals code.max_stack code.insns
code_fine code straight =
    subst (λ (xs : List Insn). AreFine code.max_locals code.max_stack xs) (sym straight.returns)
    (record {
      begins = first_depth straight.body 0;
      there = each_there (returning straight.body) 0;
      each = each_fine code.max_locals code.max_stack straight.body (first_frame code.max_locals) straight.last 0 refl (first_sized code.max_locals straight.local_of_words) (omega arith) straight.runs;
      next = each_next straight.body 0;
    })

-- an instruction that is fine fits
insn_fits : (locals words : ℕ) (insn : Insn) (d : ℕ) → Fine locals words insn d → Fits locals words insn d
insn_fits locals words (PushInt number) d h = h
insn_fits locals words (Load kind.Int slot) d h = h
insn_fits locals words (Store kind.Int slot) d h = h
insn_fits locals words (Stack stack.Pop) d h = h
insn_fits locals words (Bin width.Int op) d h = h.1
insn_fits locals words (Invoke invoke.Static method) d h =
    ⊎_elim
    (λ q. subst (λ (m : MethodRef). Fits locals words (Invoke invoke.Static m) d) (sym q.0) q.1)
    (λ q. subst (λ (m : MethodRef). Fits locals words (Invoke invoke.Static m) d) (sym q.0) q.1)
    h
insn_fits locals words (Return None) d h = tt
insn_fits locals words _ d h = absurd h

all_fit : (locals words : ℕ) (body : List Insn) (f last : IntFrame) (d : ℕ) → d ≡ f.depth → length f.locals ≡ locals → f.depth ≤ words → Runs Source words body f last → AllFit locals words (returning body) d
all_fit locals words [] f last d deep sized low runs = (omega (arith, deep, low), tt, tt)
all_fit locals words (x ∷ xs) f last d deep sized low runs =
    let bound = insn_bound words x f runs.0 low runs.1 in (
      omega (arith, deep, low),
      insn_fits locals words x d (subst (λ (k : ℕ). Fine locals words x k) (sym deep) (insn_fine locals words x f runs.0 sized low runs.1)),
      all_fit locals words xs runs.0 last (after x d) (ap (λ (k : ℕ). after x k) deep ∙ sym (insn_depth words x f runs.0 runs.1)) (bound.1 ∙ sized) bound.0 runs.2,
    )

all_one : {A : Type 0} (P : A → Type 0) (x : A) → P x → All P (x ∷ [])
all_one P x h zero d l = h
all_one P x h (suc k) d l = absurd (omega arith)

-- a class of the form can be written
pub class_fits : (class : ClassDef) → FormOne Source class → CanWriteClass class
class_fits class form =
    let straight = form.straight in
    let code = form.code in
    let can : CanWriteCode code = record {
      few_locals = form.kept.few_locals;
      few_words = form.kept.few_words;
      fit = subst (λ (xs : List Insn). AllFit code.max_locals code.max_stack xs 0) (sym straight.returns)
          (all_fit code.max_locals code.max_stack straight.body (first_frame code.max_locals) straight.last 0 refl (first_sized code.max_locals straight.local_of_words) (omega arith) straight.runs);
    } in
    subst (λ (ms : List MethodDef). All CanWriteMethod ms) (sym form.only_main) (all_one CanWriteMethod (main_method code) can)
