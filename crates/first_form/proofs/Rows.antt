-- What the rows of the typing say of the frame behind an instruction.
use Rattle.std.proofs.Common.{◌≡◌, ◌∙◌, ℕ, ◌≤◌, List, length, refl, sym, ap, subst, arith}
use Rattle.std.proofs.Math.ListN.{length-set}
use Rattle.class_model.specs.declared.class.VType.{VType}
use Rattle.class_model.specs.declared.class.VType.TheVariants as types
use Rattle.class_model.specs.declared.insn.Kind.TheVariants as kinds
use Rattle.class_model.specs.declared.insn.Width.TheVariants as widths
use Rattle.class_model.specs.declared.insn.StackOp.TheVariants as stacks
use Rattle.class_model.specs.declared.insn.InvokeKind.TheVariants as invokes
use Rattle.class_model.specs.declared.insn.Insn.{Insn}
use Rattle.class_model.specs.declared.insn.Insn.TheVariants.{PushInt, Load, Store, Stack, Bin, Invoke}
use Rattle.class_model.specs.declared.types.MethodRef.{MethodRef}
use Rattle.first_form.specs.declared.frame.IntFrame.{IntFrame}
use Rattle.profile_check.specs.declared.profile.Names.{Names}
use Rattle.profile_check.specs.declared.profile.Names.TheVariants.{Source, Written}
use Rattle.first_form.specs.declared.natives.Native.{Native}
use Rattle.first_form.specs.declared.natives.Native.TheVariants.{Read, Write, Report}
use Rattle.first_form.specs.Natives.{ref_of}
use Rattle.first_form.specs.Typing.{Pushes, Pops, StoresInt, JoinsInts, Calls, Types}

frame_same : (g h : IntFrame) → g.locals ≡ h.locals → g.depth ≡ h.depth → g ≡ h
frame_same g h locals depth =
    let made : List VType → ℕ → IntFrame = λ ls k. record { locals = ls; depth = k } in
    ap (λ (ls : List VType). made ls g.depth) locals ∙ ap (made h.locals) depth

pushes_same : (most : ℕ) (f g h : IntFrame) → Pushes most f g → Pushes most f h → g ≡ h
pushes_same most f g h p q = frame_same g h (p.2 ∙ sym q.2) (p.1 ∙ sym q.1)

pops_same : (n : ℕ) (f g h : IntFrame) → Pops n f g → Pops n f h → g ≡ h
pops_same n f g h p q = frame_same g h (p.1 ∙ sym q.1) (omega (arith, p.0, q.0))

stores_same : (slot : ℕ) (f g h : IntFrame) → StoresInt slot f g → StoresInt slot f h → g ≡ h
stores_same slot f g h p q = frame_same g h (p.2 ∙ sym q.2) (omega (arith, p.1, q.1))

joins_same : (f g h : IntFrame) → JoinsInts f g → JoinsInts f h → g ≡ h
joins_same f g h p q = frame_same g h (p.2 ∙ sym q.2) (omega (arith, p.1, q.1))

calls_same : (names : Names) (most : ℕ) (native : Native) (f g h : IntFrame) → Calls names most native f g → Calls names most native f h → g ≡ h
calls_same names most Read f g h p q = pushes_same most f g h p q
calls_same names most Write f g h p q = pops_same 1 f g h p q
calls_same Written most Report f g h p q = pops_same 3 f g h p q
calls_same Source most Report f g h p q = absurd p

-- a reference names one native
pub native_same : (m n : Native) → ref_of m ≡ ref_of n → m ≡ n
native_same Read Read e = refl
native_same Write Write e = refl
native_same Report Report e = refl
native_same Read Write e = let d = ap (λ (r : MethodRef). r.desc.result) e in cc
native_same Read Report e = let d = ap (λ (r : MethodRef). r.desc.result) e in cc
native_same Write Read e = let d = ap (λ (r : MethodRef). r.desc.result) e in cc
native_same Write Report e = let d = ap (λ (r : MethodRef). r.desc.params) e in cc
native_same Report Read e = let d = ap (λ (r : MethodRef). r.desc.result) e in cc
native_same Report Write e = let d = ap (λ (r : MethodRef). r.desc.params) e in cc

-- an instruction leaves one frame
pub types_same : (names : Names) (most : ℕ) (insn : Insn) (f g h : IntFrame) → Types names most insn f g → Types names most insn f h → g ≡ h
types_same names most (PushInt number) f g h p q = pushes_same most f g h p q
types_same names most (Load kinds.Int slot) f g h p q = pushes_same most f g h p.1 q.1
types_same names most (Store kinds.Int slot) f g h p q = stores_same slot f g h p q
types_same names most (Stack stacks.Pop) f g h p q = pops_same 1 f g h p q
types_same names most (Bin widths.Int op) f g h p q = joins_same f g h p.1 q.1
types_same names most (Invoke invokes.Static method) f g h p q =
    let same : p.0 ≡ q.0 = native_same p.0 q.0 (sym p.1 ∙ q.1) in
    calls_same names most q.0 f g h (subst (λ (n : Native). Calls names most n f g) same p.2) q.2
types_same names most _ f g h p q = absurd p

calls_length : (names : Names) (most : ℕ) (native : Native) (f g : IntFrame) → Calls names most native f g → length g.locals ≡ length f.locals
calls_length names most Read f g p = ap length p.2
calls_length names most Write f g p = ap length p.1
calls_length Written most Report f g p = ap length p.1
calls_length Source most Report f g p = absurd p

-- there are as many locals as before
pub types_length : (names : Names) (most : ℕ) (insn : Insn) (f g : IntFrame) → Types names most insn f g → length g.locals ≡ length f.locals
types_length names most (PushInt number) f g p = ap length p.2
types_length names most (Load kinds.Int slot) f g p = ap length p.1.2
types_length names most (Store kinds.Int slot) f g p = ap length p.2 ∙ length-set f.locals slot types.Int
types_length names most (Stack stacks.Pop) f g p = ap length p.1
types_length names most (Bin widths.Int op) f g p = ap length p.1.2
types_length names most (Invoke invokes.Static method) f g p = calls_length names most p.0 f g p.2
types_length names most _ f g p = absurd p

calls_within : (names : Names) (most : ℕ) (native : Native) (f g : IntFrame) → f.depth ≤ most → Calls names most native f g → g.depth ≤ most
calls_within names most Read f g le p = omega (arith, p.0, p.1)
calls_within names most Write f g le p = omega (arith, p.0)
calls_within Written most Report f g le p = omega (arith, p.0)
calls_within Source most Report f g le p = absurd p

-- the stack stays within its bound
pub types_within : (names : Names) (most : ℕ) (insn : Insn) (f g : IntFrame) → f.depth ≤ most → Types names most insn f g → g.depth ≤ most
types_within names most (PushInt number) f g le p = omega (arith, p.0, p.1)
types_within names most (Load kinds.Int slot) f g le p = omega (arith, p.1.0, p.1.1)
types_within names most (Store kinds.Int slot) f g le p = omega (arith, p.1)
types_within names most (Stack stacks.Pop) f g le p = omega (arith, p.0)
types_within names most (Bin widths.Int op) f g le p = omega (arith, p.1.1)
types_within names most (Invoke invokes.Static method) f g le p = calls_within names most p.0 f g le p.2
types_within names most _ f g le p = absurd p
