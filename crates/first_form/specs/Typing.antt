-- The typing of straight-line code on ints (JVMS 4.10.1): from the frame before an instruction to the one behind it, a
-- row for each shape. Nothing else than ints comes on the stack, so that its depth tells its types.
use Rattle.std.specs.Prelude.{◌≡◌, ℕ, ◌+◌, ◌-◌, ◌<◌, ◌≤◌, List, [], ◌∷◌, length, replicate, slice_get, slice_set, Some}
use Rattle.class_model.specs.declared.class.VType.TheVariants as types
use Rattle.class_model.specs.declared.types.BaseType.TheVariants as bases
use Rattle.class_model.specs.declared.types.JType.{JType}
use Rattle.class_model.specs.declared.insn.Kind.TheVariants as kinds
use Rattle.class_model.specs.declared.insn.Width.TheVariants as widths
use Rattle.class_model.specs.declared.insn.BinOp.{BinOp}
use Rattle.class_model.specs.declared.insn.BinOp.TheVariants.{Add, And, Or, Xor}
use Rattle.class_model.specs.declared.insn.StackOp.TheVariants as stacks
use Rattle.class_model.specs.declared.insn.InvokeKind.TheVariants as invokes
use Rattle.class_model.specs.declared.insn.Insn.{Insn}
use Rattle.class_model.specs.declared.insn.Insn.TheVariants.{PushInt, Load, Store, Stack, Bin, Invoke}
use Rattle.class_model.specs.declared.types.MethodRef.{MethodRef}
use Rattle.first_form.specs.declared.frame.IntFrame.{IntFrame}
use Rattle.profile_check.specs.declared.profile.Names.{Names}
use Rattle.profile_check.specs.declared.profile.Names.TheVariants.{Source, Written}
use Rattle.first_form.specs.declared.natives.Native.{Native}
use Rattle.first_form.specs.declared.natives.Native.TheVariants.{Read, Write, Report}
use Rattle.first_form.specs.Natives.{ref_of}
use Rattle.small_base.specs.Members.{string_name}

-- the operations of two ints that are instrumented so far
abbrev pub IsFirstOp : BinOp → Type 0
IsFirstOp Add = Unit {0}
IsFirstOp And = Unit {0}
IsFirstOp Or = Unit {0}
IsFirstOp Xor = Unit {0}
IsFirstOp _ = ⊥

-- the type `String[]`
abbrev pub words_type : JType
words_type = record { depth = 1; base = bases.Class string_name }

-- the frame of the first instruction: local 0 holds the words of the command, and the others nothing
abbrev pub first_frame : (max_locals : ℕ) → IntFrame
first_frame max_locals = record { locals = types.Ref words_type ∷ replicate (max_locals - 1) types.Top; depth = 0 }

-- an int comes on the stack, of at most so many words
abbrev pub Pushes : (max_stack : ℕ) → IntFrame → IntFrame → Type 0
Pushes max_stack f g = (f.depth < max_stack) × (g.depth ≡ f.depth + 1) × (g.locals ≡ f.locals)

-- so many ints leave the stack
abbrev pub Pops : ℕ → IntFrame → IntFrame → Type 0
Pops n f g = (f.depth ≡ g.depth + n) × (g.locals ≡ f.locals)

-- a local holds an int
abbrev pub HoldsInt : IntFrame → ℕ → Type 0
HoldsInt f slot = slice_get f.locals slot ≡ Some types.Int

-- an int comes on the stack from a local that holds one
abbrev pub LoadsInt : (max_stack : ℕ) → ℕ → IntFrame → IntFrame → Type 0
LoadsInt max_stack slot f g = HoldsInt f slot × Pushes max_stack f g

-- an int goes from the stack into a local
abbrev pub StoresInt : ℕ → IntFrame → IntFrame → Type 0
StoresInt slot f g = (slot < length f.locals) × (f.depth ≡ g.depth + 1) × (g.locals ≡ slice_set f.locals slot types.Int)

-- two ints leave the stack, and one comes
abbrev pub JoinsInts : IntFrame → IntFrame → Type 0
JoinsInts f g = (1 ≤ g.depth) × (f.depth ≡ g.depth + 1) × (g.locals ≡ f.locals)

-- a native is called; only written code calls the one that reports
abbrev pub Calls : Names → (max_stack : ℕ) → Native → IntFrame → IntFrame → Type 0
Calls names max_stack Read f g = Pushes max_stack f g
Calls names max_stack Write f g = Pops 1 f g
Calls Written max_stack Report f g = Pops 3 f g
Calls Source max_stack Report f g = ⊥

-- a method is called, which is one of the natives
abbrev pub Invokes : Names → (max_stack : ℕ) → MethodRef → IntFrame → IntFrame → Type 0
Invokes names max_stack method f g = (native : Native) × (method ≡ ref_of native) × Calls names max_stack native f g

-- the frame behind an instruction
abbrev pub Types : Names → (max_stack : ℕ) → Insn → IntFrame → IntFrame → Type 0
Types names max_stack (PushInt number) f g = Pushes max_stack f g
Types names max_stack (Load kinds.Int slot) f g = LoadsInt max_stack slot f g
Types names max_stack (Store kinds.Int slot) f g = StoresInt slot f g
Types names max_stack (Stack stacks.Pop) f g = Pops 1 f g
Types names max_stack (Bin widths.Int op) f g = IsFirstOp op × JoinsInts f g
Types names max_stack (Invoke invokes.Static method) f g = Invokes names max_stack method f g
Types names max_stack _ f g = ⊥

-- the frame behind instructions that stand one after the other
abbrev pub Runs : Names → (max_stack : ℕ) → List Insn → IntFrame → IntFrame → Type 0
Runs names max_stack [] f h = h ≡ f
Runs names max_stack (insn ∷ insns) f h = (g : IntFrame) × Types names max_stack insn f g × Runs names max_stack insns g h
