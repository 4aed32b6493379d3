-- What an instruction has to be, its shape aside, so that it can be written.
use Rattle.std.specs.Prelude.{◌≡◌, ℕ, ◌≤◌, Bool, true, false, ◌&&◌, nat_lt, List, length, zip, None, All, ℤ, pos, negsuc, FitsSigned, MatchBool}
use Rattle.std.specs.Int.{w16}
use Rattle.std.specs.List.{list_all}
use Rattle.class_model.specs.declared.insn.Insn.{Insn}
use Rattle.class_model.specs.declared.insn.Insn.TheVariants.{PushInt, PushString, Load, Store, Iinc, If, IfInt, IfRef, IfNull, Goto, TableSwitch, LookupSwitch, GetStatic, PutStatic, GetField, PutField, Invoke, New, ANewArray, CheckCast, InstanceOf, MultiNewArray}
use Rattle.pool_names.specs.Fits.{FitsText, FitsType, FitsField, FitsMethod}
use Rattle.class_limits.specs.Sizes.{CodeLayout, offset_at, size_at, offsets_from, end_from}
use Rattle.class_limits.specs.Branches.{far_branch}
use Rattle.class_limits.specs.Limits.{first}
use Rattle.class_shape.specs.ShapedInsn.{ShapedInsn}
use Rattle.insn_code.specs.Offsets.{Offsets}
use Rattle.insn_spelling.specs.Raw.{fits_i16, distance}

-- what it names has texts of at most 65,535 bytes
abbrev pub FitsTexts : Insn → Type 0
FitsTexts (PushString units) = FitsText units
FitsTexts (GetStatic field) = FitsField field
FitsTexts (PutStatic field) = FitsField field
FitsTexts (GetField field) = FitsField field
FitsTexts (PutField field) = FitsField field
FitsTexts (Invoke kind method) = FitsMethod method
FitsTexts (New class) = FitsText class
FitsTexts (ANewArray ty) = FitsType ty
FitsTexts (CheckCast ty) = FitsType ty
FitsTexts (InstanceOf ty) = FitsType ty
FitsTexts (MultiNewArray ty dimensions) = FitsType ty
FitsTexts insn = Unit {0}

-- each offset has two bytes
abbrev pub Small : CodeLayout → Type 0
Small layout = (number : ℕ) → offset_at layout number ≤ 65535

-- a distance of two bytes, as signed
abbrev pub IsNear : CodeLayout → ℕ → ℕ → Type 0
IsNear layout pc target = FitsSigned w16 (distance layout pc target)

-- each branch that is written with a distance of two bytes leads no farther
abbrev pub FitsBranch : CodeLayout → ℕ → Insn → Type 0
FitsBranch layout pc (If cond target) = IsNear layout pc target
FitsBranch layout pc (IfInt cond target) = IsNear layout pc target
FitsBranch layout pc (IfRef same target) = IsNear layout pc target
FitsBranch layout pc (IfNull null target) = IsNear layout pc target
FitsBranch layout pc (Goto target) = MatchBool layout.wide_goto (Unit {0}) (IsNear layout pc target)
FitsBranch layout pc insn = Unit {0}

-- ---- numbers in the range of their types, as those that a program holds are

abbrev pub fits_i32 : ℤ → Bool
fits_i32 (pos n) = nat_lt n 2147483648
fits_i32 (negsuc n) = nat_lt n 2147483648

abbrev pub is_in_range : Insn → Bool
is_in_range (PushInt n) = fits_i32 n
is_in_range (Load kind slot) = nat_lt slot 65536
is_in_range (Store kind slot) = nat_lt slot 65536
is_in_range (Iinc slot step) = nat_lt slot 65536 && fits_i16 step
is_in_range (TableSwitch low default targets) = fits_i32 low
is_in_range (LookupSwitch default rows) = list_all (λ row. fits_i32 row.0) rows
is_in_range (MultiNewArray ty dimensions) = nat_lt dimensions 256
is_in_range insn = true

-- ---- code

-- where instructions stand: each behind the one before it, the first at 0
pub record LaysOut (layout : CodeLayout) (insns : List Insn) : Type 0 where
  pub starts_are : layout.starts ≡ offsets_from layout.wide_goto 0 insns
  pub size_is : layout.size ≡ end_from layout.wide_goto 0 insns

-- no conditional branch passes two bytes, and no goto where it has no more
pub record NoneFar (layout : CodeLayout) (insns : List Insn) : Type 0 where
  pub near : first (far_branch layout.starts) (zip layout.starts insns) ≡ None
  pub gotos : layout.wide_goto ≡ false → layout.size ≤ 32767

-- instructions that can be written where they stand
pub record WritableInsns (layout : CodeLayout) (insns : List Insn) : Type 0 where
  pub laid : LaysOut layout insns
  pub small : layout.size ≤ 65535
  pub near : NoneFar layout insns
  pub shaped : All (ShapedInsn (length insns)) insns
  pub texts : All FitsTexts insns

-- an instruction that can be written at an offset of code that has n instructions
pub record Writable (layout : CodeLayout) (n pc : ℕ) (insn : Insn) : Type 0 where
  pub small : Small layout
  pub near : pc ≤ 65535
  pub shaped : ShapedInsn n insn
  pub branch : FitsBranch layout pc insn
  pub size : size_at layout.wide_goto pc insn ≤ 65535

-- the offsets of a layout, as those of code that is read
abbrev pub offsets : CodeLayout → Offsets
offsets layout = record { starts = layout.starts; size = layout.size }
