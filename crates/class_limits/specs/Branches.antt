-- Conditional branches that pass the two bytes of their distance (JVMS 6.5, if<cond>).
use Rattle.std.specs.Prelude.{ℕ, ◌+◌, ◌-◌, nat_lt, List, Option, Some, None, slice_get, zip, option_and_then, if◌then◌else◌}
use Rattle.class_model.specs.declared.insn.Insn.{Insn}
use Rattle.class_model.specs.declared.insn.Insn.TheVariants.{If, IfInt, IfRef, IfNull}
use Rattle.class_model.specs.declared.class.CodeDef.{CodeDef}
use Rattle.class_limits.specs.Sizes.{offsets_of}

-- where a conditional branch leads
abbrev pub branch_target : Insn → Option ℕ
branch_target (If cond target) = Some target
branch_target (IfInt cond target) = Some target
branch_target (IfRef same target) = Some target
branch_target (IfNull null target) = Some target
branch_target _ = None

-- a distance of more than 32,767 bytes forward or 32,768 back, without its sign
abbrev pub far : ℕ → ℕ → Option ℕ
far from to = if nat_lt (from + 32767) to then Some (to - from) else if nat_lt (to + 32768) from then Some (from - to) else None

-- the distance of an instruction at an offset, where it is a conditional branch that leads so far
abbrev pub far_branch : List ℕ → ℕ × Insn → Option ℕ
far_branch offsets placed = option_and_then (λ target. option_and_then (far placed.0) (slice_get offsets target)) (branch_target placed.1)

abbrev pub placed_insns : CodeDef → List (ℕ × Insn)
placed_insns code = zip (offsets_of code) code.insns
