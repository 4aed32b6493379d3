-- Branches, and where they lead.
use Rattle.std.proofs.Common.{◌≡◌, ◌∙◌, ℕ, ◌<◌, ◌≤◌, Bool, true, false, List, [], ◌∷◌, length, map, Option, Some, refl, ap, arith, lit<}
use Rattle.std.specs.Prelude.{ℤ, pos, ◌+ℤ◌, ◌-ℤ◌, FitsSigned, MatchBool, All}
use Rattle.std.specs.Option.{option_map}
use Rattle.std.specs.Int.{w32}
use Rattle.std.proofs.lemmas.Int.{ints}
use Rattle.std.proofs.lemmas.List.Elements.{All-head, All-tail}
use Rattle.class_model.specs.declared.insn.Insn.{Insn}
use Rattle.class_model.specs.declared.insn.Insn.TheVariants.{If, IfInt, IfRef, IfNull, Goto, TableSwitch, LookupSwitch}
use Rattle.class_model.specs.declared.insn.Cond.{Cond}
use Rattle.class_model.specs.declared.insn.Cond.TheVariants as conds
use Rattle.class_limits.specs.Sizes.{CodeLayout, offset_at}
use Rattle.class_shape.specs.ShapedInsn.{IsTarget}
use Rattle.const_pool.specs.Pool.{Pool}
use Rattle.opcode_table.specs.declared.opcodes.OperandForm.TheVariants as form
use Rattle.opcode_table.specs.declared.raw_insn.RawInsn.TheVariants as raw
use Rattle.opcode_table.specs.Opcodes.{opcodes, form_of}
use Rattle.insn_code.specs.declared.unlinked.Unlinked.TheVariants.{Jump, Table, Lookup}
use Rattle.insn_code.specs.Offsets.{number_at, start_number}
use Rattle.insn_code.specs.Linking.{lead, row_lead, all_of, link}
use Rattle.insn_code.specs.Shapes.{branch}
use Rattle.insn_spelling.specs.OpcodeOf as opcode
use Rattle.insn_spelling.specs.Raw.{distance, row_distance}
use Rattle.insn_spelling.specs.Conditions.{Small, IsNear}
use Rattle.insn_spelling.proofs.Forms.{Stands, near_jump, far_jump}

-- ---- opcodes with one distance

pub record IsJumpOf (op target : ℕ) (insn : Insn) : Type 0 where
  pub byte : op < 256
  pub formed : form_of op ≡ form.Jump
  pub gives : branch op target ≡ insn

pub if_is : (cond : Cond) (target : ℕ) → IsJumpOf (opcode.if_zero cond) target (If cond target)
unfolding form_of opcodes branch
if_is conds.Eq target = record { byte = lit< tt; formed = refl; gives = refl }
if_is conds.Ne target = record { byte = lit< tt; formed = refl; gives = refl }
if_is conds.Lt target = record { byte = lit< tt; formed = refl; gives = refl }
if_is conds.Ge target = record { byte = lit< tt; formed = refl; gives = refl }
if_is conds.Gt target = record { byte = lit< tt; formed = refl; gives = refl }
if_is conds.Le target = record { byte = lit< tt; formed = refl; gives = refl }

pub if_int_is : (cond : Cond) (target : ℕ) → IsJumpOf (opcode.if_int cond) target (IfInt cond target)
unfolding form_of opcodes branch
if_int_is conds.Eq target = record { byte = lit< tt; formed = refl; gives = refl }
if_int_is conds.Ne target = record { byte = lit< tt; formed = refl; gives = refl }
if_int_is conds.Lt target = record { byte = lit< tt; formed = refl; gives = refl }
if_int_is conds.Ge target = record { byte = lit< tt; formed = refl; gives = refl }
if_int_is conds.Gt target = record { byte = lit< tt; formed = refl; gives = refl }
if_int_is conds.Le target = record { byte = lit< tt; formed = refl; gives = refl }

pub if_ref_is : (b : Bool) (target : ℕ) → IsJumpOf (opcode.if_ref b) target (IfRef b target)
unfolding form_of opcodes branch
if_ref_is true target = record { byte = lit< tt; formed = refl; gives = refl }
if_ref_is false target = record { byte = lit< tt; formed = refl; gives = refl }

pub if_null_is : (b : Bool) (target : ℕ) → IsJumpOf (opcode.if_null b) target (IfNull b target)
unfolding form_of opcodes branch
if_null_is true target = record { byte = lit< tt; formed = refl; gives = refl }
if_null_is false target = record { byte = lit< tt; formed = refl; gives = refl }

pub goto_is : (target : ℕ) → IsJumpOf 167 target (Goto target)
unfolding form_of opcodes branch
goto_is target = record { byte = lit< tt; formed = refl; gives = refl }

-- ---- distances

between : (a b : ℕ) → a ≤ 65535 → b ≤ 65535 → FitsSigned w32 (pos a -ℤ pos b)
between a b h k = omega (arith, ints)

pub distance_fits : (layout : CodeLayout) (pc target : ℕ) → Small layout → pc ≤ 65535 → FitsSigned w32 (distance layout pc target)
distance_fits layout pc target small near = between (offset_at layout target) pc (small target) near

pub jump_stands : (r : Pool) (layout : CodeLayout) (pc op target : ℕ) (insn : Insn) → IsJumpOf op target insn → IsNear layout pc target → Stands r pc (raw.Jump op (distance layout pc target)) (Jump op (distance layout pc target))
jump_stands r layout pc op target insn is near = near_jump r pc op (distance layout pc target) is.byte is.formed near

goto_by : (r : Pool) (layout : CodeLayout) (pc target : ℕ) (wide : Bool) → Small layout → pc ≤ 65535 → MatchBool wide (Unit {0}) (IsNear layout pc target)
    → Stands r pc (raw.Jump (opcode.goto wide) (distance layout pc target)) (Jump (opcode.goto wide) (distance layout pc target))
unfolding form_of opcodes
goto_by r layout pc target true small low fits = far_jump r pc 200 (distance layout pc target) (lit< tt) refl (distance_fits layout pc target small low)
goto_by r layout pc target false small low fits = jump_stands r layout pc 167 target (Goto target) (goto_is target) fits

pub goto_stands : (r : Pool) (layout : CodeLayout) (pc target : ℕ) → Small layout → pc ≤ 65535 → MatchBool layout.wide_goto (Unit {0}) (IsNear layout pc target)
    → Stands r pc (raw.Jump (opcode.goto layout.wide_goto) (distance layout pc target)) (Jump (opcode.goto layout.wide_goto) (distance layout pc target))
goto_stands r layout pc target small low fits = goto_by r layout pc target layout.wide_goto small low fits

-- ---- where a distance leads

-- offsets at which one instruction begins each
abbrev pub Found : CodeLayout → Type 0
Found layout = (at : ℕ) → at < length layout.starts → start_number layout.starts (offset_at layout at) ≡ Some at

back : (a b : ℕ) → (pos b +ℤ (pos a -ℤ pos b)) ≡ pos a
back a b = omega (arith, ints)

pub leads : (layout : CodeLayout) (pc target : ℕ) → Found layout → target < length layout.starts → lead layout.starts pc (distance layout pc target) ≡ Some target
leads layout pc target found within = ap (number_at layout.starts) (back (offset_at layout target) pc) ∙ found target within

pub row_leads : (layout : CodeLayout) (pc : ℕ) (row : ℤ × ℕ) → Found layout → row.1 < length layout.starts → row_lead layout.starts pc (row_distance layout pc row) ≡ Some row
row_leads layout pc row found within = ap (option_map (λ (target : ℕ). (row.0, target))) (leads layout pc row.1 found within)

-- what each of a list gives back
pub all_back : {A B : Type 0} (f : B → A) (g : A → Option B) (P : B → Type 0) → ((x : B) → P x → g (f x) ≡ Some x) → (xs : List B) → All P xs → all_of g (map f xs) ≡ Some xs
unfolding all_of
all_back f g P gives [] all = refl
all_back f g P gives (x ∷ xs) all =
    rw (gives x (All-head P x xs all), all_back f g P gives xs (All-tail P x xs all)) refl

pub jump_links : (layout : CodeLayout) (pc op target : ℕ) (insn : Insn) → Found layout → branch op target ≡ insn → target < length layout.starts → link layout.starts pc (Jump op (distance layout pc target)) ≡ Some insn
unfolding link
jump_links layout pc op target insn found gives within = ap (option_map (branch op)) (leads layout pc target found within) ∙ ap (λ (z : Insn). Some z) gives

goto_gives : (wide : Bool) (target : ℕ) → branch (opcode.goto wide) target ≡ Goto target
unfolding branch
goto_gives true target = refl
goto_gives false target = refl

pub goto_links : (layout : CodeLayout) (pc target : ℕ) → Found layout → target < length layout.starts → link layout.starts pc (Jump (opcode.goto layout.wide_goto) (distance layout pc target)) ≡ Some (Goto target)
goto_links layout pc target found within = jump_links layout pc (opcode.goto layout.wide_goto) target (Goto target) found (goto_gives layout.wide_goto target) within

pub table_links : (layout : CodeLayout) (pc : ℕ) (low : ℤ) (default : ℕ) (targets : List ℕ) → Found layout → default < length layout.starts → All (IsTarget (length layout.starts)) targets
    → link layout.starts pc (Table low (distance layout pc default) (map (distance layout pc) targets)) ≡ Some (TableSwitch low default targets)
unfolding link
table_links layout pc low default targets found within all =
    rw (leads layout pc default found within, all_back (distance layout pc) (lead layout.starts pc) (IsTarget (length layout.starts)) (λ t h. leads layout pc t found h) targets all) refl

pub lookup_links : (layout : CodeLayout) (pc default : ℕ) (rows : List (ℤ × ℕ)) → Found layout → default < length layout.starts → All (λ row. IsTarget (length layout.starts) row.1) rows
    → link layout.starts pc (Lookup (distance layout pc default) (map (row_distance layout pc) rows)) ≡ Some (LookupSwitch default rows)
unfolding link
lookup_links layout pc default rows found within all =
    rw (leads layout pc default found within, all_back (row_distance layout pc) (row_lead layout.starts pc) (λ (row : ℤ × ℕ). IsTarget (length layout.starts) row.1) (λ row h. row_leads layout pc row found h) rows all) refl
