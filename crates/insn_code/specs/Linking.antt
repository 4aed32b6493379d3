-- Where branches lead: the numbers of instructions, in place of distances in bytes (JVMS 4.7.3 and 6.5).
use Rattle.std.specs.Prelude.{◌≡◌, ℕ, ◌+◌, List, [], ◌∷◌, ◌++◌, length, map, Option, Some, option_and_then, ℤ, pos, ◌+ℤ◌}
use Rattle.std.specs.Option.{option_map}
use Rattle.class_model.specs.declared.insn.Insn.{Insn}
use Rattle.class_model.specs.declared.insn.Insn.TheVariants.{TableSwitch, LookupSwitch}
use Rattle.const_pool.specs.Pool.{Pool}
use Rattle.insn_code.specs.declared.unlinked.Unlinked.{Unlinked}
use Rattle.insn_code.specs.declared.unlinked.Unlinked.TheVariants.{Whole, Jump, Table, Lookup}
use Rattle.insn_code.specs.Offsets.{Offsets, number_at}
use Rattle.insn_code.specs.Shapes.{branch}
use Rattle.insn_code.specs.InsnBytes.{IsUnlinked}

-- where an opcode at pc leads by a distance in bytes
abbrev pub lead : List ℕ → ℕ → ℤ → Option ℕ
lead starts pc distance = number_at starts (pos pc +ℤ distance)

abbrev pub row_lead : List ℕ → ℕ → ℤ × ℤ → Option (ℤ × ℕ)
row_lead starts pc row = option_map (λ target. (row.0, target)) (lead starts pc row.1)

-- what each of a list gives, where each gives something
unfoldable pub all_of : {A B : Type 0} → (A → Option B) → List A → Option (List B)
all_of f [] = Some []
all_of f (x ∷ xs) = option_and_then (λ y. option_map (λ ys. y ∷ ys) (all_of f xs)) (f x)

-- an instruction with numbers for its distances, where each of them leads to an instruction
unfoldable pub link : List ℕ → ℕ → Unlinked → Option Insn
link starts pc (Whole insn) = Some insn
link starts pc (Jump opcode distance) = option_map (branch opcode) (lead starts pc distance)
link starts pc (Table low default distances) = option_and_then (λ target. option_map (TableSwitch low target) (all_of (lead starts pc) distances)) (lead starts pc default)
link starts pc (Lookup default rows) = option_and_then (λ target. option_map (LookupSwitch target) (all_of (row_lead starts pc) rows)) (lead starts pc default)

-- an instruction with the offset of its opcode
abbrev pub Placed : Type 0
Placed = ℕ × Unlinked

abbrev pub link_placed : List ℕ → Placed → Option Insn
link_placed starts x = link starts x.0 x.1

abbrev pub offset_of : Placed → ℕ
offset_of x = x.0

-- ---- code

-- instructions one after the other from an offset on, each with the offset of its opcode
abbrev pub ArePlaced : Pool → ℕ → List ℕ → List Placed → Type 0
ArePlaced p pc text [] = text ≡ []
ArePlaced p pc text (x ∷ xs) = (first others : List ℕ) × (text ≡ first ++ others) × ((pc ≡ x.0) × IsUnlinked p pc first x.1) × ArePlaced p (pc + length first) others xs

-- the instructions that the bytes of code are, with the offsets of their opcodes
pub record AreInsns (p : Pool) (text : List ℕ) (starts : List ℕ) (insns : List Insn) : Type 0 where
  pub placed : List Placed
  pub placed_are : ArePlaced p 0 text placed
  pub starts_are : map offset_of placed ≡ starts
  pub linked : all_of (link_placed starts) placed ≡ Some insns

abbrev pub Code : Type 0
Code = List Insn × Offsets

-- n bytes of code: the instructions that they are, and where these begin
pub record IsCode (p : Pool) (n : ℕ) (text : List ℕ) (code : Code) : Type 0 where
  pub long : length text ≡ n
  pub insns_are : AreInsns p text code.1.starts code.0
  pub size_is : code.1.size ≡ n
