-- Which bytes spell an instruction whose opcode stands at pc (JVMS 6.5). Places count from the opcode.
use Rattle.std.specs.Prelude.{◌≡◌, ℕ, ◌+◌, ◌*◌, ◌^◌, ◌<◌, ◌≤◌, ℤ, pos, ◌+ℤ◌, ◌<ℤ◌, ◌≤ℤ◌, List, [], ◌∷◌, length, ◌⊎◌}
use Rattle.std.specs.Int.{w16}
use Rattle.std.specs.Int.RustNames.{FitsSigned}
use Rattle.opcode_table.specs.declared.opcodes.OperandForm.{OperandForm}
use Rattle.opcode_table.specs.declared.opcodes.OperandForm.TheVariants as form
use Rattle.opcode_table.specs.declared.raw_insn.RawInsn.{RawInsn}
use Rattle.opcode_table.specs.declared.raw_insn.RawInsn.TheVariants.{Plain, Byte, Short, Local, Inc, Pool, Jump, Table, Lookup, Interface, NewArray, Multi}
use Rattle.opcode_table.specs.Opcodes.{form_of}
use Rattle.opcode_table.specs.Fields.{u8_at, u16_at, i8_at, i16_at, i32_at, offsets_at, rows_at, padding}

-- a text of n bytes that begins with an opcode of the form
abbrev pub HasForm : List ℕ → ℕ → OperandForm → Type 0
HasForm text n f = (length text ≡ n) × (form_of (u8_at text 0) ≡ f)

-- keys that ascend strictly
abbrev pub Ascends : List (ℤ × ℤ) → Type 0
Ascends [] = Unit {0}
Ascends (x ∷ []) = Unit {0}
Ascends (x ∷ y ∷ rows) = (x.0 <ℤ y.0) × Ascends (y ∷ rows)

-- two spellings: the local in one byte, or behind `wide` in two
abbrev pub SpellsLocal : List ℕ → ℕ → ℕ → Type 0
SpellsLocal text op local =
    (HasForm text 2 form.Local × (u8_at text 0 ≡ op) × (u8_at text 1 ≡ local))
    ⊎ (HasForm text 4 form.Wide × (form_of (u8_at text 1) ≡ form.Local) × (u8_at text 1 ≡ op) × (u16_at text 2 ≡ local))

-- two spellings: `iinc`, and `wide iinc`
abbrev pub SpellsInc : List ℕ → ℕ → ℤ → Type 0
SpellsInc text local step =
    (HasForm text 3 form.Increment × (u8_at text 1 ≡ local) × (i8_at text 2 ≡ step))
    ⊎ (HasForm text 6 form.Wide × (form_of (u8_at text 1) ≡ form.Increment) × (u16_at text 2 ≡ local) × (i16_at text 4 ≡ step))

-- `ldc` has its index in one byte, the others in two
abbrev pub SpellsPool : List ℕ → ℕ → ℕ → Type 0
SpellsPool text op index =
    (HasForm text 2 form.PoolByte × (u8_at text 0 ≡ op) × (u8_at text 1 ≡ index))
    ⊎ (HasForm text 3 form.Pool × (u8_at text 0 ≡ op) × (u16_at text 1 ≡ index))

-- `goto_w` has its offset in four bytes, the others in two
abbrev pub SpellsJump : List ℕ → ℕ → ℤ → Type 0
SpellsJump text op offset =
    (HasForm text 3 form.Jump × (u8_at text 0 ≡ op) × (i16_at text 1 ≡ offset))
    ⊎ (HasForm text 5 form.WideJump × (u8_at text 0 ≡ op) × (i32_at text 1 ≡ offset))

-- default, low, high and an offset for each number from low to high, behind bytes of padding that may be anything
pub record SpellsTable (pc : ℕ) (text : List ℕ) (low default : ℤ) (offsets : List ℤ) : Type 0 where
  pub has_form : HasForm text (13 + padding pc + 4 * length offsets) form.Table
  pub default_is : i32_at text (1 + padding pc) ≡ default
  pub low_is : i32_at text (5 + padding pc) ≡ low
  pub high_is : i32_at text (9 + padding pc) +ℤ pos 1 ≡ low +ℤ pos (length offsets)
  pub some : 0 < length offsets
  pub offsets_are : offsets_at text (13 + padding pc) (length offsets) ≡ offsets

-- default, the number of rows and the rows, behind bytes of padding that may be anything
pub record SpellsLookup (pc : ℕ) (text : List ℕ) (default : ℤ) (rows : List (ℤ × ℤ)) : Type 0 where
  pub has_form : HasForm text (9 + padding pc + 8 * length rows) form.Lookup
  pub default_is : i32_at text (1 + padding pc) ≡ default
  pub count_is : i32_at text (5 + padding pc) ≡ pos (length rows)
  pub rows_are : rows_at text (9 + padding pc) (length rows) ≡ rows
  pub ascend : Ascends rows

unfoldable pub Spells : ℕ → RawInsn → List ℕ → Type 0
Spells pc (Plain op) text = HasForm text 1 form.Empty × (u8_at text 0 ≡ op)
Spells pc (Byte op n) text = HasForm text 2 form.SignedByte × (u8_at text 0 ≡ op) × (i8_at text 1 ≡ n)
Spells pc (Short op n) text = HasForm text 3 form.SignedShort × (u8_at text 0 ≡ op) × (i16_at text 1 ≡ n)
Spells pc (Local op local) text = SpellsLocal text op local
Spells pc (Inc local step) text = SpellsInc text local step
Spells pc (Pool op index) text = SpellsPool text op index
Spells pc (Jump op offset) text = SpellsJump text op offset
Spells pc (Table low default offsets) text = SpellsTable pc text low default offsets
Spells pc (Lookup default rows) text = SpellsLookup pc text default rows
Spells pc (Interface index count) text = HasForm text 5 form.Interface × (u16_at text 1 ≡ index) × (u8_at text 3 ≡ count) × (0 < count) × (u8_at text 4 ≡ 0)
Spells pc (NewArray ty) text = HasForm text 2 form.ArrayType × (u8_at text 1 ≡ ty) × (4 ≤ ty) × (ty ≤ 11)
Spells pc (Multi index dimensions) text = HasForm text 4 form.Dimensions × (u16_at text 1 ≡ index) × (u8_at text 3 ≡ dimensions) × (0 < dimensions)

-- an instruction that has a spelling, by its parts alone
abbrev pub IsWellFormed : RawInsn → Type 0
IsWellFormed (Plain op) = form_of op ≡ form.Empty
IsWellFormed (Byte op n) = form_of op ≡ form.SignedByte
IsWellFormed (Short op n) = form_of op ≡ form.SignedShort
IsWellFormed (Local op local) = form_of op ≡ form.Local
IsWellFormed (Inc local step) = Unit {0}
IsWellFormed (Pool op index) = ((form_of op ≡ form.PoolByte) × (index < 2 ^ 8)) ⊎ (form_of op ≡ form.Pool)
IsWellFormed (Jump op offset) = ((form_of op ≡ form.Jump) × FitsSigned w16 offset) ⊎ (form_of op ≡ form.WideJump)
IsWellFormed (Table low default offsets) = (0 < length offsets) × ((low +ℤ pos (length offsets)) ≤ℤ pos (2 ^ 31))
IsWellFormed (Lookup default rows) = Ascends rows × (length rows < 2 ^ 31)
IsWellFormed (Interface index count) = 0 < count
IsWellFormed (NewArray ty) = (4 ≤ ty) × (ty ≤ 11)
IsWellFormed (Multi index dimensions) = 0 < dimensions
