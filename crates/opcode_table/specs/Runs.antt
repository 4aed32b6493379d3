-- The table of opcodes once more, as runs of equal operands, which is the form in which `operand_form` tests them.
use Rattle.std.specs.Prelude.{ℕ, List, [], ◌∷◌, nat_le, if◌then◌else◌}
use Rattle.opcode_table.specs.declared.opcodes.OperandForm.{OperandForm}
use Rattle.opcode_table.specs.declared.opcodes.OperandForm.TheVariants.{Unknown, OutOfScope, Empty, SignedByte, SignedShort, PoolByte, Pool, Local, Increment, Jump, WideJump, Table, Lookup, Interface, ArrayType, Dimensions, Wide}

pub record Run : Type 0 where
  pub last : ℕ
  pub form : OperandForm

abbrev pub run : ℕ → OperandForm → Run
run n f = record { last = n; form = f }

-- each run by its last opcode, in ascending order
unfoldable pub early_runs : List Run
early_runs =
    run 10 Empty ∷ run 15 OutOfScope ∷ run 16 SignedByte ∷ run 17 SignedShort ∷ run 18 PoolByte ∷ run 20 Pool ∷
    run 22 Local ∷ run 24 OutOfScope ∷ run 25 Local ∷ run 33 Empty ∷ run 41 OutOfScope ∷ run 47 Empty ∷ run 49 OutOfScope ∷ run 53 Empty ∷
    run 55 Local ∷ run 57 OutOfScope ∷ run 58 Local ∷ run 66 Empty ∷ run 74 OutOfScope ∷ run 80 Empty ∷ run 82 OutOfScope ∷ run 86 Empty ∷
    run 95 Empty ∷
    run 97 Empty ∷ run 99 OutOfScope ∷ run 101 Empty ∷ run 103 OutOfScope ∷ run 105 Empty ∷ run 107 OutOfScope ∷ run 109 Empty ∷ run 111 OutOfScope ∷ run 113 Empty ∷ run 115 OutOfScope ∷ run 117 Empty ∷ run 119 OutOfScope ∷ run 131 Empty ∷ run 132 Increment ∷
    []

unfoldable pub late_runs : List Run
late_runs =
    run 133 Empty ∷ run 135 OutOfScope ∷ run 136 Empty ∷ run 144 OutOfScope ∷ run 147 Empty ∷
    run 148 Empty ∷ run 152 OutOfScope ∷ run 166 Jump ∷
    run 167 Jump ∷ run 169 OutOfScope ∷ run 170 Table ∷ run 171 Lookup ∷ run 173 Empty ∷ run 175 OutOfScope ∷ run 177 Empty ∷
    run 184 Pool ∷ run 185 Interface ∷ run 186 OutOfScope ∷ run 187 Pool ∷ run 188 ArrayType ∷ run 189 Pool ∷ run 191 Empty ∷ run 193 Pool ∷ run 195 OutOfScope ∷
    run 196 Wide ∷ run 197 Dimensions ∷ run 199 Jump ∷ run 200 WideJump ∷ run 201 OutOfScope ∷
    []

unfoldable pub run_in : List Run → ℕ → OperandForm
run_in [] op = Unknown
run_in (r ∷ rs) op = if nat_le op r.last then r.form else run_in rs op
