-- The opcodes of JVMS chapter 6 with the operands behind each. OutOfScope marks those that this project leaves out.
use Rattle.std.specs.Prelude.{ℕ, ◌==◌, List, [], ◌∷◌, if◌then◌else◌}
use Rattle.opcode_table.specs.declared.opcodes.OperandForm.{OperandForm}
use Rattle.opcode_table.specs.declared.opcodes.OperandForm.TheVariants.{Unknown, OutOfScope, Empty, SignedByte, SignedShort, PoolByte, Pool, Local, Increment, Jump, WideJump, Table, Lookup, Interface, ArrayType, Dimensions, Wide}

pub record Opcode : Type 0 where
  pub number : ℕ
  pub form : OperandForm

abbrev pub op : ℕ → OperandForm → Opcode
op n f = record { number = n; form = f }

-- in the groups of JVMS chapter 7
unfoldable pub opcodes : List Opcode
opcodes =
    -- constants
    op 0 Empty ∷  -- nop
    op 1 Empty ∷  -- aconst_null
    op 2 Empty ∷  -- iconst_m1
    op 3 Empty ∷  -- iconst_0
    op 4 Empty ∷  -- iconst_1
    op 5 Empty ∷  -- iconst_2
    op 6 Empty ∷  -- iconst_3
    op 7 Empty ∷  -- iconst_4
    op 8 Empty ∷  -- iconst_5
    op 9 Empty ∷  -- lconst_0
    op 10 Empty ∷  -- lconst_1
    op 11 OutOfScope ∷  -- fconst_0
    op 12 OutOfScope ∷  -- fconst_1
    op 13 OutOfScope ∷  -- fconst_2
    op 14 OutOfScope ∷  -- dconst_0
    op 15 OutOfScope ∷  -- dconst_1
    op 16 SignedByte ∷  -- bipush
    op 17 SignedShort ∷  -- sipush
    op 18 PoolByte ∷  -- ldc
    op 19 Pool ∷  -- ldc_w
    op 20 Pool ∷  -- ldc2_w
    -- loads
    op 21 Local ∷  -- iload
    op 22 Local ∷  -- lload
    op 23 OutOfScope ∷  -- fload
    op 24 OutOfScope ∷  -- dload
    op 25 Local ∷  -- aload
    op 26 Empty ∷  -- iload_0
    op 27 Empty ∷  -- iload_1
    op 28 Empty ∷  -- iload_2
    op 29 Empty ∷  -- iload_3
    op 30 Empty ∷  -- lload_0
    op 31 Empty ∷  -- lload_1
    op 32 Empty ∷  -- lload_2
    op 33 Empty ∷  -- lload_3
    op 34 OutOfScope ∷  -- fload_0
    op 35 OutOfScope ∷  -- fload_1
    op 36 OutOfScope ∷  -- fload_2
    op 37 OutOfScope ∷  -- fload_3
    op 38 OutOfScope ∷  -- dload_0
    op 39 OutOfScope ∷  -- dload_1
    op 40 OutOfScope ∷  -- dload_2
    op 41 OutOfScope ∷  -- dload_3
    op 42 Empty ∷  -- aload_0
    op 43 Empty ∷  -- aload_1
    op 44 Empty ∷  -- aload_2
    op 45 Empty ∷  -- aload_3
    op 46 Empty ∷  -- iaload
    op 47 Empty ∷  -- laload
    op 48 OutOfScope ∷  -- faload
    op 49 OutOfScope ∷  -- daload
    op 50 Empty ∷  -- aaload
    op 51 Empty ∷  -- baload
    op 52 Empty ∷  -- caload
    op 53 Empty ∷  -- saload
    -- stores
    op 54 Local ∷  -- istore
    op 55 Local ∷  -- lstore
    op 56 OutOfScope ∷  -- fstore
    op 57 OutOfScope ∷  -- dstore
    op 58 Local ∷  -- astore
    op 59 Empty ∷  -- istore_0
    op 60 Empty ∷  -- istore_1
    op 61 Empty ∷  -- istore_2
    op 62 Empty ∷  -- istore_3
    op 63 Empty ∷  -- lstore_0
    op 64 Empty ∷  -- lstore_1
    op 65 Empty ∷  -- lstore_2
    op 66 Empty ∷  -- lstore_3
    op 67 OutOfScope ∷  -- fstore_0
    op 68 OutOfScope ∷  -- fstore_1
    op 69 OutOfScope ∷  -- fstore_2
    op 70 OutOfScope ∷  -- fstore_3
    op 71 OutOfScope ∷  -- dstore_0
    op 72 OutOfScope ∷  -- dstore_1
    op 73 OutOfScope ∷  -- dstore_2
    op 74 OutOfScope ∷  -- dstore_3
    op 75 Empty ∷  -- astore_0
    op 76 Empty ∷  -- astore_1
    op 77 Empty ∷  -- astore_2
    op 78 Empty ∷  -- astore_3
    op 79 Empty ∷  -- iastore
    op 80 Empty ∷  -- lastore
    op 81 OutOfScope ∷  -- fastore
    op 82 OutOfScope ∷  -- dastore
    op 83 Empty ∷  -- aastore
    op 84 Empty ∷  -- bastore
    op 85 Empty ∷  -- castore
    op 86 Empty ∷  -- sastore
    -- stack
    op 87 Empty ∷  -- pop
    op 88 Empty ∷  -- pop2
    op 89 Empty ∷  -- dup
    op 90 Empty ∷  -- dup_x1
    op 91 Empty ∷  -- dup_x2
    op 92 Empty ∷  -- dup2
    op 93 Empty ∷  -- dup2_x1
    op 94 Empty ∷  -- dup2_x2
    op 95 Empty ∷  -- swap
    -- math
    op 96 Empty ∷  -- iadd
    op 97 Empty ∷  -- ladd
    op 98 OutOfScope ∷  -- fadd
    op 99 OutOfScope ∷  -- dadd
    op 100 Empty ∷  -- isub
    op 101 Empty ∷  -- lsub
    op 102 OutOfScope ∷  -- fsub
    op 103 OutOfScope ∷  -- dsub
    op 104 Empty ∷  -- imul
    op 105 Empty ∷  -- lmul
    op 106 OutOfScope ∷  -- fmul
    op 107 OutOfScope ∷  -- dmul
    op 108 Empty ∷  -- idiv
    op 109 Empty ∷  -- ldiv
    op 110 OutOfScope ∷  -- fdiv
    op 111 OutOfScope ∷  -- ddiv
    op 112 Empty ∷  -- irem
    op 113 Empty ∷  -- lrem
    op 114 OutOfScope ∷  -- frem
    op 115 OutOfScope ∷  -- drem
    op 116 Empty ∷  -- ineg
    op 117 Empty ∷  -- lneg
    op 118 OutOfScope ∷  -- fneg
    op 119 OutOfScope ∷  -- dneg
    op 120 Empty ∷  -- ishl
    op 121 Empty ∷  -- lshl
    op 122 Empty ∷  -- ishr
    op 123 Empty ∷  -- lshr
    op 124 Empty ∷  -- iushr
    op 125 Empty ∷  -- lushr
    op 126 Empty ∷  -- iand
    op 127 Empty ∷  -- land
    op 128 Empty ∷  -- ior
    op 129 Empty ∷  -- lor
    op 130 Empty ∷  -- ixor
    op 131 Empty ∷  -- lxor
    op 132 Increment ∷  -- iinc
    -- conversions
    op 133 Empty ∷  -- i2l
    op 134 OutOfScope ∷  -- i2f
    op 135 OutOfScope ∷  -- i2d
    op 136 Empty ∷  -- l2i
    op 137 OutOfScope ∷  -- l2f
    op 138 OutOfScope ∷  -- l2d
    op 139 OutOfScope ∷  -- f2i
    op 140 OutOfScope ∷  -- f2l
    op 141 OutOfScope ∷  -- f2d
    op 142 OutOfScope ∷  -- d2i
    op 143 OutOfScope ∷  -- d2l
    op 144 OutOfScope ∷  -- d2f
    op 145 Empty ∷  -- i2b
    op 146 Empty ∷  -- i2c
    op 147 Empty ∷  -- i2s
    -- comparisons
    op 148 Empty ∷  -- lcmp
    op 149 OutOfScope ∷  -- fcmpl
    op 150 OutOfScope ∷  -- fcmpg
    op 151 OutOfScope ∷  -- dcmpl
    op 152 OutOfScope ∷  -- dcmpg
    op 153 Jump ∷  -- ifeq
    op 154 Jump ∷  -- ifne
    op 155 Jump ∷  -- iflt
    op 156 Jump ∷  -- ifge
    op 157 Jump ∷  -- ifgt
    op 158 Jump ∷  -- ifle
    op 159 Jump ∷  -- if_icmpeq
    op 160 Jump ∷  -- if_icmpne
    op 161 Jump ∷  -- if_icmplt
    op 162 Jump ∷  -- if_icmpge
    op 163 Jump ∷  -- if_icmpgt
    op 164 Jump ∷  -- if_icmple
    op 165 Jump ∷  -- if_acmpeq
    op 166 Jump ∷  -- if_acmpne
    -- control
    op 167 Jump ∷  -- goto
    op 168 OutOfScope ∷  -- jsr
    op 169 OutOfScope ∷  -- ret
    op 170 Table ∷  -- tableswitch
    op 171 Lookup ∷  -- lookupswitch
    op 172 Empty ∷  -- ireturn
    op 173 Empty ∷  -- lreturn
    op 174 OutOfScope ∷  -- freturn
    op 175 OutOfScope ∷  -- dreturn
    op 176 Empty ∷  -- areturn
    op 177 Empty ∷  -- return
    -- references
    op 178 Pool ∷  -- getstatic
    op 179 Pool ∷  -- putstatic
    op 180 Pool ∷  -- getfield
    op 181 Pool ∷  -- putfield
    op 182 Pool ∷  -- invokevirtual
    op 183 Pool ∷  -- invokespecial
    op 184 Pool ∷  -- invokestatic
    op 185 Interface ∷  -- invokeinterface
    op 186 OutOfScope ∷  -- invokedynamic
    op 187 Pool ∷  -- new
    op 188 ArrayType ∷  -- newarray
    op 189 Pool ∷  -- anewarray
    op 190 Empty ∷  -- arraylength
    op 191 Empty ∷  -- athrow
    op 192 Pool ∷  -- checkcast
    op 193 Pool ∷  -- instanceof
    op 194 OutOfScope ∷  -- monitorenter
    op 195 OutOfScope ∷  -- monitorexit
    -- extended
    op 196 Wide ∷  -- wide
    op 197 Dimensions ∷  -- multianewarray
    op 198 Jump ∷  -- ifnull
    op 199 Jump ∷  -- ifnonnull
    op 200 WideJump ∷  -- goto_w
    op 201 OutOfScope ∷  -- jsr_w
    -- reserved: they stand in no class file
    op 202 Unknown ∷  -- breakpoint
    op 254 Unknown ∷  -- impdep1
    op 255 Unknown ∷  -- impdep2
    []

-- the operands of an opcode of a list, and Unknown for a number that is not there
abbrev pub form_in : List Opcode → ℕ → OperandForm
form_in [] n = Unknown
form_in (row ∷ rows) n = if n == row.number then row.form else form_in rows n

unfoldable pub form_of : ℕ → OperandForm
form_of n = form_in opcodes n
