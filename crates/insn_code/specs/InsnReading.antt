-- Reading one instruction from left to right, with the first bad place.
use Rattle.std.specs.Prelude.{ℕ, suc, ◌==◌, nat_lt, [], ◌∷◌, ◌++◌, Bool, true, Option, Some, None, Result, Ok, Err, if◌then◌else◌, ℤ, pos, int_le, int_lt, unsigned_abs, ◌-ℤ◌}
use Rattle.std.specs.Int.{w8, w16, w32, cast_signed}
use Rattle.class_input.specs.declared.bad_class.BadKind.{BadKind}
use Rattle.class_input.specs.declared.bad_class.BadKind.TheVariants.{Code, Operand}
use Rattle.class_input.specs.Reading.{Fault, Reading, ◌>>=◌, done, refused, here, lifted, judging, number, each, many}
use Rattle.class_model.specs.Descriptor.{words_of}
use Rattle.class_model.specs.declared.insn.Insn.{Insn}
use Rattle.class_model.specs.declared.insn.Insn.TheVariants.{PushInt, PushLong, Iinc, GetStatic, PutStatic, GetField, PutField, Invoke, New, NewArray, ANewArray, CheckCast, InstanceOf, MultiNewArray}
use Rattle.class_model.specs.declared.insn.InvokeKind.{InvokeKind}
use Rattle.class_model.specs.declared.insn.InvokeKind.TheVariants.{Virtual, Special, Static, Interface}
use Rattle.class_model.specs.declared.types.Primitive.{Primitive}
use Rattle.const_pool.specs.Pool.{Pool}
use Rattle.class_names.specs.declared.member.MethodEntry.{MethodEntry}
use Rattle.class_names.specs.declared.member.MethodEntry.TheVariants.{OfClass, OfInterface, Either}
use Rattle.class_names.specs.NameReading.{class_name_at, class_type_at, field_at, method_at, long_at, pushed_at}
use Rattle.class_names.specs.Steps.{at_index}
use Rattle.opcode_table.specs.declared.opcodes.OperandForm.{OperandForm}
use Rattle.opcode_table.specs.declared.opcodes.OperandForm.TheVariants as form
use Rattle.opcode_table.specs.Opcodes.{form_of}
use Rattle.opcode_table.specs.Fields.{padding}
use Rattle.insn_code.specs.declared.unlinked.Unlinked.{Unlinked}
use Rattle.insn_code.specs.declared.unlinked.Unlinked.TheVariants.{Whole, Jump, Table, Lookup}
use Rattle.insn_code.specs.declared.switches.Rows.{Rows}
use Rattle.insn_code.specs.Shapes.{plain, local, element}

-- ---- steps

-- what is demanded at a place
abbrev pub demanded : ℕ → BadKind → Bool → Result (Unit {0}) Fault
demanded place kind test = if test then Ok tt else Err (record { place = place; kind = kind })

-- two fields, one behind the other
abbrev pub two : {A B : Type 0} → Reading A → Reading B → Reading (A × B)
two r s = do
  x ← r
  y ← s
  done (x, y)

-- a signed number of four bytes
unfoldable pub signed : Reading ℤ
signed = do
  n ← number w32
  done (cast_signed w32 n)

-- a byte that has to be this number
unfoldable pub exactly : ℕ → Reading (Unit {0})
exactly n = do
  at ← here
  k ← number w8
  lifted (demanded at Operand (k == n))

-- ---- switches

-- each byte of padding is a field of its own
abbrev pub any_byte : Unit {0} → Reading (Unit {0})
any_byte u = do
  _ ← number w8
  done u

abbrev pub pad : ℕ → Reading (Unit {0})
pad pc = each (padding pc) any_byte tt

unfoldable pub table_switch : ℕ → Reading Unlinked
table_switch pc = do
  _ ← pad pc
  default ← signed
  low ← signed
  at ← here
  high ← signed
  _ ← lifted (demanded at Operand (int_le low high))
  distances ← many (suc (unsigned_abs (high -ℤ low))) signed
  done (Table low default distances)

-- whether a key is above the one before it
abbrev pub is_above : Option ℤ → ℤ → Bool
is_above None key = true
is_above (Some bound) key = int_lt bound key

abbrev pub one_row : Rows → ℤ → ℤ → Rows
one_row s key distance = record { rows = s.rows ++ (key, distance) ∷ []; last = Some key }

unfoldable pub row : Rows → Reading Rows
row s = do
  at ← here
  key ← signed
  _ ← lifted (demanded at Operand (is_above s.last key))
  distance ← signed
  done (one_row s key distance)

abbrev pub no_rows : Rows
no_rows = record { rows = []; last = None }

unfoldable pub lookup_switch : ℕ → Reading Unlinked
lookup_switch pc = do
  _ ← pad pc
  default ← signed
  at ← here
  count ← signed
  _ ← lifted (demanded at Operand (int_le (pos 0) count))
  s ← each (unsigned_abs count) row no_rows
  done (Lookup default s.rows)

-- ---- operands that name an entry of the constant pool

abbrev pub made : {A : Type 0} → (A → Insn) → A → Result Insn Fault
made f x = Ok (f x)

abbrev pub called : Pool → InvokeKind → MethodEntry → ℕ → ℕ → Result Insn Fault
called p kind entry place k = judging (method_at entry p place k) (made (Invoke kind))

-- the instruction of an opcode with an index k of two bytes, which stands at a place
unfoldable pub pool_insn : Pool → ℕ → ℕ → ℕ → Result Insn Fault
pool_insn p opcode place k =
    if opcode == 19 then pushed_at p place k
    else if opcode == 20 then judging (long_at p place k) (made PushLong)
    else if opcode == 178 then judging (field_at p place k) (made GetStatic)
    else if opcode == 179 then judging (field_at p place k) (made PutStatic)
    else if opcode == 180 then judging (field_at p place k) (made GetField)
    else if opcode == 181 then judging (field_at p place k) (made PutField)
    else if opcode == 182 then called p Virtual OfClass place k
    else if opcode == 183 then called p Special Either place k
    else if opcode == 184 then called p Static Either place k
    else if opcode == 187 then judging (class_name_at p place k) (made New)
    else if opcode == 189 then judging (class_type_at p place k) (made ANewArray)
    else if opcode == 192 then judging (class_type_at p place k) (made CheckCast)
    else judging (class_type_at p place k) (made InstanceOf)

-- an index of one byte, judged at its place
unfoldable pub at_byte : {A : Type 0} → (ℕ → ℕ → Result A Fault) → Reading A
at_byte judge = do
  place ← here
  k ← number w8
  lifted (judge place k)

unfoldable pub pool_byte : Pool → Reading Unlinked
pool_byte p = do
  insn ← at_byte (pushed_at p)
  done (Whole insn)

unfoldable pub interface_call : Pool → Reading Unlinked
interface_call p = do
  method ← at_index (method_at OfInterface p)
  _ ← exactly (words_of method.desc true)
  _ ← exactly 0
  done (Whole (Invoke Interface method))

unfoldable pub multi_array : Pool → Reading Unlinked
multi_array p = do
  ty ← at_index (class_type_at p)
  at ← here
  dimensions ← number w8
  _ ← lifted (demanded at Operand (nat_lt 0 dimensions))
  done (Whole (MultiNewArray ty dimensions))

-- ---- an instruction

-- the instruction of an opcode that stands alone
abbrev pub alone : ℕ → ℕ → Option Insn → Reading Unlinked
alone at opcode None = refused at (Code opcode)
alone at opcode (Some insn) = done (Whole insn)

abbrev pub array_of : ℕ → Option Primitive → Reading Unlinked
array_of at None = refused at Operand
array_of at (Some ty) = done (Whole (NewArray ty))

unfoldable pub array_type : Reading Unlinked
array_type = do
  at ← here
  code ← number w8
  array_of at (element code)

unfoldable pub wide_local : ℕ → Reading Unlinked
wide_local opcode = do
  slot ← number w16
  done (Whole (local opcode slot))

unfoldable pub wide_increment : Reading Unlinked
wide_increment = do
  pair ← two (number w16) (number w16)
  done (Whole (Iinc pair.0 (cast_signed w16 pair.1)))

-- what stands behind `wide` and an opcode at a place
abbrev pub widened : ℕ → ℕ → OperandForm → Reading Unlinked
widened at opcode form.Local = wide_local opcode
widened at opcode form.Increment = wide_increment
widened at opcode _ = refused at Operand

unfoldable pub wide : Reading Unlinked
wide = do
  at ← here
  opcode ← number w8
  widened at opcode (form_of opcode)

unfoldable pub signed_byte : Reading Unlinked
signed_byte = do
  n ← number w8
  done (Whole (PushInt (cast_signed w8 n)))

unfoldable pub signed_short : Reading Unlinked
signed_short = do
  n ← number w16
  done (Whole (PushInt (cast_signed w16 n)))

unfoldable pub narrow_local : ℕ → Reading Unlinked
narrow_local opcode = do
  slot ← number w8
  done (Whole (local opcode slot))

unfoldable pub increment : Reading Unlinked
increment = do
  pair ← two (number w8) (number w8)
  done (Whole (Iinc pair.0 (cast_signed w8 pair.1)))

unfoldable pub jump : ℕ → Reading Unlinked
jump opcode = do
  n ← number w16
  done (Jump opcode (cast_signed w16 n))

unfoldable pub wide_jump : ℕ → Reading Unlinked
wide_jump opcode = do
  distance ← signed
  done (Jump opcode distance)

unfoldable pub pool_index : Pool → ℕ → Reading Unlinked
pool_index p opcode = do
  insn ← at_index (pool_insn p opcode)
  done (Whole insn)

-- what stands behind an opcode, which stands at a place of the file and at pc of the code
abbrev pub operands : Pool → ℕ → ℕ → ℕ → OperandForm → Reading Unlinked
operands p at pc opcode form.Unknown = refused at (Code opcode)
operands p at pc opcode form.OutOfScope = refused at (Code opcode)
operands p at pc opcode form.Empty = alone at opcode (plain opcode)
operands p at pc opcode form.SignedByte = signed_byte
operands p at pc opcode form.SignedShort = signed_short
operands p at pc opcode form.PoolByte = pool_byte p
operands p at pc opcode form.Pool = pool_index p opcode
operands p at pc opcode form.Local = narrow_local opcode
operands p at pc opcode form.Increment = increment
operands p at pc opcode form.Jump = jump opcode
operands p at pc opcode form.WideJump = wide_jump opcode
operands p at pc opcode form.Table = table_switch pc
operands p at pc opcode form.Lookup = lookup_switch pc
operands p at pc opcode form.Interface = interface_call p
operands p at pc opcode form.ArrayType = array_type
operands p at pc opcode form.Dimensions = multi_array p
operands p at pc opcode form.Wide = wide

unfoldable pub insn : Pool → ℕ → Reading Unlinked
insn p pc = do
  at ← here
  opcode ← number w8
  operands p at pc opcode (form_of opcode)
