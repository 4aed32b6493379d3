-- The bytes of an instruction, by the form of its operands, are that instruction.
use Rattle.std.proofs.Common.{◌≡◌, ℕ, ◌<◌, ◌≤◌, ◌^◌, Bool, true, false, List, [], ◌∷◌, ◌++◌, Some, refl, sym, ap, subst, append_assoc, arith, lit<}
use Rattle.std.specs.Prelude.{nat_lt, ◌&&◌, ℤ, pos, negsuc, ◌+ℤ◌, ◌-ℤ◌, ◌≤ℤ◌, FitsSigned, All, None, length, if◌then◌else◌}
use Rattle.std.specs.List.{flat_map}
use Rattle.std.specs.Int.{w8, w16, w32}
use Rattle.std.proofs.lemmas.Bool.{ltb-true}
use Rattle.std.proofs.lemmas.Int.{ints}
use Rattle.std.proofs.lemmas.List.{append-nil}
use Rattle.std.proofs.lemmas.List.Elements.{All-head, All-tail}
use Rattle.class_input.specs.Grammar.{Each}
use Rattle.class_names.specs.Pieces.{joined}
use Rattle.class_model.specs.Descriptor.{words_of}
use Rattle.class_model.specs.declared.types.Primitive.{Primitive}
use Rattle.class_model.specs.declared.types.JType.{JType}
use Rattle.class_model.specs.declared.types.MethodRef.{MethodRef}
use Rattle.class_model.specs.declared.insn.InvokeKind.TheVariants.{Interface}
use Rattle.class_names.specs.declared.member.MethodEntry.TheVariants.{OfInterface}
use Rattle.class_names.specs.Names.{NamesMethod, NamesType}
use Rattle.class_model.specs.declared.insn.Insn.{Insn}
use Rattle.class_model.specs.declared.insn.Insn.TheVariants.{PushInt, Iinc, Invoke, NewArray, MultiNewArray}
use Rattle.const_pool.specs.Pool.{Pool}
use Rattle.opcode_table.specs.declared.opcodes.OperandForm.{OperandForm}
use Rattle.opcode_table.specs.declared.opcodes.OperandForm.TheVariants as form
use Rattle.opcode_table.specs.declared.raw_insn.RawInsn.{RawInsn}
use Rattle.opcode_table.specs.declared.raw_insn.RawInsn.TheVariants as raw
use Rattle.opcode_table.specs.Opcodes.{opcodes, form_of}
use Rattle.opcode_table.specs.Writing.{spelling, index_bytes, offset_bytes, u16_bytes, i8_bytes, i16_bytes, i32_bytes, row_bytes, fits_i8, zeros, FitsI32, RowFits}
use Rattle.insn_code.specs.declared.unlinked.Unlinked.{Unlinked}
use Rattle.insn_code.specs.declared.unlinked.Unlinked.TheVariants.{Whole, Jump, Table, Lookup}
use Rattle.insn_code.specs.InsnBytes.{IsUnlinked, AreOperands, AreWide, IsPoolInsn, IsI32, Two, Ascend}
use Rattle.insn_code.specs.Shapes.{plain, local, element}
use Rattle.insn_spelling.proofs.Numbers.{u8_is, u16_is, i8_is, i16_is, i32_is, padding_is}

-- an instruction in its raw form, at pc, stands for one of these
abbrev pub Stands : Pool → ℕ → RawInsn → Unlinked → Type 0
Stands r pc x y = IsUnlinked r pc (spelling pc x) y

pub if_stands : (r : Pool) (pc : ℕ) (b : Bool) (x y : RawInsn) (z : Unlinked) → (b ≡ true → Stands r pc x z) → (b ≡ false → Stands r pc y z) → Stands r pc (if b then x else y) z
if_stands r pc true x y z f g = f refl
if_stands r pc false x y z f g = g refl

operands_of : (r : Pool) (pc op : ℕ) (f : OperandForm) (operands : List ℕ) (x : Unlinked) → op < 256 → form_of op ≡ f → AreOperands r pc op f operands x → IsUnlinked r pc (op ∷ operands) x
operands_of r pc op f operands x byte is h = record {
  opcode = op;
  operands = operands;
  spelled = refl;
  byte = byte;
  operands_are = subst (λ (g : OperandForm). AreOperands r pc op g operands x) (sym is) h;
}

pub alone : (r : Pool) (pc op : ℕ) (insn : Insn) → op < 256 → form_of op ≡ form.Empty → plain op ≡ Some insn → Stands r pc (raw.Plain op) (Whole insn)
unfolding spelling
alone r pc op insn byte is gives = operands_of r pc op form.Empty [] (Whole insn) byte is (insn, (refl, gives), refl)

pub byte : (r : Pool) (pc : ℕ) (n : ℤ) → FitsSigned w8 n → Stands r pc (raw.Byte 16 n) (Whole (PushInt n))
unfolding spelling form_of opcodes
byte r pc n fits =
    let i = i8_is n fits in
    operands_of r pc 16 form.SignedByte _ (Whole (PushInt n)) (lit< tt) refl (i.0, i.1, ap (λ (z : ℤ). Whole (PushInt z)) i.2)

pub short : (r : Pool) (pc : ℕ) (n : ℤ) → FitsSigned w16 n → Stands r pc (raw.Short 17 n) (Whole (PushInt n))
unfolding spelling form_of opcodes
short r pc n fits =
    let i = i16_is n fits in
    operands_of r pc 17 form.SignedShort _ (Whole (PushInt n)) (lit< tt) refl (i.0, i.1, ap (λ (z : ℤ). Whole (PushInt z)) i.2)

pub indexed : (r : Pool) (pc op index : ℕ) (insn : Insn) → op < 256 → form_of op ≡ form.Pool → index < 2 ^ 16 → IsPoolInsn r op index insn → Stands r pc (raw.Pool op index) (Whole insn)
unfolding spelling
indexed r pc op index insn byte is fits names =
    let bytes : index_bytes (form_of op) index ≡ u16_bytes index = ap (λ (f : OperandForm). index_bytes f index) is in
    subst (λ (text : List ℕ). IsUnlinked r pc (op ∷ text) (Whole insn)) (sym bytes) (operands_of r pc op form.Pool (u16_bytes index) (Whole insn) byte is (insn, (index, u16_is index fits, names), refl))

-- what stands behind `wide`
wide_of : (r : Pool) (pc op : ℕ) (f : OperandForm) (operands : List ℕ) (x : Unlinked) → op < 256 → form_of op ≡ f → AreWide op f operands x → IsUnlinked r pc (196 ∷ op ∷ operands) x
unfolding form_of opcodes
wide_of r pc op f operands x byte is h =
    operands_of r pc 196 form.Wide (op ∷ operands) x (lit< tt) refl (record {
      opcode = op;
      operands = operands;
      spelled = refl;
      byte = byte;
      operands_are = subst (λ (g : OperandForm). AreWide op g operands x) (sym is) h;
    })

local_by : (r : Pool) (pc op slot : ℕ) (b : Bool) → nat_lt slot 256 ≡ b → op < 256 → form_of op ≡ form.Local → slot < 2 ^ 16 → IsUnlinked r pc (if b then op ∷ slot ∷ [] else 196 ∷ op ∷ u16_bytes slot) (Whole (local op slot))
local_by r pc op slot true small byte is fits = operands_of r pc op form.Local (slot ∷ []) (Whole (local op slot)) byte is (slot, u8_is slot (ltb-true slot 256 small), refl)
local_by r pc op slot false large byte is fits = wide_of r pc op form.Local (u16_bytes slot) (Whole (local op slot)) byte is (slot, u16_is slot fits, refl)

pub named_local : (r : Pool) (pc op slot : ℕ) → op < 256 → form_of op ≡ form.Local → slot < 2 ^ 16 → Stands r pc (raw.Local op slot) (Whole (local op slot))
unfolding spelling
named_local r pc op slot byte is fits = local_by r pc op slot (nat_lt slot 256) refl byte is fits

pub both : (a b : Bool) → (a && b) ≡ true → (a ≡ true) × (b ≡ true)
both true b e = (refl, e)
both false b e = absurd cc

small_step : (step : ℤ) → fits_i8 step ≡ true → FitsSigned w8 step
small_step (pos n) h = omega (arith, ints, ltb-true n 128 h)
small_step (negsuc n) h = omega (arith, ints, ltb-true n 128 h)

increment_by : (r : Pool) (pc slot : ℕ) (step : ℤ) (b : Bool) → (nat_lt slot 256 && fits_i8 step) ≡ b → slot < 2 ^ 16 → FitsSigned w16 step
    → IsUnlinked r pc (if b then 132 ∷ slot ∷ i8_bytes step else 196 ∷ 132 ∷ (u16_bytes slot ++ i16_bytes step)) (Whole (Iinc slot step))
unfolding form_of opcodes
increment_by r pc slot step true small fits step_fits =
    let s = both (nat_lt slot 256) (fits_i8 step) small in
    let i = i8_is step (small_step step s.1) in
    operands_of r pc 132 form.Increment (slot ∷ i8_bytes step) (Whole (Iinc slot step)) (lit< tt) refl
    ((slot, i.0), (slot ∷ [], i8_bytes step, refl, u8_is slot (ltb-true slot 256 s.0), i.1), ap (λ (z : ℤ). Whole (Iinc slot z)) i.2)
increment_by r pc slot step false large fits step_fits =
    let i = i16_is step step_fits in
    wide_of r pc 132 form.Increment (u16_bytes slot ++ i16_bytes step) (Whole (Iinc slot step)) (lit< tt) refl
    ((slot, i.0), (u16_bytes slot, i16_bytes step, refl, u16_is slot fits, i.1), ap (λ (z : ℤ). Whole (Iinc slot z)) i.2)

pub increment : (r : Pool) (pc slot : ℕ) (step : ℤ) → slot < 2 ^ 16 → FitsSigned w16 step → Stands r pc (raw.Inc slot step) (Whole (Iinc slot step))
unfolding spelling
increment r pc slot step fits step_fits = increment_by r pc slot step (nat_lt slot 256 && fits_i8 step) refl fits step_fits

pub near_jump : (r : Pool) (pc op : ℕ) (distance : ℤ) → op < 256 → form_of op ≡ form.Jump → FitsSigned w16 distance → Stands r pc (raw.Jump op distance) (Jump op distance)
unfolding spelling
near_jump r pc op distance byte is fits =
    let bytes : offset_bytes (form_of op) distance ≡ i16_bytes distance = ap (λ (f : OperandForm). offset_bytes f distance) is in
    let i = i16_is distance fits in
    subst (λ (text : List ℕ). IsUnlinked r pc (op ∷ text) (Jump op distance)) (sym bytes)
    (operands_of r pc op form.Jump (i16_bytes distance) (Jump op distance) byte is (i.0, i.1, ap (λ (z : ℤ). Jump op z) i.2))

pub far_jump : (r : Pool) (pc op : ℕ) (distance : ℤ) → op < 256 → form_of op ≡ form.WideJump → FitsSigned w32 distance → Stands r pc (raw.Jump op distance) (Jump op distance)
unfolding spelling
far_jump r pc op distance byte is fits =
    let bytes : offset_bytes (form_of op) distance ≡ i32_bytes distance = ap (λ (f : OperandForm). offset_bytes f distance) is in
    subst (λ (text : List ℕ). IsUnlinked r pc (op ∷ text) (Jump op distance)) (sym bytes)
    (operands_of r pc op form.WideJump (i32_bytes distance) (Jump op distance) byte is (distance, i32_is distance fits, refl))

pub interface_call : (r : Pool) (pc index : ℕ) (method : MethodRef) → index < 2 ^ 16 → words_of method.desc true ≤ 255 → NamesMethod OfInterface r index method → Stands r pc (raw.Interface index (words_of method.desc true)) (Whole (Invoke Interface method))
unfolding spelling form_of opcodes
interface_call r pc index method fits few names =
    let n : ℕ = words_of method.desc true in
    operands_of r pc 185 form.Interface (u16_bytes index ++ n ∷ 0 ∷ []) (Whole (Invoke Interface method)) (lit< tt) refl (record {
      index_text = u16_bytes index;
      count_text = n ∷ [];
      zero_text = 0 ∷ [];
      spelled = refl;
      method = method;
      named = (index, u16_is index fits, names);
      count_is = u8_is n (omega arith);
      zero_is = u8_is 0 (lit< tt);
      stands = refl;
    })

pub array_type : (r : Pool) (pc code : ℕ) (ty : Primitive) → code < 256 → element code ≡ Some ty → Stands r pc (raw.NewArray code) (Whole (NewArray ty))
unfolding spelling form_of opcodes
array_type r pc code ty fits is = operands_of r pc 188 form.ArrayType (code ∷ []) (Whole (NewArray ty)) (lit< tt) refl (code, u8_is code fits, (ty, is, refl))

pub dimensions : (r : Pool) (pc index : ℕ) (ty : JType) (n : ℕ) → index < 2 ^ 16 → n < 256 → 0 < n → NamesType r index ty → Stands r pc (raw.Multi index n) (Whole (MultiNewArray ty n))
unfolding spelling form_of opcodes
dimensions r pc index ty n fits few some names =
    operands_of r pc 197 form.Dimensions (u16_bytes index ++ n ∷ []) (Whole (MultiNewArray ty n)) (lit< tt) refl (record {
      index_text = u16_bytes index;
      count_text = n ∷ [];
      spelled = refl;
      ty = ty;
      dimensions = n;
      named = (index, u16_is index fits, names);
      count_is = u8_is n few;
      some = some;
      stands = refl;
    })

-- ---- switches

numbers_are : (xs : List ℤ) → All FitsI32 xs → Each IsI32 (flat_map i32_bytes xs) xs
numbers_are [] fit = refl
numbers_are (x ∷ xs) fit = (i32_bytes x, flat_map i32_bytes xs, refl, i32_is x (All-head FitsI32 x xs fit), numbers_are xs (All-tail FitsI32 x xs fit))

rows_are : (rows : List (ℤ × ℤ)) → All RowFits rows → Each (Two IsI32 IsI32) (flat_map row_bytes rows) rows
rows_are [] fit = refl
rows_are (row ∷ rows) fit =
    let one : RowFits row = All-head RowFits row rows fit in
    (row_bytes row, flat_map row_bytes rows, refl, (i32_bytes row.0, i32_bytes row.1, refl, i32_is row.0 one.0, i32_is row.1 one.1), rows_are rows (All-tail RowFits row rows fit))

four : (a b c d e : List ℕ) → a ++ b ++ c ++ d ++ e ≡ joined (a ∷ b ∷ c ∷ d ∷ e ∷ [])
four a b c d e = simp (append_assoc, append-nil)

three : (a b c d : List ℕ) → a ++ b ++ c ++ d ≡ joined (a ∷ b ∷ c ∷ d ∷ [])
three a b c d = simp (append_assoc, append-nil)

last_of : (low : ℤ) (n : ℕ) → (low +ℤ pos n) ≡ (low +ℤ pos n -ℤ pos 1 +ℤ pos 1)
last_of low n = omega (arith, ints)

last_low : (low : ℤ) (n : ℕ) → 0 < n → low ≤ℤ (low +ℤ pos n -ℤ pos 1)
last_low low n some = omega (arith, ints)

last_fits : (low : ℤ) (n : ℕ) → FitsSigned w32 low → 0 < n → (low +ℤ pos n) ≤ℤ pos (2 ^ 31) → FitsSigned w32 (low +ℤ pos n -ℤ pos 1)
last_fits low n fits some le = omega (arith, ints)

pub table : (r : Pool) (pc : ℕ) (low default : ℤ) (offsets : List ℤ) → FitsSigned w32 low → FitsSigned w32 default → All FitsI32 offsets → 0 < length offsets → (low +ℤ pos (length offsets)) ≤ℤ pos (2 ^ 31)
    → Stands r pc (raw.Table low default offsets) (Table low default offsets)
unfolding spelling form_of opcodes
table r pc low default offsets low_fits default_fits fit some ends =
    let high : ℤ = low +ℤ pos (length offsets) -ℤ pos 1 in
    operands_of r pc 170 form.Table _ (Table low default offsets) (lit< tt) refl (record {
      padding_text = zeros pc;
      default_text = i32_bytes default;
      low_text = i32_bytes low;
      high_text = i32_bytes high;
      distances_text = flat_map i32_bytes offsets;
      spelled = four (zeros pc) (i32_bytes default) (i32_bytes low) (i32_bytes high) (flat_map i32_bytes offsets);
      default = default;
      low = low;
      high = high;
      distances = offsets;
      padding_is = padding_is pc;
      default_is = i32_is default default_fits;
      low_is = i32_is low low_fits;
      high_is = i32_is high (last_fits low (length offsets) low_fits some ends);
      ordered = last_low low (length offsets) some;
      counted = last_of low (length offsets);
      distances_are = numbers_are offsets fit;
      stands = refl;
    })

few_fit : (n : ℕ) → n ≤ 65535 → FitsSigned w32 (pos n)
few_fit n h = omega (arith, ints)

pub lookup : (r : Pool) (pc : ℕ) (default : ℤ) (rows : List (ℤ × ℤ)) → FitsSigned w32 default → All RowFits rows → length rows ≤ 65535 → Ascend None rows → Stands r pc (raw.Lookup default rows) (Lookup default rows)
unfolding spelling form_of opcodes
lookup r pc default rows default_fits fit few ascend =
    operands_of r pc 171 form.Lookup _ (Lookup default rows) (lit< tt) refl (record {
      padding_text = zeros pc;
      default_text = i32_bytes default;
      count_text = i32_bytes (pos (length rows));
      rows_text = flat_map row_bytes rows;
      spelled = three (zeros pc) (i32_bytes default) (i32_bytes (pos (length rows))) (flat_map row_bytes rows);
      default = default;
      rows = rows;
      padding_is = padding_is pc;
      default_is = i32_is default default_fits;
      count_is = i32_is (pos (length rows)) (few_fit (length rows) few);
      rows_are = rows_are rows fit;
      ascend = ascend;
      stands = refl;
    })
