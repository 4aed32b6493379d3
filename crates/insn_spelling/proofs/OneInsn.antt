-- The bytes of each instruction are that instruction, and its branches lead where they should.
use Rattle.std.proofs.Common.{◌≡◌, ◌≢◌, ℕ, zero, suc, ◌<◌, ◌≤◌, ◌^◌, Bool, true, false, List, [], ◌∷◌, length, map, Some, None, refl, arith, lit<}
use Rattle.std.specs.Prelude.{ℤ, pos, negsuc, nat_lt, FitsSigned, All}
use Rattle.std.specs.Int.{w8, w16, w32}
use Rattle.std.proofs.lemmas.Bool.{ltb-true}
use Rattle.std.proofs.lemmas.Int.{ints}
use Rattle.std.proofs.lemmas.List.{length-map}
use Rattle.std.proofs.lemmas.List.Elements.{All-nil, All-cons, All-map, All-weaker}
use Rattle.std.specs.List.{list_all}
use Rattle.class_model.specs.declared.insn.Insn.{Insn}
use Rattle.class_model.specs.declared.insn.Insn.TheVariants.{Nop, PushNull, PushInt, PushLong, PushString, Load, Store, ArrayLoad, ArrayStore, Stack, Bin, Shift, Neg, Iinc, Convert, Lcmp, If, IfInt, IfRef, IfNull, Goto, TableSwitch, LookupSwitch, Return, GetStatic, PutStatic, GetField, PutField, Invoke, New, NewArray, ANewArray, ArrayLength, Athrow, CheckCast, InstanceOf, MultiNewArray}
use Rattle.class_model.specs.declared.insn.Kind.{Kind}
use Rattle.class_model.specs.declared.insn.Kind.TheVariants as kinds
use Rattle.class_model.specs.declared.insn.InvokeKind.{InvokeKind}
use Rattle.class_model.specs.declared.insn.InvokeKind.TheVariants as calls
use Rattle.class_model.specs.declared.types.Primitive.{Primitive}
use Rattle.class_model.specs.declared.types.Primitive.TheVariants as primitives
use Rattle.class_model.specs.declared.types.MethodRef.{MethodRef}
use Rattle.class_names.specs.declared.member.MethodEntry.{MethodEntry}
use Rattle.class_names.specs.declared.member.MethodEntry.TheVariants as entries
use Rattle.class_names.specs.Names.{NamesClass, NamesType, NamesField, NamesMethod, NamesLong, NamesPushed}
use Rattle.class_shape.specs.ShapedInsn.{ShapedInsn, AscendAbove, Ascend, key_of, FitsKind}
use Rattle.class_limits.specs.Sizes.{CodeLayout, is_small_int, is_small_long, size_at}
use Rattle.const_pool.specs.Pool.{Pool}
use Rattle.opcode_table.specs.declared.raw_insn.RawInsn.TheVariants as raw
use Rattle.opcode_table.specs.Opcodes.{opcodes, form_of}
use Rattle.opcode_table.specs.Writing.{fits_i8, FitsI32, RowFits}
use Rattle.insn_code.specs.declared.unlinked.Unlinked.{Unlinked}
use Rattle.insn_code.specs.declared.unlinked.Unlinked.TheVariants.{Whole, Jump, Table, Lookup}
use Rattle.insn_code.specs.InsnBytes as bytes
use Rattle.insn_code.specs.Linking.{link}
use Rattle.insn_code.specs.Shapes.{local, element}
use Rattle.pool_names.specs.Claims.{IsIndex}
use Rattle.insn_spelling.specs.OpcodeOf as opcode
use Rattle.insn_spelling.specs.Raw.{fits_i16, distance, row_distance, raw_int, raw_long, raw_call, raw_of}
use Rattle.insn_spelling.specs.Conditions.{Small, FitsBranch, fits_i32, is_in_range}
use Rattle.insn_spelling.proofs.Forms.{Stands, if_stands, both, byte, short, indexed, named_local, increment, interface_call, array_type, dimensions, table, lookup}
use Rattle.insn_spelling.proofs.Alone as alone
use Rattle.insn_spelling.proofs.Alone.{is_stands}
use Rattle.insn_spelling.proofs.Jumps.{if_is, if_int_is, if_ref_is, if_null_is, Found, distance_fits, jump_stands, goto_stands, jump_links, goto_links, table_links, lookup_links}

-- ---- what an index has to name for an instruction that is written with one

-- the entries that a call takes
abbrev pub taken_by : InvokeKind → MethodEntry
taken_by calls.Virtual = entries.OfClass
taken_by calls.Special = entries.Either
taken_by calls.Static = entries.Either
taken_by calls.Interface = entries.OfInterface

abbrev pub Named : Pool → ℕ → Insn → Type 0
Named r k (PushInt n) = fits_i16 n ≡ false → IsIndex NamesPushed (PushInt n) r k
Named r k (PushLong n) = is_small_long n ≡ false → IsIndex NamesLong n r k
Named r k (PushString units) = IsIndex NamesPushed (PushString units) r k
Named r k (GetStatic field) = IsIndex NamesField field r k
Named r k (PutStatic field) = IsIndex NamesField field r k
Named r k (GetField field) = IsIndex NamesField field r k
Named r k (PutField field) = IsIndex NamesField field r k
Named r k (Invoke kind method) = IsIndex (NamesMethod (taken_by kind)) method r k
Named r k (New class) = IsIndex NamesClass class r k
Named r k (ANewArray ty) = IsIndex NamesType ty r k
Named r k (CheckCast ty) = IsIndex NamesType ty r k
Named r k (InstanceOf ty) = IsIndex NamesType ty r k
Named r k (MultiNewArray ty count) = IsIndex NamesType ty r k
Named r k insn = Unit {0}

-- ---- an instruction that still holds distances

abbrev pub unlinked_of : CodeLayout → ℕ → Insn → Unlinked
unlinked_of layout pc (If cond target) = Jump (opcode.if_zero cond) (distance layout pc target)
unlinked_of layout pc (IfInt cond target) = Jump (opcode.if_int cond) (distance layout pc target)
unlinked_of layout pc (IfRef same target) = Jump (opcode.if_ref same) (distance layout pc target)
unlinked_of layout pc (IfNull null target) = Jump (opcode.if_null null) (distance layout pc target)
unlinked_of layout pc (Goto target) = Jump (opcode.goto layout.wide_goto) (distance layout pc target)
unlinked_of layout pc (TableSwitch low default targets) = Table low (distance layout pc default) (map (distance layout pc) targets)
unlinked_of layout pc (LookupSwitch default rows) = Lookup (distance layout pc default) (map (row_distance layout pc) rows)
unlinked_of layout pc insn = Whole insn

-- ---- numbers and locals

small_16 : (n : ℤ) → fits_i16 n ≡ true → FitsSigned w16 n
small_16 (pos n) h = omega (arith, ints, ltb-true n 32768 h)
small_16 (negsuc n) h = omega (arith, ints, ltb-true n 32768 h)

small_8 : (n : ℤ) → fits_i8 n ≡ true → FitsSigned w8 n
small_8 (pos n) h = omega (arith, ints, ltb-true n 128 h)
small_8 (negsuc n) h = omega (arith, ints, ltb-true n 128 h)

small_32 : (n : ℤ) → fits_i32 n ≡ true → FitsSigned w32 n
small_32 (pos n) h = omega (arith, ints, ltb-true n 2147483648 h)
small_32 (negsuc n) h = omega (arith, ints, ltb-true n 2147483648 h)

keys_fit : (rows : List (ℤ × ℕ)) → list_all (λ row. fits_i32 row.0) rows ≡ true → All (λ row. FitsSigned w32 row.0) rows
keys_fit [] h = All-nil (λ (row : ℤ × ℕ). FitsSigned w32 row.0)
keys_fit (row ∷ rows) h =
    let parts = both (fits_i32 row.0) (list_all (λ (x : ℤ × ℕ). fits_i32 x.0) rows) h in
    All-cons (λ (x : ℤ × ℕ). FitsSigned w32 x.0) row rows (small_32 row.0 parts.0) (keys_fit rows parts.1)

int_stands : (r : Pool) (pc k : ℕ) (n : ℤ) → Named r k (PushInt n) → Stands r pc (raw_int k n) (Whole (PushInt n))
unfolding form_of opcodes
int_stands r pc k n named =
    if_stands r pc (is_small_int n) _ _ (Whole (PushInt n)) (λ small. is_stands r pc _ (PushInt n) (alone.int_is n small)) (λ _.
    if_stands r pc (fits_i8 n) _ _ (Whole (PushInt n)) (λ small. byte r pc n (small_8 n small)) (λ _.
    if_stands r pc (fits_i16 n) _ _ (Whole (PushInt n)) (λ small. short r pc n (small_16 n small)) (λ large.
    let index = named large in
    indexed r pc 19 k (PushInt n) (lit< tt) refl index.0 index.1)))

long_stands : (r : Pool) (pc k : ℕ) (n : ℤ) → Named r k (PushLong n) → Stands r pc (raw_long k n) (Whole (PushLong n))
unfolding form_of opcodes
long_stands r pc k n named =
    if_stands r pc (is_small_long n) _ _ (Whole (PushLong n)) (λ small. is_stands r pc _ (PushLong n) (alone.long_is n small)) (λ large.
    let index = named large in
    indexed r pc 20 k (PushLong n) (lit< tt) refl index.0 (n, index.1, refl))

load_stands : (r : Pool) (pc : ℕ) (kind : Kind) (slot : ℕ) → slot < 2 ^ 16 → Stands r pc (raw.Local (opcode.load kind) slot) (Whole (Load kind slot))
unfolding form_of opcodes local
load_stands r pc kinds.Int slot fits = named_local r pc 21 slot (lit< tt) refl fits
load_stands r pc kinds.Long slot fits = named_local r pc 22 slot (lit< tt) refl fits
load_stands r pc kinds.Ref slot fits = named_local r pc 25 slot (lit< tt) refl fits

store_stands : (r : Pool) (pc : ℕ) (kind : Kind) (slot : ℕ) → slot < 2 ^ 16 → Stands r pc (raw.Local (opcode.store kind) slot) (Whole (Store kind slot))
unfolding form_of opcodes local
store_stands r pc kinds.Int slot fits = named_local r pc 54 slot (lit< tt) refl fits
store_stands r pc kinds.Long slot fits = named_local r pc 55 slot (lit< tt) refl fits
store_stands r pc kinds.Ref slot fits = named_local r pc 58 slot (lit< tt) refl fits

element_stands : (r : Pool) (pc : ℕ) (primitive : Primitive) → Stands r pc (raw.NewArray (opcode.element_code primitive)) (Whole (NewArray primitive))
unfolding element
element_stands r pc primitives.Boolean = array_type r pc 4 primitives.Boolean (lit< tt) refl
element_stands r pc primitives.Char = array_type r pc 5 primitives.Char (lit< tt) refl
element_stands r pc primitives.Float = array_type r pc 6 primitives.Float (lit< tt) refl
element_stands r pc primitives.Double = array_type r pc 7 primitives.Double (lit< tt) refl
element_stands r pc primitives.Byte = array_type r pc 8 primitives.Byte (lit< tt) refl
element_stands r pc primitives.Short = array_type r pc 9 primitives.Short (lit< tt) refl
element_stands r pc primitives.Int = array_type r pc 10 primitives.Int (lit< tt) refl
element_stands r pc primitives.Long = array_type r pc 11 primitives.Long (lit< tt) refl

call_stands : (r : Pool) (pc k : ℕ) (kind : InvokeKind) (method : MethodRef) → FitsKind kind method → IsIndex (NamesMethod (taken_by kind)) method r k → Stands r pc (raw_call k kind method) (Whole (Invoke kind method))
unfolding form_of opcodes
call_stands r pc k calls.Virtual method fits index = indexed r pc 182 k (Invoke calls.Virtual method) (lit< tt) refl index.0 (method, index.1, refl)
call_stands r pc k calls.Special method fits index = indexed r pc 183 k (Invoke calls.Special method) (lit< tt) refl index.0 (method, index.1, refl)
call_stands r pc k calls.Static method fits index = indexed r pc 184 k (Invoke calls.Static method) (lit< tt) refl index.0 (method, index.1, refl)
call_stands r pc k calls.Interface method fits index = interface_call r pc k method index.0 fits.1 index.1

-- ---- switches

pub some_of : (xs : List ℕ) → xs ≢ [] → 0 < length xs
some_of [] h = absurd (h refl)
some_of (x ∷ xs) h = omega arith

ascend_above : (layout : CodeLayout) (pc : ℕ) (last : ℤ) (rows : List (ℤ × ℕ)) → AscendAbove last (map key_of rows) → bytes.Ascend (Some last) (map (row_distance layout pc) rows)
ascend_above layout pc last [] h = tt
ascend_above layout pc last (row ∷ rows) h = (h.0, ascend_above layout pc row.0 rows h.1)

ascend_all : (layout : CodeLayout) (pc : ℕ) (rows : List (ℤ × ℕ)) → Ascend (map key_of rows) → bytes.Ascend None (map (row_distance layout pc) rows)
ascend_all layout pc [] h = tt
ascend_all layout pc (row ∷ rows) h = (tt, ascend_above layout pc row.0 rows h)

table_stands : (r : Pool) (layout : CodeLayout) (pc n : ℕ) (low : ℤ) (default : ℕ) (targets : List ℕ) → Small layout → pc ≤ 65535 → FitsSigned w32 low → ShapedInsn n (TableSwitch low default targets)
    → Stands r pc (raw.Table low (distance layout pc default) (map (distance layout pc) targets)) (Table low (distance layout pc default) (map (distance layout pc) targets))
table_stands r layout pc n low default targets small near fits shaped =
    let count : length (map (distance layout pc) targets) ≡ length targets = length-map targets (distance layout pc) in
    table r pc low (distance layout pc default) (map (distance layout pc) targets) fits (distance_fits layout pc default small near)
    (All-map FitsI32 (distance layout pc) targets (λ i d lt. distance_fits layout pc _ small near))
    (omega (arith, count, some_of targets shaped.some)) (rw count shaped.last_fits)

lookup_stands : (r : Pool) (layout : CodeLayout) (pc n default : ℕ) (rows : List (ℤ × ℕ)) → Small layout → pc ≤ 65535 → All (λ row. FitsSigned w32 row.0) rows → ShapedInsn n (LookupSwitch default rows) → length rows ≤ 65535
    → Stands r pc (raw.Lookup (distance layout pc default) (map (row_distance layout pc) rows)) (Lookup (distance layout pc default) (map (row_distance layout pc) rows))
lookup_stands r layout pc n default rows small near fits shaped few =
    let count : length (map (row_distance layout pc) rows) ≡ length rows = length-map rows (row_distance layout pc) in
    lookup r pc (distance layout pc default) (map (row_distance layout pc) rows) (distance_fits layout pc default small near)
    (All-map RowFits (row_distance layout pc) rows (All-weaker (λ (row : ℤ × ℕ). FitsSigned w32 row.0) (λ row. RowFits (row_distance layout pc row)) (λ row h. (h, distance_fits layout pc row.1 small near)) rows fits))
    (omega (arith, count)) (ascend_all layout pc rows shaped.ascend)

pub few_rows : (wide : Bool) (pc default : ℕ) (rows : List (ℤ × ℕ)) → size_at wide pc (LookupSwitch default rows) ≤ 65535 → length rows ≤ 65535
unfolding size_at
few_rows wide pc default rows h = omega arith

pub positive : (n : ℕ) → n ≢ 0 → 0 < n
positive zero h = absurd (h refl)
positive (suc n) h = omega arith

-- ---- every shape

pub stands : (r : Pool) (layout : CodeLayout) (pc k n : ℕ) (insn : Insn) → Small layout → pc ≤ 65535 → is_in_range insn ≡ true → ShapedInsn n insn → FitsBranch layout pc insn → size_at layout.wide_goto pc insn ≤ 65535 → Named r k insn
    → Stands r pc (raw_of layout pc k insn) (unlinked_of layout pc insn)
unfolding raw_of form_of opcodes
stands r layout pc k n Nop small near range shaped fits size named = is_stands r pc 0 Nop alone.nop_is
stands r layout pc k n PushNull small near range shaped fits size named = is_stands r pc 1 PushNull alone.null_is
stands r layout pc k n (PushInt m) small near range shaped fits size named = int_stands r pc k m named
stands r layout pc k n (PushLong m) small near range shaped fits size named = long_stands r pc k m named
stands r layout pc k n (PushString units) small near range shaped fits size named = indexed r pc 19 k (PushString units) (lit< tt) refl named.0 named.1
stands r layout pc k n (Load kind slot) small near range shaped fits size named =
    if_stands r pc (nat_lt slot 4) _ _ (Whole (Load kind slot)) (λ low. is_stands r pc _ (Load kind slot) (alone.load_is kind slot (ltb-true slot 4 low))) (λ _. load_stands r pc kind slot (ltb-true slot 65536 range))
stands r layout pc k n (Store kind slot) small near range shaped fits size named =
    if_stands r pc (nat_lt slot 4) _ _ (Whole (Store kind slot)) (λ low. is_stands r pc _ (Store kind slot) (alone.store_is kind slot (ltb-true slot 4 low))) (λ _. store_stands r pc kind slot (ltb-true slot 65536 range))
stands r layout pc k n (ArrayLoad elem) small near range shaped fits size named = is_stands r pc _ (ArrayLoad elem) (alone.array_load_is elem)
stands r layout pc k n (ArrayStore elem) small near range shaped fits size named = is_stands r pc _ (ArrayStore elem) (alone.array_store_is elem)
stands r layout pc k n (Stack op) small near range shaped fits size named = is_stands r pc _ (Stack op) (alone.stack_is op)
stands r layout pc k n (Bin width op) small near range shaped fits size named = is_stands r pc _ (Bin width op) (alone.bin_is width op)
stands r layout pc k n (Shift width op) small near range shaped fits size named = is_stands r pc _ (Shift width op) (alone.shift_is width op)
stands r layout pc k n (Neg width) small near range shaped fits size named = is_stands r pc _ (Neg width) (alone.neg_is width)
stands r layout pc k n (Iinc slot step) small near range shaped fits size named = let parts = both (nat_lt slot 65536) (fits_i16 step) range in increment r pc slot step (ltb-true slot 65536 parts.0) (small_16 step parts.1)
stands r layout pc k n (Convert conv) small near range shaped fits size named = is_stands r pc _ (Convert conv) (alone.convert_is conv)
stands r layout pc k n Lcmp small near range shaped fits size named = is_stands r pc 148 Lcmp alone.lcmp_is
stands r layout pc k n (If cond target) small near range shaped fits size named = jump_stands r layout pc (opcode.if_zero cond) target _ (if_is cond target) fits
stands r layout pc k n (IfInt cond target) small near range shaped fits size named = jump_stands r layout pc (opcode.if_int cond) target _ (if_int_is cond target) fits
stands r layout pc k n (IfRef same target) small near range shaped fits size named = jump_stands r layout pc (opcode.if_ref same) target _ (if_ref_is same target) fits
stands r layout pc k n (IfNull null target) small near range shaped fits size named = jump_stands r layout pc (opcode.if_null null) target _ (if_null_is null target) fits
stands r layout pc k n (Goto target) small near range shaped fits size named = goto_stands r layout pc target small near fits
stands r layout pc k n (TableSwitch low default targets) small near range shaped fits size named = table_stands r layout pc n low default targets small near (small_32 low range) shaped
stands r layout pc k n (LookupSwitch default rows) small near range shaped fits size named = lookup_stands r layout pc n default rows small near (keys_fit rows range) shaped (few_rows layout.wide_goto pc default rows size)
stands r layout pc k n (Return kind) small near range shaped fits size named = is_stands r pc _ (Return kind) (alone.return_is kind)
stands r layout pc k n (GetStatic field) small near range shaped fits size named = indexed r pc 178 k (GetStatic field) (lit< tt) refl named.0 (field, named.1, refl)
stands r layout pc k n (PutStatic field) small near range shaped fits size named = indexed r pc 179 k (PutStatic field) (lit< tt) refl named.0 (field, named.1, refl)
stands r layout pc k n (GetField field) small near range shaped fits size named = indexed r pc 180 k (GetField field) (lit< tt) refl named.0 (field, named.1, refl)
stands r layout pc k n (PutField field) small near range shaped fits size named = indexed r pc 181 k (PutField field) (lit< tt) refl named.0 (field, named.1, refl)
stands r layout pc k n (Invoke kind method) small near range shaped fits size named = call_stands r pc k kind method shaped.fits named
stands r layout pc k n (New class) small near range shaped fits size named = indexed r pc 187 k (New class) (lit< tt) refl named.0 (class, named.1, refl)
stands r layout pc k n (NewArray primitive) small near range shaped fits size named = element_stands r pc primitive
stands r layout pc k n (ANewArray ty) small near range shaped fits size named = indexed r pc 189 k (ANewArray ty) (lit< tt) refl named.0 (ty, named.1, refl)
stands r layout pc k n ArrayLength small near range shaped fits size named = is_stands r pc 190 ArrayLength alone.array_length_is
stands r layout pc k n Athrow small near range shaped fits size named = is_stands r pc 191 Athrow alone.athrow_is
stands r layout pc k n (CheckCast ty) small near range shaped fits size named = indexed r pc 192 k (CheckCast ty) (lit< tt) refl named.0 (ty, named.1, refl)
stands r layout pc k n (InstanceOf ty) small near range shaped fits size named = indexed r pc 193 k (InstanceOf ty) (lit< tt) refl named.0 (ty, named.1, refl)
stands r layout pc k n (MultiNewArray ty count) small near range shaped fits size named = dimensions r pc k ty count named.0 (ltb-true count 256 range) (positive count shaped.some) named.1

-- where it leads
pub links : (layout : CodeLayout) (pc : ℕ) (insn : Insn) → Found layout → ShapedInsn (length layout.starts) insn → link layout.starts pc (unlinked_of layout pc insn) ≡ Some insn
unfolding link
links layout pc (If cond target) found shaped = jump_links layout pc (opcode.if_zero cond) target _ found (if_is cond target).gives shaped
links layout pc (IfInt cond target) found shaped = jump_links layout pc (opcode.if_int cond) target _ found (if_int_is cond target).gives shaped
links layout pc (IfRef same target) found shaped = jump_links layout pc (opcode.if_ref same) target _ found (if_ref_is same target).gives shaped
links layout pc (IfNull null target) found shaped = jump_links layout pc (opcode.if_null null) target _ found (if_null_is null target).gives shaped
links layout pc (Goto target) found shaped = goto_links layout pc target found shaped
links layout pc (TableSwitch low default targets) found shaped = table_links layout pc low default targets found shaped.default_is shaped.targets_are
links layout pc (LookupSwitch default rows) found shaped = lookup_links layout pc default rows found shaped.default_is shaped.targets_are
links layout pc insn found shaped = refl
