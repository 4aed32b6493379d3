-- The form in which an instruction is written has a spelling.
use Rattle.std.proofs.Common.{◌≡◌, ℕ, Bool, true, false, List, [], ◌∷◌, length, map, inl, inr, refl, arith, lit≤}
use Rattle.std.specs.Prelude.{ℤ, nat_lt, MatchBool, if◌then◌else◌}
use Rattle.std.proofs.lemmas.Bool.{ltb-true}
use Rattle.std.proofs.lemmas.List.{length-map}
use Rattle.class_model.specs.declared.insn.Insn.{Insn}
use Rattle.class_model.specs.declared.insn.Insn.TheVariants.{Nop, PushNull, PushInt, PushLong, PushString, Load, Store, ArrayLoad, ArrayStore, Stack, Bin, Shift, Neg, Iinc, Convert, Lcmp, If, IfInt, IfRef, IfNull, Goto, TableSwitch, LookupSwitch, Return, GetStatic, PutStatic, GetField, PutField, Invoke, New, NewArray, ANewArray, ArrayLength, Athrow, CheckCast, InstanceOf, MultiNewArray}
use Rattle.class_model.specs.declared.insn.Kind.{Kind}
use Rattle.class_model.specs.declared.insn.Kind.TheVariants as kinds
use Rattle.class_model.specs.declared.insn.InvokeKind.{InvokeKind}
use Rattle.class_model.specs.declared.insn.InvokeKind.TheVariants as calls
use Rattle.class_model.specs.declared.types.MethodRef.{MethodRef}
use Rattle.class_model.specs.declared.types.Primitive.{Primitive}
use Rattle.class_model.specs.declared.types.Primitive.TheVariants as primitives
use Rattle.class_shape.specs.ShapedInsn.{AscendAbove, Ascend, key_of}
use Rattle.class_limits.specs.Sizes.{CodeLayout, is_small_int, is_small_long}
use Rattle.opcode_table.specs.declared.opcodes.OperandForm.TheVariants as form
use Rattle.opcode_table.specs.declared.raw_insn.RawInsn.{RawInsn}
use Rattle.opcode_table.specs.declared.raw_insn.RawInsn.TheVariants as raw
use Rattle.opcode_table.specs.Opcodes.{opcodes, form_of}
use Rattle.opcode_table.specs.Spelling.{Ascends, IsWellFormed}
use Rattle.opcode_table.specs.Writing.{fits_i8}
use Rattle.insn_code.proofs.Words.{few_words}
use Rattle.insn_spelling.specs.OpcodeOf as opcode
use Rattle.insn_spelling.specs.Raw.{fits_i16, distance, row_distance, raw_int, raw_long, raw_call, raw_of}
use Rattle.insn_spelling.specs.Conditions.{IsNear, Writable}
use Rattle.insn_spelling.proofs.Alone as alone
use Rattle.insn_spelling.proofs.Jumps.{if_is, if_int_is, if_ref_is, if_null_is}
use Rattle.insn_spelling.proofs.OneInsn.{some_of, positive, few_rows}

if_formed : (b : Bool) (x y : RawInsn) → (b ≡ true → IsWellFormed x) → IsWellFormed y → IsWellFormed (if b then x else y)
if_formed true x y f h = f refl
if_formed false x y f h = h

int_formed : (k : ℕ) (n : ℤ) → IsWellFormed (raw_int k n)
unfolding form_of opcodes
int_formed k n =
    if_formed (is_small_int n) _ _ (λ small. (alone.int_is n small).formed)
    (if_formed (fits_i8 n) _ _ (λ small. refl) (if_formed (fits_i16 n) _ _ (λ small. refl) (inr refl)))

long_formed : (k : ℕ) (n : ℤ) → IsWellFormed (raw_long k n)
unfolding form_of opcodes
long_formed k n = if_formed (is_small_long n) _ _ (λ small. (alone.long_is n small).formed) (inr refl)

load_formed : (kind : Kind) → form_of (opcode.load kind) ≡ form.Local
unfolding form_of opcodes
load_formed kinds.Int = refl
load_formed kinds.Long = refl
load_formed kinds.Ref = refl

store_formed : (kind : Kind) → form_of (opcode.store kind) ≡ form.Local
unfolding form_of opcodes
store_formed kinds.Int = refl
store_formed kinds.Long = refl
store_formed kinds.Ref = refl

goto_formed : (wide : Bool) (layout : CodeLayout) (pc target : ℕ) → MatchBool wide (Unit {0}) (IsNear layout pc target) → IsWellFormed (raw.Jump (opcode.goto wide) (distance layout pc target))
unfolding form_of opcodes
goto_formed true layout pc target near = inr refl
goto_formed false layout pc target near = inl (refl, near)

call_formed : (k : ℕ) (kind : InvokeKind) (method : MethodRef) → IsWellFormed (raw_call k kind method)
unfolding form_of opcodes
call_formed k calls.Virtual method = inr refl
call_formed k calls.Special method = inr refl
call_formed k calls.Static method = inr refl
call_formed k calls.Interface method = omega (arith, few_words method.desc)

element_formed : (primitive : Primitive) → IsWellFormed (raw.NewArray (opcode.element_code primitive))
element_formed primitives.Boolean = (lit≤ tt, lit≤ tt)
element_formed primitives.Char = (lit≤ tt, lit≤ tt)
element_formed primitives.Float = (lit≤ tt, lit≤ tt)
element_formed primitives.Double = (lit≤ tt, lit≤ tt)
element_formed primitives.Byte = (lit≤ tt, lit≤ tt)
element_formed primitives.Short = (lit≤ tt, lit≤ tt)
element_formed primitives.Int = (lit≤ tt, lit≤ tt)
element_formed primitives.Long = (lit≤ tt, lit≤ tt)

ascends_above : (layout : CodeLayout) (pc : ℕ) (row : ℤ × ℕ) (rows : List (ℤ × ℕ)) → AscendAbove row.0 (map key_of rows) → Ascends (map (row_distance layout pc) (row ∷ rows))
ascends_above layout pc row [] h = tt
ascends_above layout pc row (next ∷ rows) h = (h.0, ascends_above layout pc next rows h.1)

ascends_all : (layout : CodeLayout) (pc : ℕ) (rows : List (ℤ × ℕ)) → Ascend (map key_of rows) → Ascends (map (row_distance layout pc) rows)
ascends_all layout pc [] h = tt
ascends_all layout pc (row ∷ rows) h = ascends_above layout pc row rows h

pub well_formed : (layout : CodeLayout) (n pc k : ℕ) (insn : Insn) → Writable layout n pc insn → IsWellFormed (raw_of layout pc k insn)
unfolding raw_of form_of opcodes
well_formed layout n pc k Nop w = alone.nop_is.formed
well_formed layout n pc k PushNull w = alone.null_is.formed
well_formed layout n pc k (PushInt m) w = int_formed k m
well_formed layout n pc k (PushLong m) w = long_formed k m
well_formed layout n pc k (PushString units) w = inr refl
well_formed layout n pc k (Load kind slot) w = if_formed (nat_lt slot 4) _ _ (λ low. (alone.load_is kind slot (ltb-true slot 4 low)).formed) (load_formed kind)
well_formed layout n pc k (Store kind slot) w = if_formed (nat_lt slot 4) _ _ (λ low. (alone.store_is kind slot (ltb-true slot 4 low)).formed) (store_formed kind)
well_formed layout n pc k (ArrayLoad elem) w = (alone.array_load_is elem).formed
well_formed layout n pc k (ArrayStore elem) w = (alone.array_store_is elem).formed
well_formed layout n pc k (Stack op) w = (alone.stack_is op).formed
well_formed layout n pc k (Bin width op) w = (alone.bin_is width op).formed
well_formed layout n pc k (Shift width op) w = (alone.shift_is width op).formed
well_formed layout n pc k (Neg width) w = (alone.neg_is width).formed
well_formed layout n pc k (Iinc slot step) w = tt
well_formed layout n pc k (Convert conv) w = (alone.convert_is conv).formed
well_formed layout n pc k Lcmp w = alone.lcmp_is.formed
well_formed layout n pc k (If cond target) w = inl ((if_is cond target).formed, w.branch)
well_formed layout n pc k (IfInt cond target) w = inl ((if_int_is cond target).formed, w.branch)
well_formed layout n pc k (IfRef same target) w = inl ((if_ref_is same target).formed, w.branch)
well_formed layout n pc k (IfNull null target) w = inl ((if_null_is null target).formed, w.branch)
well_formed layout n pc k (Goto target) w = goto_formed layout.wide_goto layout pc target w.branch
well_formed layout n pc k (TableSwitch low default targets) w =
    let shaped = w.shaped in
    let count : length (map (distance layout pc) targets) ≡ length targets = length-map targets (distance layout pc) in
    (omega (arith, count, some_of targets shaped.some), rw count shaped.last_fits)
well_formed layout n pc k (LookupSwitch default rows) w =
    let shaped = w.shaped in
    let count : length (map (row_distance layout pc) rows) ≡ length rows = length-map rows (row_distance layout pc) in
    (ascends_all layout pc rows shaped.ascend, omega (arith, count, few_rows layout.wide_goto pc default rows w.size))
well_formed layout n pc k (Return kind) w = (alone.return_is kind).formed
well_formed layout n pc k (GetStatic field) w = inr refl
well_formed layout n pc k (PutStatic field) w = inr refl
well_formed layout n pc k (GetField field) w = inr refl
well_formed layout n pc k (PutField field) w = inr refl
well_formed layout n pc k (Invoke kind method) w = call_formed k kind method
well_formed layout n pc k (New class) w = inr refl
well_formed layout n pc k (NewArray primitive) w = element_formed primitive
well_formed layout n pc k (ANewArray ty) w = inr refl
well_formed layout n pc k ArrayLength w = alone.array_length_is.formed
well_formed layout n pc k Athrow w = alone.athrow_is.formed
well_formed layout n pc k (CheckCast ty) w = inr refl
well_formed layout n pc k (InstanceOf ty) w = inr refl
well_formed layout n pc k (MultiNewArray ty count) w = positive count w.shaped.some
