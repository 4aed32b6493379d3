-- What each instruction makes of the types that it finds, one line a shape (JVMS 4.10.1.9).
use Rattle.std.specs.Prelude.{ℕ, [], ◌∷◌, Result, Ok}
use Rattle.class_model.specs.declared.insn.Insn.{Insn}
use Rattle.class_model.specs.declared.insn.Insn.TheVariants.{Nop, PushNull, PushInt, PushLong, PushString, Load, Store, ArrayLoad, ArrayStore, Stack, Bin, Shift, Neg, Iinc, Convert, Lcmp, If, IfInt, IfRef, IfNull, Goto, TableSwitch, LookupSwitch, Return, GetStatic, PutStatic, GetField, PutField, Invoke, New, NewArray, ANewArray, ArrayLength, Athrow, CheckCast, InstanceOf, MultiNewArray}
use Rattle.class_model.specs.declared.class.VType.TheVariants as types
use Rattle.type_rows.specs.declared.state.TypeState.{TypeState}
use Rattle.type_rows.specs.declared.rule.VerifyRule.{VerifyRule}
use Rattle.type_rows.specs.Method.{Method}
use Rattle.type_rows.specs.Operands.{push, takes, turns}
use Rattle.type_rows.specs.Locals.{row_load, row_store, row_iinc}
use Rattle.type_rows.specs.Numbers.{number_type, converted_from, converted_to}
use Rattle.type_rows.specs.Blocks.{row_stack}
use Rattle.type_rows.specs.Jumps.{row_of_reference, row_of_references}
use Rattle.type_rows.specs.Fields.{row_get_static, row_put_static, row_get_field, row_put_field}
use Rattle.type_rows.specs.Calls.{row_invoke, row_new}
use Rattle.type_rows.specs.Arrays.{row_array_load, row_array_store, row_array_length, row_new_array, row_a_new_array, row_multi_new_array}
use Rattle.type_rows.specs.Objects.{row_push_string, row_throw, row_cast, row_instance_of}
use Rattle.type_rows.specs.Returns.{row_return}

-- the types behind the instruction of a number, or the first of the rules on operands, locals, room, objects that are not initialised and
-- results that fails
unfoldable pub row : Method → ℕ → Insn → TypeState → Result TypeState VerifyRule
row m at Nop s = Ok s
row m at PushNull s = push m types.Null s.locals s.stack
row m at (PushInt number) s = push m types.Int s.locals s.stack
row m at (PushLong number) s = push m types.Long s.locals s.stack
row m at (PushString text) s = row_push_string m s
row m at (Load kind slot) s = row_load m kind slot s
row m at (Store kind slot) s = row_store m kind slot s
row m at (ArrayLoad elem) s = row_array_load m elem s
row m at (ArrayStore elem) s = row_array_store m elem s
row m at (Stack op) s = row_stack m op s
row m at (Bin width op) s = turns m (number_type width ∷ number_type width ∷ []) (number_type width) s
row m at (Shift width op) s = turns m (types.Int ∷ number_type width ∷ []) (number_type width) s
row m at (Neg width) s = turns m (number_type width ∷ []) (number_type width) s
row m at (Iinc slot step) s = row_iinc m slot s
row m at (Convert conv) s = turns m (converted_from conv ∷ []) (converted_to conv) s
row m at Lcmp s = turns m (types.Long ∷ types.Long ∷ []) types.Int s
row m at (If cond target) s = takes m (types.Int ∷ []) s
row m at (IfInt cond target) s = takes m (types.Int ∷ types.Int ∷ []) s
row m at (IfRef same target) s = row_of_references s
row m at (IfNull null target) s = row_of_reference s
row m at (Goto target) s = Ok s
row m at (TableSwitch low default table) s = takes m (types.Int ∷ []) s
row m at (LookupSwitch default rows) s = takes m (types.Int ∷ []) s
row m at (Return kind) s = row_return m kind s
row m at (GetStatic field) s = row_get_static m field s
row m at (PutStatic field) s = row_put_static m field s
row m at (GetField field) s = row_get_field m field s
row m at (PutField field) s = row_put_field m field s
row m at (Invoke kind target) s = row_invoke m kind target s
row m at (New class) s = row_new m at s
row m at (NewArray primitive) s = row_new_array m primitive s
row m at (ANewArray ty) s = row_a_new_array m ty s
row m at ArrayLength s = row_array_length m s
row m at Athrow s = row_throw m s
row m at (CheckCast ty) s = row_cast m ty s
row m at (InstanceOf ty) s = row_instance_of m s
row m at (MultiNewArray ty dimensions) s = row_multi_new_array m ty dimensions s
