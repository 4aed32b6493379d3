-- Reading an instruction is exact for what its bytes are.
use Rattle.std.proofs.Common.{◌≡◌, ℕ, ◌<◌, Bool, true, false, cond, eqb, List, [], ◌∷◌, ◌++◌, Option, Some, None, Result, refl, ap, subst, ◌∙◌, arith}
use Rattle.std.specs.Prelude.{MatchBool, ◌%◌, nat_lt, ℤ}
use Rattle.std.specs.Int.{w8, w16, cast_signed}
use Rattle.std.proofs.lemmas.Bool.{ltb-true, lt-ltb}
use Rattle.class_input.specs.declared.bad_class.BadKind.TheVariants.{Code, Operand}
use Rattle.class_input.specs.Reading.{Fault, done, lifted, judging, number}
use Rattle.class_input.specs.Grammar.{IsU8, IsU16}
use Rattle.class_input.proofs.Laws.{IsDone, Then, Exact, Exact-same, done_exact, refused_exact, then_exact, mapped_exact, here_exact, u8_exact, u16_exact}
use Rattle.class_model.specs.Descriptor.{words_of}
use Rattle.class_model.specs.declared.insn.Insn.{Insn}
use Rattle.class_model.specs.declared.insn.Insn.TheVariants.{PushInt, PushLong, Iinc, GetStatic, PutStatic, GetField, PutField, Invoke, New, NewArray, ANewArray, CheckCast, InstanceOf, MultiNewArray}
use Rattle.class_model.specs.declared.insn.InvokeKind.{InvokeKind}
use Rattle.class_model.specs.declared.insn.InvokeKind.TheVariants.{Virtual, Special, Static, Interface}
use Rattle.class_model.specs.declared.types.Primitive.{Primitive}
use Rattle.class_model.specs.declared.types.JType.{JType}
use Rattle.class_model.specs.declared.types.MethodRef.{MethodRef}
use Rattle.const_pool.specs.Pool.{Pool}
use Rattle.class_names.specs.declared.member.MethodEntry.{MethodEntry}
use Rattle.class_names.specs.declared.member.MethodEntry.TheVariants.{OfClass, OfInterface, Either}
use Rattle.class_names.specs.Names.{NamesType, NamesMethod, NamesPushed}
use Rattle.class_names.specs.Pieces.{AtIndex}
use Rattle.class_names.specs.NameReading.{class_type_at, method_at, pushed_at}
use Rattle.class_names.specs.Steps.{at_index}
use Rattle.class_names.proofs.StepLaws.{front_alone, Judges, fine_judges, then_judges, at_index_exact}
use Rattle.class_names.proofs.NameLaws.{class_name_judges, class_type_judges, field_judges, method_judges, long_judges, pushed_judges}
use Rattle.opcode_table.specs.declared.opcodes.OperandForm.{OperandForm}
use Rattle.opcode_table.specs.declared.opcodes.OperandForm.TheVariants as form
use Rattle.opcode_table.specs.Opcodes.{form_of}
use Rattle.insn_code.specs.declared.unlinked.Unlinked.{Unlinked}
use Rattle.insn_code.specs.declared.unlinked.Unlinked.TheVariants.{Whole, Jump}
use Rattle.insn_code.specs.Shapes.{plain, local, element}
use Rattle.insn_code.specs.InsnBytes.{Two, IsI32, IsPoolInsn, IsInterfaceCall, IsMultiArray, AreWide, IsWide, AreOperands, IsUnlinked}
use Rattle.insn_code.specs.InsnReading.{demanded, two, signed, exactly, at_byte, made, called, pool_insn, pool_byte, pool_index, interface_call, multi_array, alone, array_of, array_type, wide_local, wide_increment, widened, wide, signed_byte, signed_short, narrow_local, increment, jump, wide_jump, operands, insn}
use Rattle.insn_code.proofs.StepLaws.{Judged, Holds, demand_exact, signed_exact, two_exact, at_byte_exact, exactly_exact}
use Rattle.insn_code.proofs.SwitchLaws.{then_joined, last_joined, table_exact, lookup_exact}

-- ---- entries of the pool

if_judges : {A : Type 0} (b : Bool) (R S : A → Type 0) (r s : Result A Fault) → Judges R r → Judges S s → Judges (λ a. MatchBool b (R a) (S a)) (cond b r s)
if_judges true R S r s p q = p
if_judges false R S r s p q = q

made_judges : {A : Type 0} (R : A → Type 0) (r : Result A Fault) (f : A → Insn) → Judges R r → Judges (λ i. (x : A) × R x × (f x ≡ i)) (judging r (made f))
made_judges R r f j = then_judges R (λ x i. f x ≡ i) r (made f) j (λ x. fine_judges (f x))

called_judges : (p : Pool) (kind : InvokeKind) (entry : MethodEntry) (place k : ℕ) → Judges (λ i. (m : MethodRef) × NamesMethod entry p k m × (Invoke kind m ≡ i)) (called p kind entry place k)
called_judges p kind entry place k = made_judges (NamesMethod entry p k) (method_at entry p place k) (Invoke kind) (method_judges entry p place k)

pool_insn_judges : (p : Pool) (opcode place k : ℕ) → Judges (IsPoolInsn p opcode k) (pool_insn p opcode place k)
unfolding pool_insn
pool_insn_judges p opcode place k =
    let field = field_judges p place k in
    let type = class_type_judges p place k in
    let r193 = made_judges _ _ InstanceOf type in
    let r192 = if_judges (eqb opcode 192) _ _ _ _ (made_judges _ _ CheckCast type) r193 in
    let r189 = if_judges (eqb opcode 189) _ _ _ _ (made_judges _ _ ANewArray type) r192 in
    let r187 = if_judges (eqb opcode 187) _ _ _ _ (made_judges _ _ New (class_name_judges p place k)) r189 in
    let r184 = if_judges (eqb opcode 184) _ _ _ _ (called_judges p Static Either place k) r187 in
    let r183 = if_judges (eqb opcode 183) _ _ _ _ (called_judges p Special Either place k) r184 in
    let r182 = if_judges (eqb opcode 182) _ _ _ _ (called_judges p Virtual OfClass place k) r183 in
    let r181 = if_judges (eqb opcode 181) _ _ _ _ (made_judges _ _ PutField field) r182 in
    let r180 = if_judges (eqb opcode 180) _ _ _ _ (made_judges _ _ GetField field) r181 in
    let r179 = if_judges (eqb opcode 179) _ _ _ _ (made_judges _ _ PutStatic field) r180 in
    let r178 = if_judges (eqb opcode 178) _ _ _ _ (made_judges _ _ GetStatic field) r179 in
    let r20 = if_judges (eqb opcode 20) _ _ _ _ (made_judges _ _ PushLong (long_judges p place k)) r178 in
    if_judges (eqb opcode 19) _ _ _ _ (pushed_judges p place k) r20

pool_index_exact : (p : Pool) (opcode : ℕ) → Exact (λ text x. (i : Insn) × AtIndex (IsPoolInsn p opcode) text i × (Whole i ≡ x)) (pool_index p opcode)
unfolding pool_index
pool_index_exact p opcode = mapped_exact (AtIndex (IsPoolInsn p opcode)) (at_index (pool_insn p opcode)) (λ i. Whole i) (at_index_exact (IsPoolInsn p opcode) (pool_insn p opcode) (pool_insn_judges p opcode))

pool_byte_exact : (p : Pool) → Exact (λ text x. (i : Insn) × ((k : ℕ) × IsU8 text k × NamesPushed p k i) × (Whole i ≡ x)) (pool_byte p)
unfolding pool_byte
pool_byte_exact p = mapped_exact (λ text i. (k : ℕ) × IsU8 text k × NamesPushed p k i) (at_byte (pushed_at p)) (λ i. Whole i) (at_byte_exact (NamesPushed p) (pushed_at p) (pushed_judges p))

-- ---- invokeinterface and multianewarray

abbrev WordsR : MethodRef → List ℕ → Unit {0} → Type 0
WordsR m text u = IsU8 text (words_of m.desc true)

abbrev CallEnd : MethodRef → Unit {0} → List ℕ → Unlinked → Type 0
CallEnd m _ text x = (u : Unit {0}) × IsU8 text 0 × (Whole (Invoke Interface m) ≡ x)

abbrev CallR : Pool → List ℕ → Unlinked → Type 0
CallR p = Then (AtIndex (NamesMethod OfInterface p)) (λ m. Then (WordsR m) (CallEnd m))

interface_exact : (p : Pool) → Exact (IsInterfaceCall p) (interface_call p)
unfolding interface_call
interface_exact p =
    Exact-same (CallR p) (IsInterfaceCall p) _
    (λ text x h. let a = h.5 in record {
      index_text = h.1;
      count_text = a.1;
      zero_text = a.2;
      spelled = then_joined _ _ _ _ h.3 (then_joined _ _ _ _ a.3 (last_joined a.2));
      method = h.0;
      named = h.4;
      count_is = a.4;
      zero_is = a.5.1;
      stands = a.5.2;
    })
    (λ text x h. (
      h.method,
      h.index_text,
      _,
      h.spelled,
      h.named,
      (tt, h.count_text, _, refl, h.count_is, (tt, subst (λ (z : List ℕ). IsU8 z 0) (last_joined h.zero_text) h.zero_is, h.stands)),
    ))
    (then_exact (AtIndex (NamesMethod OfInterface p)) _ (at_index (method_at OfInterface p)) _ (at_index_exact (NamesMethod OfInterface p) (method_at OfInterface p) (method_judges OfInterface p)) (λ m.
    then_exact (WordsR m) (CallEnd m) (exactly (words_of m.desc true)) _ (exactly_exact (words_of m.desc true)) (λ u.
    mapped_exact (λ text v. IsU8 text 0) (exactly 0) (λ _. Whole (Invoke Interface m)) (exactly_exact 0))))

abbrev MultiEnd : JType → ℕ → List ℕ → Unlinked → Type 0
MultiEnd ty n text x = (u : Unit {0}) × Judged (Holds (nat_lt 0 n)) text u × (Whole (MultiNewArray ty n) ≡ x)

abbrev MultiR : Pool → List ℕ → Unlinked → Type 0
MultiR p = Then (AtIndex (NamesType p)) (λ ty. Then IsU8 (MultiEnd ty))

multi_exact : (p : Pool) → Exact (IsMultiArray p) (multi_array p)
unfolding multi_array
multi_exact p =
    Exact-same (MultiR p) (IsMultiArray p) _
    (λ text x h. let a = h.5 in record {
      index_text = h.1;
      count_text = a.1;
      spelled = then_joined _ _ _ _ h.3 (then_joined _ _ _ _ a.3 a.5.1.0);
      ty = h.0;
      dimensions = a.0;
      named = h.4;
      count_is = a.4;
      some = ltb-true _ _ a.5.1.1;
      stands = a.5.2;
    })
    (λ text x h. (
      h.ty,
      h.index_text,
      _,
      h.spelled,
      h.named,
      (h.dimensions, h.count_text, [], refl, h.count_is, (tt, (refl, lt-ltb _ _ h.some), h.stands)),
    ))
    (then_exact (AtIndex (NamesType p)) _ (at_index (class_type_at p)) _ (at_index_exact (NamesType p) (class_type_at p) (class_type_judges p)) (λ ty.
    here_exact _ _ (λ at.
    then_exact IsU8 (MultiEnd ty) (number w8) _ u8_exact (λ n.
    mapped_exact (Judged (Holds (nat_lt 0 n))) (lifted (demanded at Operand (nat_lt 0 n))) (λ _. Whole (MultiNewArray ty n)) (demand_exact at Operand (nat_lt 0 n))))))

-- ---- opcodes that stand alone, and newarray

abbrev AloneR : Option Insn → List ℕ → Unlinked → Type 0
AloneR o text x = (i : Insn) × ((text ≡ []) × (o ≡ Some i)) × (Whole i ≡ x)

some_is : {A : Type 0} (x y : A) → (let k : Option A = Some x in k) ≡ Some y → x ≡ y
some_is x y e = cc

alone_exact : (at opcode : ℕ) (o : Option Insn) → Exact (AloneR o) (alone at opcode o)
alone_exact at opcode None = refused_exact (AloneR None) at (Code opcode) (λ text x h. absurd (let e = h.1.1 in cc))
alone_exact at opcode (Some i) =
    Exact-same (IsDone (Whole i)) (AloneR (Some i)) (done (Whole i))
    (λ text x h. (i, (h.0, refl), h.1))
    (λ text x h. (h.1.0, ap (λ (z : Insn). Whole z) (some_is i h.0 h.1.1) ∙ h.2))
    (done_exact (Whole i))

abbrev ArrayR : Option Primitive → List ℕ → Unlinked → Type 0
ArrayR o text x = (text ≡ []) × ((ty : Primitive) × (o ≡ Some ty) × (Whole (NewArray ty) ≡ x))

array_of_exact : (at : ℕ) (o : Option Primitive) → Exact (ArrayR o) (array_of at o)
array_of_exact at None = refused_exact (ArrayR None) at Operand (λ text x h. absurd (let e = h.1.1 in cc))
array_of_exact at (Some ty) =
    Exact-same (IsDone (Whole (NewArray ty))) (ArrayR (Some ty)) (done (Whole (NewArray ty)))
    (λ text x h. (h.0, (ty, refl, h.1)))
    (λ text x h. (h.0, ap (λ (z : Primitive). Whole (NewArray z)) (some_is ty h.1.0 h.1.1) ∙ h.1.2))
    (done_exact (Whole (NewArray ty)))

abbrev ElementR : List ℕ → Unlinked → Type 0
ElementR text x = (code : ℕ) × IsU8 text code × ((ty : Primitive) × (element code ≡ Some ty) × (Whole (NewArray ty) ≡ x))

array_type_exact : Exact ElementR array_type
unfolding array_type
array_type_exact =
    Exact-same (Then IsU8 (λ code. ArrayR (element code))) ElementR _
    (λ text x h. (h.0, subst (λ (z : List ℕ). IsU8 z h.0) (front_alone text h.1 h.2 h.3 h.5.0) h.4, h.5.1))
    (λ text x h. (h.0, text, [], last_joined text, h.1, (refl, h.2)))
    (here_exact _ _ (λ at. then_exact IsU8 (λ code. ArrayR (element code)) (number w8) (λ code. array_of at (element code)) u8_exact (λ code. array_of_exact at (element code))))

-- ---- numbers and locals

wide_local_exact : (opcode : ℕ) → Exact (AreWide opcode form.Local) (wide_local opcode)
unfolding wide_local
wide_local_exact opcode = mapped_exact IsU16 (number w16) (λ slot. Whole (local opcode slot)) u16_exact

wide_increment_exact : (opcode : ℕ) → Exact (AreWide opcode form.Increment) wide_increment
unfolding wide_increment
wide_increment_exact opcode = mapped_exact (Two IsU16 IsU16) (two (number w16) (number w16)) (λ pair. Whole (Iinc pair.0 (cast_signed w16 pair.1))) (two_exact IsU16 IsU16 (number w16) (number w16) u16_exact u16_exact)

widened_exact : (at opcode : ℕ) (f : OperandForm) → Exact (AreWide opcode f) (widened at opcode f)
widened_exact at opcode form.Local = wide_local_exact opcode
widened_exact at opcode form.Increment = wide_increment_exact opcode
widened_exact at opcode _ = refused_exact (λ text x. ⊥) at Operand (λ text x h. h)

-- a byte in front
opcode_first : (first others text : List ℕ) (k : ℕ) → text ≡ first ++ others → IsU8 first k → text ≡ k ∷ others
opcode_first first others text k spelled is =
    let low : k % 256 ≡ k = omega (arith, is.0) in
    spelled ∙ ap (λ (z : List ℕ). z ++ others) is.1 ∙ ap (λ (z : ℕ). z ∷ others) low

is_opcode : (k : ℕ) → k < 256 → IsU8 (k ∷ []) k
is_opcode k byte =
    let low : k ≡ k % 256 = omega arith in
    (byte, ap (λ (z : ℕ). z ∷ []) low)

wide_exact : Exact IsWide wide
unfolding wide
wide_exact =
    let S : ℕ → List ℕ → Unlinked → Type 0 = λ opcode. AreWide opcode (form_of opcode) in
    Exact-same (Then IsU8 S) IsWide _
    (λ text x h. record { opcode = h.0; operands = h.2; spelled = opcode_first h.1 h.2 text h.0 h.3 h.4; byte = h.4.0; operands_are = h.5 })
    (λ text x h. (h.opcode, h.opcode ∷ [], h.operands, h.spelled, is_opcode h.opcode h.byte, h.operands_are))
    (here_exact _ _ (λ at. then_exact IsU8 S (number w8) (λ opcode. widened at opcode (form_of opcode)) u8_exact (λ opcode. widened_exact at opcode (form_of opcode))))

signed_byte_exact : Exact (λ text x. (n : ℕ) × IsU8 text n × (Whole (PushInt (cast_signed w8 n)) ≡ x)) signed_byte
unfolding signed_byte
signed_byte_exact = mapped_exact IsU8 (number w8) (λ n. Whole (PushInt (cast_signed w8 n))) u8_exact

signed_short_exact : Exact (λ text x. (n : ℕ) × IsU16 text n × (Whole (PushInt (cast_signed w16 n)) ≡ x)) signed_short
unfolding signed_short
signed_short_exact = mapped_exact IsU16 (number w16) (λ n. Whole (PushInt (cast_signed w16 n))) u16_exact

local_exact : (opcode : ℕ) → Exact (λ text x. (slot : ℕ) × IsU8 text slot × (Whole (local opcode slot) ≡ x)) (narrow_local opcode)
unfolding narrow_local
local_exact opcode = mapped_exact IsU8 (number w8) (λ slot. Whole (local opcode slot)) u8_exact

increment_exact : Exact (λ text x. (pair : ℕ × ℕ) × Two IsU8 IsU8 text pair × (Whole (Iinc pair.0 (cast_signed w8 pair.1)) ≡ x)) increment
unfolding increment
increment_exact = mapped_exact (Two IsU8 IsU8) (two (number w8) (number w8)) (λ pair. Whole (Iinc pair.0 (cast_signed w8 pair.1))) (two_exact IsU8 IsU8 (number w8) (number w8) u8_exact u8_exact)

jump_exact : (opcode : ℕ) → Exact (λ text x. (n : ℕ) × IsU16 text n × (Jump opcode (cast_signed w16 n) ≡ x)) (jump opcode)
unfolding jump
jump_exact opcode = mapped_exact IsU16 (number w16) (λ n. Jump opcode (cast_signed w16 n)) u16_exact

wide_jump_exact : (opcode : ℕ) → Exact (λ text x. (distance : ℤ) × IsI32 text distance × (Jump opcode distance ≡ x)) (wide_jump opcode)
unfolding wide_jump
wide_jump_exact opcode = mapped_exact IsI32 signed (λ distance. Jump opcode distance) signed_exact

-- ---- an instruction

operands_exact : (p : Pool) (at pc opcode : ℕ) (f : OperandForm) → Exact (AreOperands p pc opcode f) (operands p at pc opcode f)
operands_exact p at pc opcode form.Unknown = refused_exact (λ text x. ⊥) at (Code opcode) (λ text x h. h)
operands_exact p at pc opcode form.OutOfScope = refused_exact (λ text x. ⊥) at (Code opcode) (λ text x h. h)
operands_exact p at pc opcode form.Empty = alone_exact at opcode (plain opcode)
operands_exact p at pc opcode form.SignedByte = signed_byte_exact
operands_exact p at pc opcode form.SignedShort = signed_short_exact
operands_exact p at pc opcode form.PoolByte = pool_byte_exact p
operands_exact p at pc opcode form.Pool = pool_index_exact p opcode
operands_exact p at pc opcode form.Local = local_exact opcode
operands_exact p at pc opcode form.Increment = increment_exact
operands_exact p at pc opcode form.Jump = jump_exact opcode
operands_exact p at pc opcode form.WideJump = wide_jump_exact opcode
operands_exact p at pc opcode form.Table = table_exact pc
operands_exact p at pc opcode form.Lookup = lookup_exact pc
operands_exact p at pc opcode form.Interface = interface_exact p
operands_exact p at pc opcode form.ArrayType = array_type_exact
operands_exact p at pc opcode form.Dimensions = multi_exact p
operands_exact p at pc opcode form.Wide = wide_exact

pub insn_exact : (p : Pool) (pc : ℕ) → Exact (IsUnlinked p pc) (insn p pc)
unfolding insn
insn_exact p pc =
    let S : ℕ → List ℕ → Unlinked → Type 0 = λ opcode. AreOperands p pc opcode (form_of opcode) in
    Exact-same (Then IsU8 S) (IsUnlinked p pc) _
    (λ text x h. record { opcode = h.0; operands = h.2; spelled = opcode_first h.1 h.2 text h.0 h.3 h.4; byte = h.4.0; operands_are = h.5 })
    (λ text x h. (h.opcode, h.opcode ∷ [], h.operands, h.spelled, is_opcode h.opcode h.byte, h.operands_are))
    (here_exact _ _ (λ at. then_exact IsU8 S (number w8) (λ opcode. operands p at pc opcode (form_of opcode)) u8_exact (λ opcode. operands_exact p at pc opcode (form_of opcode))))
