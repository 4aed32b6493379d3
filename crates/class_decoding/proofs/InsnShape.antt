-- Instructions that were read have their shape.
use Rattle.std.proofs.Common.{◌≡◌, ◌≢◌, ℕ, ◌+◌, ◌<◌, ◌^◌, Bool, true, false, cond, List, [], ◌∷◌, length, map, All, Option, Some, None, refl, sym, ap, subst, ◌∙◌, arith}
use Rattle.std.specs.Prelude.{MatchBool, option_and_then, ◌==◌, nat_le, ℤ, pos, negsuc, ◌+ℤ◌, ◌<ℤ◌, ◌≤ℤ◌, FitsSigned}
use Rattle.std.specs.Int.{w32, cast_signed}
use Rattle.std.specs.Option.{option_map}
use Rattle.std.proofs.Math.Facts.{Fits-of_lt, sfits_to_z}
use Rattle.std.proofs.lemmas.Int.{ints}
use Rattle.std.proofs.lemmas.List.{length-map}
use Rattle.std.proofs.lemmas.List.Elements.{All-nil, All-cons, All-head, All-tail}
use Rattle.class_model.specs.declared.types.FieldRef.{FieldRef}
use Rattle.class_model.specs.declared.types.MethodRef.{MethodRef}
use Rattle.class_model.specs.declared.insn.Insn.{Insn}
use Rattle.class_model.specs.declared.insn.Insn.TheVariants.{TableSwitch, LookupSwitch, Invoke, MultiNewArray}
use Rattle.class_model.specs.declared.insn.InvokeKind.TheVariants.{Virtual, Special, Static, Interface}
use Rattle.class_model.specs.Descriptor.{IsFieldType}
use Rattle.const_pool.specs.declared.entry.Entry.{Entry}
use Rattle.const_pool.specs.declared.entry.Entry.TheVariants as entries
use Rattle.const_pool.specs.Pool.{Pool, entry_at}
use Rattle.class_names.specs.declared.member.MethodEntry.TheVariants.{OfClass, OfInterface, Either}
use Rattle.class_names.specs.Names.{NamesField, as_method, NamesMethod, IsPushed}
use Rattle.opcode_table.specs.declared.opcodes.OperandForm.{OperandForm}
use Rattle.opcode_table.specs.declared.opcodes.OperandForm.TheVariants as form
use Rattle.opcode_table.specs.Opcodes.{form_of}
use Rattle.insn_code.specs.declared.unlinked.Unlinked.{Unlinked}
use Rattle.insn_code.specs.declared.unlinked.Unlinked.TheVariants.{Whole, Jump, Table, Lookup}
use Rattle.insn_code.specs.Offsets.{number_at}
use Rattle.insn_code.specs.Shapes.{within, constant_or_load, store_or_stack, binary, unary_or_shift, control, plain, local, branch}
use Rattle.insn_code.specs.InsnBytes as bytes
use Rattle.insn_code.specs.InsnBytes.{IsPoolInsn, AreWide, AreOperands, IsUnlinked}
use Rattle.insn_code.specs.Linking.{lead, row_lead, all_of, link, Placed, link_placed, offset_of, ArePlaced, AreInsns}
use Rattle.class_shape.specs.ShapedInsn.{IsTarget, AscendAbove, Ascend, key_of, IsCall, ShapedInsn}
use Rattle.class_decoding.proofs.Counts.{first_of, as_many}
use Rattle.class_decoding.proofs.TypeShape.{type_shaped}
use Rattle.class_decoding.proofs.StartOrder.{found}

-- ---- instructions that lead nowhere else have their shape among any number of others

abbrev Anywhere : Insn → Type 0
Anywhere insn = (n : ℕ) → ShapedInsn n insn

-- the same of a row of a table
record IsPlain (o : Option Insn) : Type 0 where
  each : (insn : Insn) → o ≡ Some insn → Anywhere insn

some_plain : (insn : Insn) → Anywhere insn → IsPlain (Some insn)
some_plain insn h = record { each = λ other is. let same : insn ≡ other = cc in subst (λ (z : Insn). Anywhere z) same h }

none_plain : IsPlain None
none_plain = record { each = λ other is. absurd cc }

if_plain : (b : Bool) (x y : Option Insn) → IsPlain x → IsPlain y → IsPlain (cond b x y)
if_plain true x y p q = p
if_plain false x y p q = q

constant_or_load_plain : (opcode : ℕ) → IsPlain (constant_or_load opcode)
unfolding constant_or_load
constant_or_load_plain opcode =
    if_plain (opcode == 0) _ _ (some_plain _ (λ n. tt)) (
    if_plain (opcode == 1) _ _ (some_plain _ (λ n. tt)) (
    if_plain (within 2 8 opcode) _ _ (some_plain _ (λ n. tt)) (
    if_plain (within 9 10 opcode) _ _ (some_plain _ (λ n. tt)) (
    if_plain (within 26 29 opcode) _ _ (some_plain _ (λ n. tt)) (
    if_plain (within 30 33 opcode) _ _ (some_plain _ (λ n. tt)) (
    if_plain (within 42 45 opcode) _ _ (some_plain _ (λ n. tt)) (
    if_plain (opcode == 46) _ _ (some_plain _ (λ n. tt)) (
    if_plain (opcode == 47) _ _ (some_plain _ (λ n. tt)) (
    if_plain (opcode == 50) _ _ (some_plain _ (λ n. tt)) (
    if_plain (opcode == 51) _ _ (some_plain _ (λ n. tt)) (
    if_plain (opcode == 52) _ _ (some_plain _ (λ n. tt)) (
    if_plain (opcode == 53) _ _ (some_plain _ (λ n. tt)) (
    none_plain)))))))))))))

store_or_stack_plain : (opcode : ℕ) → IsPlain (store_or_stack opcode)
unfolding store_or_stack
store_or_stack_plain opcode =
    if_plain (within 59 62 opcode) _ _ (some_plain _ (λ n. tt)) (
    if_plain (within 63 66 opcode) _ _ (some_plain _ (λ n. tt)) (
    if_plain (within 75 78 opcode) _ _ (some_plain _ (λ n. tt)) (
    if_plain (opcode == 79) _ _ (some_plain _ (λ n. tt)) (
    if_plain (opcode == 80) _ _ (some_plain _ (λ n. tt)) (
    if_plain (opcode == 83) _ _ (some_plain _ (λ n. tt)) (
    if_plain (opcode == 84) _ _ (some_plain _ (λ n. tt)) (
    if_plain (opcode == 85) _ _ (some_plain _ (λ n. tt)) (
    if_plain (opcode == 86) _ _ (some_plain _ (λ n. tt)) (
    if_plain (opcode == 87) _ _ (some_plain _ (λ n. tt)) (
    if_plain (opcode == 88) _ _ (some_plain _ (λ n. tt)) (
    if_plain (opcode == 89) _ _ (some_plain _ (λ n. tt)) (
    if_plain (opcode == 90) _ _ (some_plain _ (λ n. tt)) (
    if_plain (opcode == 91) _ _ (some_plain _ (λ n. tt)) (
    if_plain (opcode == 92) _ _ (some_plain _ (λ n. tt)) (
    if_plain (opcode == 93) _ _ (some_plain _ (λ n. tt)) (
    if_plain (opcode == 94) _ _ (some_plain _ (λ n. tt)) (
    if_plain (opcode == 95) _ _ (some_plain _ (λ n. tt)) (
    none_plain))))))))))))))))))

binary_plain : (opcode : ℕ) → IsPlain (binary opcode)
unfolding binary
binary_plain opcode =
    if_plain (opcode == 96) _ _ (some_plain _ (λ n. tt)) (
    if_plain (opcode == 97) _ _ (some_plain _ (λ n. tt)) (
    if_plain (opcode == 100) _ _ (some_plain _ (λ n. tt)) (
    if_plain (opcode == 101) _ _ (some_plain _ (λ n. tt)) (
    if_plain (opcode == 104) _ _ (some_plain _ (λ n. tt)) (
    if_plain (opcode == 105) _ _ (some_plain _ (λ n. tt)) (
    if_plain (opcode == 108) _ _ (some_plain _ (λ n. tt)) (
    if_plain (opcode == 109) _ _ (some_plain _ (λ n. tt)) (
    if_plain (opcode == 112) _ _ (some_plain _ (λ n. tt)) (
    if_plain (opcode == 113) _ _ (some_plain _ (λ n. tt)) (
    if_plain (opcode == 126) _ _ (some_plain _ (λ n. tt)) (
    if_plain (opcode == 127) _ _ (some_plain _ (λ n. tt)) (
    if_plain (opcode == 128) _ _ (some_plain _ (λ n. tt)) (
    if_plain (opcode == 129) _ _ (some_plain _ (λ n. tt)) (
    if_plain (opcode == 130) _ _ (some_plain _ (λ n. tt)) (
    if_plain (opcode == 131) _ _ (some_plain _ (λ n. tt)) (
    none_plain))))))))))))))))

unary_or_shift_plain : (opcode : ℕ) → IsPlain (unary_or_shift opcode)
unfolding unary_or_shift
unary_or_shift_plain opcode =
    if_plain (opcode == 116) _ _ (some_plain _ (λ n. tt)) (
    if_plain (opcode == 117) _ _ (some_plain _ (λ n. tt)) (
    if_plain (opcode == 120) _ _ (some_plain _ (λ n. tt)) (
    if_plain (opcode == 121) _ _ (some_plain _ (λ n. tt)) (
    if_plain (opcode == 122) _ _ (some_plain _ (λ n. tt)) (
    if_plain (opcode == 123) _ _ (some_plain _ (λ n. tt)) (
    if_plain (opcode == 124) _ _ (some_plain _ (λ n. tt)) (
    if_plain (opcode == 125) _ _ (some_plain _ (λ n. tt)) (
    if_plain (opcode == 133) _ _ (some_plain _ (λ n. tt)) (
    if_plain (opcode == 136) _ _ (some_plain _ (λ n. tt)) (
    if_plain (opcode == 145) _ _ (some_plain _ (λ n. tt)) (
    if_plain (opcode == 146) _ _ (some_plain _ (λ n. tt)) (
    if_plain (opcode == 147) _ _ (some_plain _ (λ n. tt)) (
    if_plain (opcode == 148) _ _ (some_plain _ (λ n. tt)) (
    none_plain))))))))))))))

control_plain : (opcode : ℕ) → IsPlain (control opcode)
unfolding control
control_plain opcode =
    if_plain (opcode == 172) _ _ (some_plain _ (λ n. tt)) (
    if_plain (opcode == 173) _ _ (some_plain _ (λ n. tt)) (
    if_plain (opcode == 176) _ _ (some_plain _ (λ n. tt)) (
    if_plain (opcode == 177) _ _ (some_plain _ (λ n. tt)) (
    if_plain (opcode == 190) _ _ (some_plain _ (λ n. tt)) (
    if_plain (opcode == 191) _ _ (some_plain _ (λ n. tt)) (
    none_plain))))))

plain_shaped : (opcode : ℕ) → IsPlain (plain opcode)
unfolding plain
plain_shaped opcode =
    if_plain (nat_le opcode 53) _ _ (constant_or_load_plain opcode) (
    if_plain (nat_le opcode 95) _ _ (store_or_stack_plain opcode) (
    if_plain (nat_le opcode 115) _ _ (binary_plain opcode) (
    if_plain (nat_le opcode 125) _ _ (unary_or_shift_plain opcode) (
    if_plain (nat_le opcode 131) _ _ (binary_plain opcode) (
    if_plain (nat_le opcode 148) _ _ (unary_or_shift_plain opcode) (
    control_plain opcode))))))

if_insn : (P : Insn → Type 0) (b : Bool) (x y : Insn) → P x → P y → P (cond b x y)
if_insn P true x y p q = p
if_insn P false x y p q = q

local_shaped : (opcode slot : ℕ) → Anywhere (local opcode slot)
unfolding local
local_shaped opcode slot n =
    if_insn (ShapedInsn n) (opcode == 21) _ _ tt (
    if_insn (ShapedInsn n) (opcode == 22) _ _ tt (
    if_insn (ShapedInsn n) (opcode == 25) _ _ tt (
    if_insn (ShapedInsn n) (opcode == 54) _ _ tt (
    if_insn (ShapedInsn n) (opcode == 55) _ _ tt (
    tt)))))

-- ---- what the constant pool gives

pushed_shaped : (p : Pool) (e : Entry) (insn : Insn) → IsPushed p e insn → Anywhere insn
pushed_shaped p (entries.Integer k) insn h = subst (λ (z : Insn). Anywhere z) (sym h) (λ n. tt)
pushed_shaped p (entries.Text k) insn h = subst (λ (z : Insn). Anywhere z) (sym h.2) (λ n. tt)
pushed_shaped p e insn h = absurd h

field_typed : (p : Pool) (k : ℕ) (field : FieldRef) → NamesField p k field → IsFieldType field.ty
field_typed p k field h = h.typed.2.in_grammar

of_class : (o : Option Entry) (c d : ℕ) (b : Bool) → option_and_then (as_method OfClass) o ≡ Some (c, d, b) → b ≡ false
of_class None c d b h = absurd cc
of_class (Some (entries.Method k m)) c d b h = let same : (let t : ℕ × ℕ × Bool = (k, m, false) in t) ≡ (c, d, b) = cc in sym (ap (λ (z : ℕ × ℕ × Bool). z.2) same)
of_class (Some e) c d b h = absurd cc

of_interface : (o : Option Entry) (c d : ℕ) (b : Bool) → option_and_then (as_method OfInterface) o ≡ Some (c, d, b) → b ≡ true
of_interface None c d b h = absurd cc
of_interface (Some (entries.InterfaceMethod k m)) c d b h = let same : (let t : ℕ × ℕ × Bool = (k, m, true) in t) ≡ (c, d, b) = cc in sym (ap (λ (z : ℕ × ℕ × Bool). z.2) same)
of_interface (Some e) c d b h = absurd cc

virtual_shaped : (p : Pool) (k : ℕ) (method : MethodRef) → NamesMethod OfClass p k method → IsCall Virtual method
virtual_shaped p k method h = record { class = type_shaped p h.class_index method.class h.class_typed; desc = h.typed.2.in_grammar; fits = of_class (entry_at p k) h.class_index h.pair_index method.in_interface h.entry }

special_shaped : (p : Pool) (k : ℕ) (method : MethodRef) → NamesMethod Either p k method → IsCall Special method
special_shaped p k method h = record { class = type_shaped p h.class_index method.class h.class_typed; desc = h.typed.2.in_grammar; fits = tt }

static_shaped : (p : Pool) (k : ℕ) (method : MethodRef) → NamesMethod Either p k method → IsCall Static method
static_shaped p k method h = record { class = type_shaped p h.class_index method.class h.class_typed; desc = h.typed.2.in_grammar; fits = tt }

-- one of two, by a test
either : {P Q R : Type 0} (b : Bool) → MatchBool b P Q → (P → R) → (Q → R) → R
either true h f g = f h
either false h f g = g h

abbrev From : {A : Type 0} → (A → Insn) → (A → Type 0) → Insn → Type 0
From {A} make Names insn = (a : A) × Names a × (make a ≡ insn)

made : {A : Type 0} (make : A → Insn) (Names : A → Type 0) (insn : Insn) → ((a : A) → Names a → Anywhere (make a)) → From make Names insn → Anywhere insn
made make Names insn f h = subst (λ (z : Insn). Anywhere z) h.2 (f h.0 h.1)

pool_shaped : (p : Pool) (opcode k : ℕ) (insn : Insn) → IsPoolInsn p opcode k insn → Anywhere insn
pool_shaped p opcode k insn h =
    either (opcode == 19) h (λ a. pushed_shaped p a.0 insn a.2) (λ h.
    either (opcode == 20) h (λ a. made _ _ insn (λ x is n. tt) a) (λ h.
    either (opcode == 178) h (λ a. made _ _ insn (λ x is n. field_typed p k x is) a) (λ h.
    either (opcode == 179) h (λ a. made _ _ insn (λ x is n. field_typed p k x is) a) (λ h.
    either (opcode == 180) h (λ a. made _ _ insn (λ x is n. field_typed p k x is) a) (λ h.
    either (opcode == 181) h (λ a. made _ _ insn (λ x is n. field_typed p k x is) a) (λ h.
    either (opcode == 182) h (λ a. made _ _ insn (λ x is n. virtual_shaped p k x is) a) (λ h.
    either (opcode == 183) h (λ a. made _ _ insn (λ x is n. special_shaped p k x is) a) (λ h.
    either (opcode == 184) h (λ a. made _ _ insn (λ x is n. static_shaped p k x is) a) (λ h.
    either (opcode == 187) h (λ a. made _ _ insn (λ x is n. tt) a) (λ h.
    either (opcode == 189) h (λ a. made _ _ insn (λ x is n. type_shaped p k x is) a) (λ h.
    either (opcode == 192) h (λ a. made _ _ insn (λ x is n. type_shaped p k x is) a) (λ h.
    made _ _ insn (λ x is n. type_shaped p k x is) h))))))))))))

-- ---- before branches are linked

abbrev key : ℤ × ℤ → ℤ
key row = row.0

abbrev ShapedUnlinked : Unlinked → Type 0
ShapedUnlinked (Whole insn) = Anywhere insn
ShapedUnlinked (Jump opcode distance) = Unit {0}
ShapedUnlinked (Table low default distances) = (distances ≢ []) × ((low +ℤ pos (length distances)) ≤ℤ pos (2 ^ 31))
ShapedUnlinked (Lookup default rows) = Ascend (map key rows)

whole : (insn : Insn) (x : Unlinked) → Anywhere insn → Whole insn ≡ x → ShapedUnlinked x
whole insn x h is = subst (λ (z : Unlinked). ShapedUnlinked z) is h

jump : (opcode : ℕ) (distance : ℤ) (x : Unlinked) → Jump opcode distance ≡ x → ShapedUnlinked x
jump opcode distance x is = subst (λ (z : Unlinked). ShapedUnlinked z) is tt

below_32 : (n : ℕ) (z : ℤ) → n < 2 ^ 32 → cast_signed w32 n ≡ z → z <ℤ pos (2 ^ 31)
below_32 n z h is = let fits : FitsSigned w32 (cast_signed w32 n) = sfits_to_z (Fits-of_lt {w = w32} h) in subst (λ (k : ℤ). k <ℤ pos (2 ^ 31)) is (omega (arith, ints, fits))

some_distance : (low high : ℤ) (xs : List ℤ) → low ≤ℤ high → (low +ℤ pos (length xs)) ≡ (high +ℤ pos 1) → xs ≢ []
some_distance low high [] le counted none = absurd (omega (arith, ints, counted))
some_distance low high (x ∷ xs) le counted none = absurd cc

table_shaped : (pc : ℕ) (text : List ℕ) (x : Unlinked) → bytes.IsTable pc text x → ShapedUnlinked x
table_shaped pc text x h =
    let below = below_32 h.high_is.0 h.high h.high_is.1.0 h.high_is.2 in
    let counted = h.counted in
    let last : (h.low +ℤ pos (length h.distances)) ≤ℤ pos (2 ^ 31) = omega (arith, ints, below, counted) in
    subst (λ (z : Unlinked). ShapedUnlinked z) h.stands (some_distance h.low h.high h.distances h.ordered h.counted, last)

rows_ascend : (bound : ℤ) (rows : List (ℤ × ℤ)) → bytes.Ascend (Some bound) rows → AscendAbove bound (map key rows)
rows_ascend bound [] h = tt
rows_ascend bound (row ∷ rows) h = (h.0, rows_ascend row.0 rows h.1)

all_ascend : (rows : List (ℤ × ℤ)) → bytes.Ascend None rows → Ascend (map key rows)
all_ascend [] h = tt
all_ascend (row ∷ rows) h = rows_ascend row.0 rows h.1

lookup_shaped : (pc : ℕ) (text : List ℕ) (x : Unlinked) → bytes.IsLookup pc text x → ShapedUnlinked x
lookup_shaped pc text x h = subst (λ (z : Unlinked). ShapedUnlinked z) h.stands (all_ascend h.rows h.ascend)

interface_shaped : (p : Pool) (text : List ℕ) (x : Unlinked) → bytes.IsInterfaceCall p text x → ShapedUnlinked x
interface_shaped p text x h =
    let m = h.named.2 in
    let few = h.count_is.0 in
    let call : IsCall Interface h.method = record { class = type_shaped p m.class_index h.method.class m.class_typed; desc = m.typed.2.in_grammar; fits = (of_interface (entry_at p h.named.0) m.class_index m.pair_index h.method.in_interface m.entry, omega (arith, few)) } in
    whole (Invoke Interface h.method) x (λ n. call) h.stands

arrays_shaped : (p : Pool) (text : List ℕ) (x : Unlinked) → bytes.IsMultiArray p text x → ShapedUnlinked x
arrays_shaped p text x h = let some = h.some in whole (MultiNewArray h.ty h.dimensions) x (λ n. record { class = type_shaped p h.named.0 h.ty h.named.2; some = λ none. omega (arith, some, none) }) h.stands

wide_shaped : (opcode : ℕ) (f : OperandForm) (text : List ℕ) (x : Unlinked) → AreWide opcode f text x → ShapedUnlinked x
wide_shaped opcode form.Local text x h = whole (local opcode h.0) x (local_shaped opcode h.0) h.2
wide_shaped opcode form.Increment text x h = whole _ x (λ n. tt) h.2
wide_shaped opcode f text x h = absurd h

operands_shaped : (p : Pool) (pc opcode : ℕ) (f : OperandForm) (text : List ℕ) (x : Unlinked) → AreOperands p pc opcode f text x → ShapedUnlinked x
operands_shaped p pc opcode form.Unknown text x h = absurd h
operands_shaped p pc opcode form.OutOfScope text x h = absurd h
operands_shaped p pc opcode form.Empty text x h = whole h.0 x ((plain_shaped opcode).each h.0 h.1.1) h.2
operands_shaped p pc opcode form.SignedByte text x h = whole _ x (λ n. tt) h.2
operands_shaped p pc opcode form.SignedShort text x h = whole _ x (λ n. tt) h.2
operands_shaped p pc opcode form.PoolByte text x h = let pushed = h.1.2 in whole h.0 x (pushed_shaped p pushed.0 h.0 pushed.2) h.2
operands_shaped p pc opcode form.Pool text x h = whole h.0 x (pool_shaped p opcode h.1.0 h.0 h.1.2) h.2
operands_shaped p pc opcode form.Local text x h = whole (local opcode h.0) x (local_shaped opcode h.0) h.2
operands_shaped p pc opcode form.Increment text x h = whole _ x (λ n. tt) h.2
operands_shaped p pc opcode form.Jump text x h = jump opcode _ x h.2
operands_shaped p pc opcode form.WideJump text x h = jump opcode h.0 x h.2
operands_shaped p pc opcode form.Table text x h = table_shaped pc text x h
operands_shaped p pc opcode form.Lookup text x h = lookup_shaped pc text x h
operands_shaped p pc opcode form.Interface text x h = interface_shaped p text x h
operands_shaped p pc opcode form.ArrayType text x h = let named = h.2 in whole _ x (λ n. tt) named.2
operands_shaped p pc opcode form.Dimensions text x h = arrays_shaped p text x h
operands_shaped p pc opcode form.Wide text x h = wide_shaped h.opcode (form_of h.opcode) h.operands x h.operands_are

unlinked_shaped : (p : Pool) (pc : ℕ) (text : List ℕ) (x : Unlinked) → IsUnlinked p pc text x → ShapedUnlinked x
unlinked_shaped p pc text x h = operands_shaped p pc h.opcode (form_of h.opcode) h.operands x h.operands_are

-- ---- linked

-- each thing that each of a list gives
all_given : {A B : Type 0} (P : A → Type 0) (Q : B → Type 0) (f : A → Option B) → ((x : A) (y : B) → P x → f x ≡ Some y → Q y) → (xs : List A) (ys : List B) → All P xs → all_of f xs ≡ Some ys → All Q ys
unfolding all_of
all_given {A} {B} P Q f to [] ys h e = let none : (let empty : List B = [] in empty) ≡ ys = cc in subst (λ (z : List B). All Q z) none (All-nil Q)
all_given {A} {B} P Q f to (x ∷ xs) ys h e =
    let c = first_of (f x) (all_of f xs) ys e in
    subst (λ (z : List B). All Q z) c.4 (All-cons Q c.0 c.1 (to x c.0 (All-head P x xs h) c.2) (all_given P Q f to xs c.1 (All-tail P x xs h) c.3))

-- what they have in common with what they come from
same_keys : {A B K : Type 0} (a : A → K) (b : B → K) (f : A → Option B) → ((x : A) (y : B) → f x ≡ Some y → a x ≡ b y) → (xs : List A) (ys : List B) → all_of f xs ≡ Some ys → map a xs ≡ map b ys
unfolding all_of
same_keys {A} {B} {K} a b f to [] ys e = let none : (let empty : List B = [] in empty) ≡ ys = cc in ap (map b) none
same_keys {A} {B} {K} a b f to (x ∷ xs) ys e =
    let c = first_of (f x) (all_of f xs) ys e in
    ap (λ (z : K). z ∷ map a xs) (to x c.0 c.2) ∙ ap (λ (z : List K). b c.0 ∷ z) (same_keys a b f to xs c.1 c.3) ∙ ap (map b) c.4

number_within : (starts : List ℕ) (z : ℤ) (target : ℕ) → number_at starts z ≡ Some target → IsTarget (length starts) target
number_within starts (pos offset) target h = (found starts offset target h).within
number_within starts (negsuc k) target h = absurd cc

lead_within : (starts : List ℕ) (pc : ℕ) (distance : ℤ) (target : ℕ) → lead starts pc distance ≡ Some target → IsTarget (length starts) target
lead_within starts pc distance target h = number_within starts (pos pc +ℤ distance) target h

-- a row by a target
row_of : (row : ℤ × ℤ) (o : Option ℕ) (y : ℤ × ℕ) → option_map (λ target. (row.0, target)) o ≡ Some y → (target : ℕ) × (o ≡ Some target) × ((let r : ℤ × ℕ = (row.0, target) in r) ≡ y)
row_of row None y h = absurd cc
row_of row (Some target) y h = (target, refl, cc)

abbrev RowTarget : ℕ → ℤ × ℕ → Type 0
RowTarget n row = IsTarget n row.1

row_within : (starts : List ℕ) (pc : ℕ) (row : ℤ × ℤ) (y : ℤ × ℕ) → row_lead starts pc row ≡ Some y → RowTarget (length starts) y
row_within starts pc row y h = let r = row_of row (lead starts pc row.1) y h in subst (λ (z : ℤ × ℕ). RowTarget (length starts) z) r.2 (lead_within starts pc row.1 r.0 r.1)

row_key : (starts : List ℕ) (pc : ℕ) (row : ℤ × ℤ) (y : ℤ × ℕ) → row_lead starts pc row ≡ Some y → row.0 ≡ y.0
row_key starts pc row y h = let r = row_of row (lead starts pc row.1) y h in ap (λ (z : ℤ × ℕ). z.0) r.2

branch_shaped : (n opcode target : ℕ) → IsTarget n target → ShapedInsn n (branch opcode target)
unfolding branch
branch_shaped n opcode target h =
    if_insn (ShapedInsn n) (within 153 158 opcode) _ _ h (
    if_insn (ShapedInsn n) (within 159 164 opcode) _ _ h (
    if_insn (ShapedInsn n) (opcode == 165) _ _ h (
    if_insn (ShapedInsn n) (opcode == 166) _ _ h (
    if_insn (ShapedInsn n) (opcode == 198) _ _ h (
    if_insn (ShapedInsn n) (opcode == 199) _ _ h (
    h))))))

jump_linked : (n opcode : ℕ) (o : Option ℕ) (insn : Insn) → ((target : ℕ) → o ≡ Some target → IsTarget n target) → option_map (branch opcode) o ≡ Some insn → ShapedInsn n insn
jump_linked n opcode None insn within h = absurd cc
jump_linked n opcode (Some target) insn within h = let same : branch opcode target ≡ insn = cc in subst (λ (z : Insn). ShapedInsn n z) same (branch_shaped n opcode target (within target refl))

-- a switch by its default, and what stands behind that
switch_of : {B : Type 0} (make : ℕ → B → Insn) (o : Option ℕ) (more : Option B) (insn : Insn) → option_and_then (λ target. option_map (make target) more) o ≡ Some insn → (target : ℕ) × (rest : B) × (o ≡ Some target) × (more ≡ Some rest) × (make target rest ≡ insn)
switch_of make None more insn h = absurd cc
switch_of make (Some target) None insn h = absurd cc
switch_of make (Some target) (Some rest) insn h = (target, rest, refl, refl, cc)

abbrev AnyDistance : ℤ → Type 0
AnyDistance distance = Unit {0}

any_all : {A : Type 0} (xs : List A) → All (λ (x : A). Unit {0}) xs
any_all {A} [] = All-nil (λ (x : A). Unit {0})
any_all {A} (x ∷ xs) = All-cons (λ (x : A). Unit {0}) x xs tt (any_all xs)

not_empty : {A B : Type 0} (xs : List A) (ys : List B) → length ys ≡ length xs → xs ≢ [] → ys ≢ []
not_empty [] ys same some none = some refl
not_empty (x ∷ xs) [] same some none = absurd (omega (arith, same))
not_empty (x ∷ xs) (y ∷ ys) same some none = absurd cc

linked_shaped : (starts : List ℕ) (pc : ℕ) (x : Unlinked) (insn : Insn) → ShapedUnlinked x → link starts pc x ≡ Some insn → ShapedInsn (length starts) insn
unfolding link
linked_shaped starts pc (Whole one) insn h e = let same : one ≡ insn = cc in subst (λ (z : Insn). ShapedInsn (length starts) z) same (h (length starts))
linked_shaped starts pc (Jump opcode distance) insn h e = jump_linked (length starts) opcode (lead starts pc distance) insn (lead_within starts pc distance) e
linked_shaped starts pc (Table low default distances) insn h e =
    let n = length starts in
    let f = lead starts pc in
    let c = switch_of (TableSwitch low) (lead starts pc default) (all_of f distances) insn e in
    let many = as_many f distances c.1 c.3 in
    subst (λ (z : Insn). ShapedInsn n z) c.4 (record {
      default_is = lead_within starts pc default c.0 c.2;
      some = not_empty distances c.1 many h.0;
      last_fits = subst (λ (k : ℕ). (low +ℤ pos k) ≤ℤ pos (2 ^ 31)) (sym many) h.1;
      targets_are = all_given AnyDistance (IsTarget n) f (λ distance target u is. lead_within starts pc distance target is) distances c.1 (any_all distances) c.3;
    })
linked_shaped starts pc (Lookup default rows) insn h e =
    let n = length starts in
    let f = row_lead starts pc in
    let c = switch_of LookupSwitch (lead starts pc default) (all_of f rows) insn e in
    subst (λ (z : Insn). ShapedInsn n z) c.4 (record {
      default_is = lead_within starts pc default c.0 c.2;
      ascend = subst (λ (z : List ℤ). Ascend z) (same_keys key key_of f (row_key starts pc) rows c.1 c.3) h;
      targets_are = all_given (λ (row : ℤ × ℤ). Unit {0}) (RowTarget n) f (λ row y u is. row_within starts pc row y is) rows c.1 (any_all rows) c.3;
    })

-- ---- code

abbrev PlacedShaped : Placed → Type 0
PlacedShaped x = ShapedUnlinked x.1

placed_shaped : (p : Pool) (pc : ℕ) (text : List ℕ) (xs : List Placed) → ArePlaced p pc text xs → All PlacedShaped xs
placed_shaped p pc text [] h = All-nil PlacedShaped
placed_shaped p pc text (x ∷ xs) h = All-cons PlacedShaped x xs (unlinked_shaped p pc h.0 x.1 h.3.1) (placed_shaped p (pc + length h.0) h.1 xs h.4)

-- as many instructions as offsets
pub as_many_insns : (p : Pool) (text starts : List ℕ) (insns : List Insn) → AreInsns p text starts insns → length starts ≡ length insns
as_many_insns p text starts insns h = ap length (sym h.starts_are) ∙ length-map h.placed offset_of ∙ sym (as_many (link_placed starts) h.placed insns h.linked)

pub insns_shaped : (p : Pool) (text starts : List ℕ) (insns : List Insn) → AreInsns p text starts insns → All (ShapedInsn (length insns)) insns
insns_shaped p text starts insns h =
    let n = length starts in
    let all = all_given PlacedShaped (ShapedInsn n) (link_placed starts) (λ x insn is e. linked_shaped starts x.0 x.1 insn is e) h.placed insns (placed_shaped p 0 text h.placed h.placed_are) h.linked in
    subst (λ (k : ℕ). All (ShapedInsn k) insns) (as_many_insns p text starts insns h) all
