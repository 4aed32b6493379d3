-- The constant pool has room for what the classes of the written set name.
use Rattle.std.proofs.Common.{◌≡◌, ℕ, ◌+◌, ◌*◌, ◌≤◌, List, [], ◌∷◌, ◌++◌, length, Option, Some, None, Result, Ok, Err, refl, sym, ap, subst, ⊎_elim, arith, length-append}
use Rattle.std.specs.Prelude.{◌⊎◌, codes, zip, All, nat_lt}
use Rattle.std.proofs.lemmas.List.Elements.{All-nil, All-cons, All-head, All-tail}
use Rattle.lists.specs.Texts.{units_of}
use Rattle.class_model.specs.declared.types.MethodDesc.{MethodDesc}
use Rattle.class_model.specs.declared.class.FieldDef.{FieldDef}
use Rattle.class_model.specs.declared.class.CodeDef.{CodeDef}
use Rattle.class_model.specs.declared.class.Handler.{Handler}
use Rattle.class_model.specs.declared.class.InnerRow.{InnerRow}
use Rattle.class_model.specs.declared.class.Frame.{Frame}
use Rattle.class_model.specs.declared.class.MethodDef.{MethodDef}
use Rattle.class_model.specs.declared.class.ClassDef.{ClassDef}
use Rattle.class_model.specs.declared.insn.Kind.TheVariants as kind
use Rattle.class_model.specs.declared.insn.Width.TheVariants as width
use Rattle.class_model.specs.declared.insn.StackOp.TheVariants as stack
use Rattle.class_model.specs.declared.insn.InvokeKind.TheVariants as invoke
use Rattle.class_model.specs.declared.insn.Insn.{Insn}
use Rattle.class_model.specs.declared.insn.Insn.TheVariants.{PushInt, Load, Store, Stack, Bin, Return, Invoke}
use Rattle.const_pool.specs.declared.entry.Entry.TheVariants as entries
use Rattle.const_pool.specs.Pool.{Pool}
use Rattle.class_file.specs.ClassBytes.{code_name}
use Rattle.class_limits.specs.Sizes.{CodeLayout, layout_of}
use Rattle.pool_names.specs.Adding.{Adding, Unfit, OutOfRange, Past, done, unspelled, spell_u16, spell_u32, spell_each}
use Rattle.pool_names.specs.Spelling.{spell_bytes, spell_text, spell_class, spell_field_type, spell_desc, spell_int}
use Rattle.pool_names.proofs.Room.{Grows, Room, then_room, wider_room, done_room, unspelled_room, if_room, u16_room, u32_room, entry_room, text_room, class_room, field_type_room, desc_room, method_room, each_room}
use Rattle.insn_spelling.specs.Raw.{fits_i16}
use Rattle.insn_spelling.specs.Conditions.{is_in_range}
use Rattle.insn_spelling.specs.Spelling.{index_of, spell_indexed, spell_insn, spell_placed, spell_insns}
use Rattle.class_spelling.specs.Forms.{spell_index, spell_optional, spell_table, framed, spell_attribute, spell_when_some, spell_when_any}
use Rattle.class_spelling.specs.AttributeSpelling.{spell_classes, spell_field_attributes, spell_method_attributes, spell_class_attributes}
use Rattle.class_spelling.specs.ClassSpelling.{spell_field, spell_method, spell_class_head, spell_members, spell_class_body, spell_front, spell_sides, around, spell_class_file}
use Rattle.code_spelling.specs.Tables.{spell_handler, spell_handlers}
use Rattle.code_spelling.specs.Content.{spell_code_attributes, spell_content, spell_code}
use Rattle.class_encoding.specs.Encoding.{pool_limit}
use Rattle.first_form.specs.declared.frame.IntFrame.{IntFrame}
use Rattle.profile_check.specs.declared.profile.Names.{Names}
use Rattle.profile_check.specs.declared.profile.Names.TheVariants.{Written}
use Rattle.small_base.specs.Members.{gives_int, takes_int, takes_arrays, native_method, straight_code, init_method, init_ref, object_init, super_init, value_field}
use Rattle.first_form.specs.Natives.{takes_three}
use Rattle.first_form.specs.Typing.{Types, Runs, first_frame}
use Rattle.first_form.specs.FormOne.{main_method, IsStraight, FormOne}
use Rattle.small_base.specs.Base.{object_class, string_class, system_class, native_class, thrown_class}
use Rattle.first_form.specs.Base.{report_class}

-- ---- instructions

index_room : (names : Names) (most : ℕ) (insn : Insn) (f g : IntFrame) → Types names most insn f g → Room 6 (index_of insn)
unfolding index_of
index_room names most (PushInt n) f g h = if_room 6 (fits_i16 n) (done 0) (spell_int n) (wider_room 0 6 (done 0) (omega arith) (done_room 0)) (entry_room 6 (entries.Integer n) (omega arith))
index_room names most (Load kind.Int slot) f g h = wider_room 0 6 (done 0) (omega arith) (done_room 0)
index_room names most (Store kind.Int slot) f g h = wider_room 0 6 (done 0) (omega arith) (done_room 0)
index_room names most (Stack stack.Pop) f g h = wider_room 0 6 (done 0) (omega arith) (done_room 0)
index_room names most (Bin width.Int op) f g h = wider_room 0 6 (done 0) (omega arith) (done_room 0)
index_room names most (Invoke invoke.Static method) f g h = method_room method
index_room names most _ f g h = absurd h

-- an instruction, wherever it stands
abbrev HasRoom : CodeLayout → Insn → Type 0
HasRoom layout insn = (pc : ℕ) → Room 6 (spell_insn layout pc insn)

indexed_room : (layout : CodeLayout) (insn : Insn) → Room 6 (index_of insn) → HasRoom layout insn
unfolding spell_insn
indexed_room layout insn room pc = then_room 6 0 (index_of insn) (spell_indexed layout pc insn) room (λ index. if_room 0 (is_in_range insn) _ unspelled (done_room _) unspelled_room)

runs_room : (layout : CodeLayout) (names : Names) (most : ℕ) (body : List Insn) (f g : IntFrame) → Runs names most body f g → All (HasRoom layout) (body ++ Return None ∷ [])
unfolding index_of
runs_room layout names most [] f g runs = All-cons (HasRoom layout) (Return None) [] (indexed_room layout (Return None) (wider_room 0 6 (done 0) (omega arith) (done_room 0))) (All-nil (HasRoom layout))
runs_room layout names most (x ∷ xs) f g runs =
    All-cons (HasRoom layout) x (xs ++ Return None ∷ []) (indexed_room layout x (index_room names most x f runs.0 runs.1)) (runs_room layout names most xs runs.0 g runs.2)

placed_room : (layout : CodeLayout) (starts : List ℕ) (insns : List Insn) → All (HasRoom layout) insns → All (λ (placed : ℕ × Insn). Room 6 (spell_placed layout placed)) (zip starts insns)
placed_room layout [] insns rooms = All-nil (λ (placed : ℕ × Insn). Room 6 (spell_placed layout placed))
placed_room layout (start ∷ starts) [] rooms = All-nil (λ (placed : ℕ × Insn). Room 6 (spell_placed layout placed))
placed_room layout (start ∷ starts) (insn ∷ insns) rooms =
    All-cons (λ (placed : ℕ × Insn). Room 6 (spell_placed layout placed)) (start, insn) (zip starts insns) (All-head (HasRoom layout) insn insns rooms start)
    (placed_room layout starts insns (All-tail (HasRoom layout) insn insns rooms))

few_placed : (starts : List ℕ) (insns : List Insn) → length (zip starts insns) ≤ length insns
few_placed [] insns = omega arith
few_placed (start ∷ starts) [] = omega arith
few_placed (start ∷ starts) (insn ∷ insns) = let few = few_placed starts insns in omega (arith, few)

insns_room : (layout : CodeLayout) (insns : List Insn) → All (HasRoom layout) insns → Room (6 * length insns) (spell_insns layout insns)
unfolding spell_insns
insns_room layout insns rooms =
    let few = few_placed layout.starts insns in
    wider_room (6 * length (zip layout.starts insns)) (6 * length insns) (spell_insns layout insns) (omega (arith, few))
    (each_room 6 (spell_placed layout) (zip layout.starts insns) (placed_room layout layout.starts insns rooms))

-- ---- code

empty_table_room : {A : Type 0} (spell : A → Adding (List ℕ)) → Room 0 (spell_table spell [])
unfolding spell_table spell_each
empty_table_room spell = then_room 0 0 (spell_u16 0) _ (u16_room 0) (λ count. then_room {A = List ℕ} {B = List ℕ} 0 0 (done []) _ (done_room []) (λ rows. done_room (count ++ rows)))

no_attributes_room : (layout : CodeLayout) → Room 0 (spell_code_attributes layout [] [])
unfolding spell_code_attributes spell_when_any
no_attributes_room layout = then_room 0 0 (spell_u16 0) _ (u16_room 0) (λ count. then_room {A = List ℕ} {B = List ℕ} 0 0 (done []) _ (done_room []) (λ first. then_room {A = List ℕ} {B = List ℕ} 0 0 (done []) _ (done_room []) (λ second. done_room (count ++ (first ++ (second ++ []))))))

attributes_room : (layout : CodeLayout) (frames : List (ℕ × Frame)) (lines : List (ℕ × ℕ)) → frames ≡ [] → lines ≡ [] → Room 0 (spell_code_attributes layout frames lines)
attributes_room layout frames lines no_frame no_line =
    subst (λ (fs : List (ℕ × Frame)). Room 0 (spell_code_attributes layout fs lines)) (sym no_frame) (subst (λ (ls : List (ℕ × ℕ)). Room 0 (spell_code_attributes layout [] ls)) (sym no_line) (no_attributes_room layout))

handlers_room : (layout : CodeLayout) (handlers : List Handler) → handlers ≡ [] → Room 0 (spell_handlers layout handlers)
handlers_room layout handlers none = subst (λ (hs : List Handler). Room 0 (spell_handlers layout hs)) (sym none) (empty_table_room (spell_handler layout))

-- code without handlers, frames and lines
pub content_room : (code : CodeDef) → code.handlers ≡ [] → code.frames ≡ [] → code.lines ≡ [] → All (HasRoom (layout_of code)) code.insns → Room (6 * length code.insns) (spell_code code)
unfolding spell_content
content_room code no_handler no_frame no_line rooms =
    let layout = layout_of code in
    let n = 6 * length code.insns in
    wider_room (0 + (0 + (0 + (n + (0 + (0 + 0)))))) n (spell_code code) (omega arith)
    (then_room 0 (0 + (0 + (n + (0 + (0 + 0))))) (spell_u16 code.max_stack) _ (u16_room code.max_stack)
    (λ max_stack. then_room 0 (0 + (n + (0 + (0 + 0)))) (spell_u16 code.max_locals) _ (u16_room code.max_locals)
    (λ max_locals. then_room 0 (n + (0 + (0 + 0))) (spell_u32 layout.size) _ (u32_room layout.size)
    (λ len. then_room n (0 + (0 + 0)) (spell_insns layout code.insns) _ (insns_room layout code.insns rooms)
    (λ insns. then_room 0 (0 + 0) (spell_handlers layout code.handlers) _ (handlers_room layout code.handlers no_handler)
    (λ handlers. then_room 0 0 (spell_code_attributes layout code.frames code.lines) _ (attributes_room layout code.frames code.lines no_frame no_line)
    (λ attributes. done_room _)))))))

-- ---- attributes

index_put_room : (n : ℕ) (put : Adding ℕ) → Room n put → Room n (spell_index put)
unfolding spell_index
index_put_room n put room = wider_room (n + 0) n (spell_index put) (omega arith) (then_room n 0 put spell_u16 room (λ k. u16_room k))

framed_room : (name : ℕ) (content : List ℕ) → Room 0 (framed name content)
unfolding framed
framed_room name content =
    then_room 0 0 (spell_u16 name) _ (u16_room name) (λ index. then_room 0 0 (spell_u32 (length content)) _ (u32_room (length content)) (λ len. done_room _))

attribute_room : (n : ℕ) (name : List ℕ) (spell : Adding (List ℕ)) → Room n spell → Room (1 + n) (spell_attribute name spell)
unfolding spell_attribute
attribute_room n name spell room =
    wider_room (1 + (n + 0)) (1 + n) (spell_attribute name spell) (omega arith)
    (then_room 1 (n + 0) (spell_bytes name) _ (entry_room 1 (entries.Utf8 name) (omega arith)) (λ index. then_room n 0 spell _ room (λ content. framed_room index content)))

-- ---- members

abbrev Content : Type 0
Content = CodeDef → Adding (List ℕ)

abbrev CodeHasRoom : Content → ℕ → Option CodeDef → Type 0
CodeHasRoom content n None = Unit {0}
CodeHasRoom content n (Some code) = Room n (content code)

code_room : (content : Content) (n : ℕ) (code : Option CodeDef) → CodeHasRoom content n code → Room (1 + n) (spell_when_some code_name content code)
unfolding spell_when_some
code_room content n None room = wider_room 0 (1 + n) (done []) (omega arith) (done_room [])
code_room content n (Some code) room = attribute_room n code_name (content code) room

method_attributes_room : (content : Content) (n : ℕ) (code : Option CodeDef) → CodeHasRoom content n code → Room (1 + n) (spell_method_attributes content code [])
unfolding spell_method_attributes spell_when_any
method_attributes_room content n code room =
    wider_room (0 + ((1 + n) + (0 + 0))) (1 + n) (spell_method_attributes content code []) (omega arith)
    (then_room 0 ((1 + n) + (0 + 0)) (spell_u16 _) _ (u16_room _)
    (λ count. then_room (1 + n) (0 + 0) (spell_when_some code_name content code) _ (code_room content n code room)
    (λ first. then_room {A = List ℕ} {B = List ℕ} 0 0 (done []) _ (done_room []) (λ second. done_room (count ++ (first ++ (second ++ [])))))))

abbrev MethodHasRoom : Content → ℕ → MethodDef → Type 0
MethodHasRoom content n method = Room n (spell_method content method)

method_has_room : (content : Content) (n : ℕ) (method : MethodDef) → method.throws ≡ [] → CodeHasRoom content n method.code → MethodHasRoom content (3 + n) method
unfolding spell_method
method_has_room content n method no_throws room =
    wider_room (0 + (1 + (1 + ((1 + n) + 0)))) (3 + n) (spell_method content method) (omega arith)
    (then_room 0 (1 + (1 + ((1 + n) + 0))) (spell_u16 method.flags) _ (u16_room method.flags)
    (λ flags. then_room 1 (1 + ((1 + n) + 0)) (spell_index (spell_text method.name)) _ (index_put_room 1 (spell_text method.name) (text_room method.name))
    (λ name. then_room 1 ((1 + n) + 0) (spell_index (spell_desc method.desc)) _ (index_put_room 1 (spell_desc method.desc) (desc_room method.desc))
    (λ desc. then_room (1 + n) 0 (spell_method_attributes content method.code method.throws) _ (rw no_throws (method_attributes_room content n method.code room)) (λ attributes. done_room _)))))

abbrev FieldHasRoom : FieldDef → Type 0
FieldHasRoom field = Room 2 (spell_field field)

field_attributes_room : Room 0 (spell_field_attributes None)
unfolding spell_field_attributes spell_when_some
field_attributes_room = then_room 0 0 (spell_u16 0) _ (u16_room 0) (λ count. then_room {A = List ℕ} {B = List ℕ} 0 0 (done []) _ (done_room []) (λ attribute. done_room (count ++ attribute)))

field_has_room : (field : FieldDef) → field.constant ≡ None → FieldHasRoom field
unfolding spell_field
field_has_room field no_constant =
    then_room 0 (1 + (1 + (0 + 0))) (spell_u16 field.flags) _ (u16_room field.flags)
    (λ flags. then_room 1 (1 + (0 + 0)) (spell_index (spell_text field.name)) _ (index_put_room 1 (spell_text field.name) (text_room field.name))
    (λ name. then_room 1 (0 + 0) (spell_index (spell_field_type field.ty)) _ (index_put_room 1 (spell_field_type field.ty) (field_type_room field.ty))
    (λ type. then_room 0 0 (spell_field_attributes field.constant) _ (rw no_constant field_attributes_room) (λ attributes. done_room _))))

table_room : {A : Type 0} (n : ℕ) (spell : A → Adding (List ℕ)) (xs : List A) → All (λ x. Room n (spell x)) xs → Room (n * length xs) (spell_table spell xs)
unfolding spell_table
table_room n spell xs rooms =
    wider_room (0 + (n * length xs + 0)) (n * length xs) (spell_table spell xs) (omega arith)
    (then_room 0 (n * length xs + 0) (spell_u16 (length xs)) _ (u16_room (length xs)) (λ count. then_room (n * length xs) 0 (spell_each spell xs) _ (each_room n spell xs rooms) (λ rows. done_room (count ++ rows))))

-- ---- a class without interfaces and attributes

pub record HasPlainParts (content : Content) (n : ℕ) (class : ClassDef) : Type 0 where
  pub no_interface : class.interfaces ≡ []
  pub no_source : class.source ≡ None
  pub no_inner : class.inner ≡ []
  pub fields : All FieldHasRoom class.fields
  pub methods : All (MethodHasRoom content n) class.methods

super_room : (name : Option (List ℕ)) → Room 2 (spell_optional spell_class name)
super_room None = wider_room 0 2 (done 0) (omega arith) (done_room 0)
super_room (Some name) = class_room name

class_attributes_room : Room 0 (spell_class_attributes None [])
unfolding spell_class_attributes spell_when_some spell_when_any
class_attributes_room = then_room 0 0 (spell_u16 0) _ (u16_room 0) (λ count. then_room {A = List ℕ} {B = List ℕ} 0 0 (done []) _ (done_room []) (λ first. then_room {A = List ℕ} {B = List ℕ} 0 0 (done []) _ (done_room []) (λ second. done_room (count ++ (first ++ (second ++ []))))))

interfaces_room : (names : List (List ℕ)) → names ≡ [] → Room 0 (spell_classes names)
unfolding spell_classes
interfaces_room names none = subst (λ (ns : List (List ℕ)). Room 0 (spell_classes ns)) (sym none) (empty_table_room _)

head_room : (class : ClassDef) → class.interfaces ≡ [] → Room 4 (spell_class_head class)
unfolding spell_class_head
head_room class no_interface =
    then_room 0 (2 + (2 + (0 + 0))) (spell_u16 class.flags) _ (u16_room class.flags)
    (λ flags. then_room 2 (2 + (0 + 0)) (spell_index (spell_class class.name)) _ (index_put_room 2 (spell_class class.name) (class_room class.name))
    (λ name. then_room 2 (0 + 0) (spell_index (spell_optional spell_class class.super_name)) _ (index_put_room 2 (spell_optional spell_class class.super_name) (super_room class.super_name))
    (λ above. then_room 0 0 (spell_classes class.interfaces) _ (interfaces_room class.interfaces no_interface) (λ interfaces. done_room (flags ++ (name ++ (above ++ (interfaces ++ []))))))))

plain_attributes_room : (source : Option (List ℕ)) (rows : List InnerRow) → source ≡ None → rows ≡ [] → Room 0 (spell_class_attributes source rows)
plain_attributes_room source rows no_source no_inner =
    subst (λ (z : Option (List ℕ)). Room 0 (spell_class_attributes z rows)) (sym no_source) (subst (λ (rs : List InnerRow). Room 0 (spell_class_attributes None rs)) (sym no_inner) class_attributes_room)

abbrev members_size : ℕ → ClassDef → ℕ
members_size n class = 2 * length class.fields + n * length class.methods

members_room : (content : Content) (n : ℕ) (class : ClassDef) → HasPlainParts content n class → Room (members_size n class) (spell_members content class)
unfolding spell_members
members_room content n class parts =
    let fs = 2 * length class.fields in
    let ms = n * length class.methods in
    wider_room (fs + (ms + (0 + 0))) (fs + ms) (spell_members content class) (omega arith)
    (then_room fs (ms + (0 + 0)) (spell_table spell_field class.fields) _ (table_room 2 spell_field class.fields parts.fields)
    (λ fields. then_room ms (0 + 0) (spell_table (spell_method content) class.methods) _ (table_room n (spell_method content) class.methods parts.methods)
    (λ methods. then_room 0 0 (spell_class_attributes class.source class.inner) _ (plain_attributes_room class.source class.inner parts.no_source parts.no_inner) (λ attributes. done_room (fields ++ (methods ++ (attributes ++ [])))))))

abbrev body_size : ℕ → ClassDef → ℕ
body_size n class = 4 + members_size n class

body_room : (content : Content) (n : ℕ) (class : ClassDef) → HasPlainParts content n class → Room (body_size n class) (spell_class_body content class)
unfolding spell_class_body
body_room content n class parts =
    let m = members_size n class in
    wider_room (4 + (m + 0)) (4 + m) (spell_class_body content class) (omega arith)
    (then_room 4 (m + 0) (spell_class_head class) _ (head_room class parts.no_interface) (λ head. then_room m 0 (spell_members content class) _ (members_room content n class parts) (λ members. done_room (head ++ members))))

front_room : (class : ClassDef) → Room 0 (spell_front class)
unfolding spell_front
front_room class =
    then_room 0 0 (spell_u32 0xCAFEBABE) _ (u32_room 0xCAFEBABE) (λ magic. then_room 0 0 (spell_u16 class.minor) _ (u16_room class.minor) (λ minor. then_room 0 0 (spell_u16 class.major) _ (u16_room class.major) (λ major. done_room _)))

sides_room : (content : Content) (n : ℕ) (class : ClassDef) → HasPlainParts content n class → Room (body_size n class) (spell_sides content class)
unfolding spell_sides
sides_room content n class parts =
    let m = body_size n class in
    wider_room (m + (0 + 0)) m (spell_sides content class) (omega arith)
    (then_room m (0 + 0) (spell_class_body content class) _ (body_room content n class parts) (λ body. then_room 0 0 (spell_front class) _ (front_room class) (λ front. done_room (front, body))))

no_pool_limit : (n : ℕ) (o : Result (Pool × (List ℕ × List ℕ)) Unfit) → Grows n [] o → pool_limit (around o) ≡ None
no_pool_limit n (Ok x) g = refl
no_pool_limit n (Err OutOfRange) g = refl
no_pool_limit n (Err (Past last)) g = absurd g

-- the class passes no limit of the constant pool
pub pool_fits : (content : Content) (n : ℕ) (class : ClassDef) → HasPlainParts content n class → body_size n class ≤ 65534 → pool_limit (spell_class_file content class) ≡ None
unfolding spell_class_file
pool_fits content n class parts few = no_pool_limit (body_size n class) (spell_sides content class []) ((sides_room content n class parts).each [] (omega (arith, few)))

-- ---- the classes of the written set

main_room : (code : CodeDef) → IsStraight Written code → MethodHasRoom spell_code (3 + 6 * length code.insns) (main_method code)
main_room code straight =
    let layout = layout_of code in
    method_has_room spell_code (6 * length code.insns) (main_method code) refl
    (content_room code straight.no_handler straight.no_frame straight.no_line
    (subst (λ (xs : List Insn). All (HasRoom layout) xs) (sym straight.returns) (runs_room layout Written code.max_stack straight.body (first_frame code.max_locals) straight.last straight.runs)))

-- a class of the form
pub form_fits : (class : ClassDef) → FormOne Written class → (code : CodeDef) → class.methods ≡ main_method code ∷ [] → IsStraight Written code → length code.insns ≤ 5400 → pool_limit (spell_class_file spell_code class) ≡ None
form_fits class form code only straight few =
    let n = 3 + 6 * length code.insns in
    let no_fields = ap (λ (fs : List FieldDef). length fs) form.header.no_field in
    let one_method = ap (λ (ms : List MethodDef). length ms) only in
    pool_fits spell_code n class
    (record {
      no_interface = form.header.no_interface;
      no_source = form.header.no_source;
      no_inner = form.header.no_inner;
      fields = subst (λ (fs : List FieldDef). All FieldHasRoom fs) (sym form.header.no_field) (All-nil FieldHasRoom);
      methods = subst (λ (ms : List MethodDef). All (MethodHasRoom spell_code n) ms) (sym only) (All-cons (MethodHasRoom spell_code n) (main_method code) [] (main_room code straight) (All-nil (MethodHasRoom spell_code n)));
    })
    (rw no_fields (rw one_method (omega (arith, few))))

native_room : (name : List ℕ) (desc : MethodDesc) → MethodHasRoom spell_code 3 (native_method name desc)
native_room name desc = method_has_room spell_code 0 (native_method name desc) refl tt

-- a constructor, by the room for its instructions
constructor_room : (max_stack : ℕ) (insns : List Insn) → All (HasRoom (layout_of (straight_code max_stack insns))) insns → MethodHasRoom spell_code (3 + 6 * length insns) (init_method (straight_code max_stack insns))
constructor_room max_stack insns rooms =
    method_has_room spell_code (6 * length insns) (init_method (straight_code max_stack insns)) refl (content_room (straight_code max_stack insns) refl refl refl rooms)

-- an instruction that names nothing
nameless_room : (layout : CodeLayout) (insn : Insn) → index_of insn ≡ done 0 → HasRoom layout insn
nameless_room layout insn none = indexed_room layout insn (subst (λ (index : Adding ℕ). Room 6 index) (sym none) (wider_room 0 6 (done 0) (omega arith) (done_room 0)))

init_room : MethodHasRoom spell_code 9 object_init
unfolding index_of
init_room =
    let layout = layout_of (straight_code 0 (Return None ∷ [])) in
    constructor_room 0 (Return None ∷ []) (All-cons (HasRoom layout) (Return None) [] (nameless_room layout (Return None) refl) (All-nil (HasRoom layout)))

abbrev super_insns : List ℕ → List Insn
super_insns above = Load kind.Ref 0 ∷ Invoke invoke.Special (init_ref above) ∷ Return None ∷ []

super_room_of : (above : List ℕ) → MethodHasRoom spell_code 21 (super_init above)
unfolding index_of
super_room_of above =
    let layout = layout_of (straight_code 1 (super_insns above)) in
    constructor_room 1 (super_insns above)
    (All-cons (HasRoom layout) (Load kind.Ref 0) (Invoke invoke.Special (init_ref above) ∷ Return None ∷ []) (nameless_room layout (Load kind.Ref 0) refl)
    (All-cons (HasRoom layout) (Invoke invoke.Special (init_ref above)) (Return None ∷ []) (indexed_room layout (Invoke invoke.Special (init_ref above)) (method_room (init_ref above)))
    (All-cons (HasRoom layout) (Return None) [] (nameless_room layout (Return None) refl) (All-nil (HasRoom layout)))))

abbrev pub PoolFits : ClassDef → Type 0
PoolFits class = pool_limit (spell_class_file spell_code class) ≡ None

pub object_fits : PoolFits object_class
object_fits =
    pool_fits spell_code 9 object_class
    (record { no_interface = refl; no_source = refl; no_inner = refl; fields = All-nil FieldHasRoom; methods = All-cons (MethodHasRoom spell_code 9) object_init [] init_room (All-nil (MethodHasRoom spell_code 9)) }) (omega arith)

pub thrown_fits : (name above : List ℕ) → PoolFits (thrown_class name above)
thrown_fits name above =
    pool_fits spell_code 21 (thrown_class name above)
    (record { no_interface = refl; no_source = refl; no_inner = refl; fields = All-nil FieldHasRoom; methods = All-cons (MethodHasRoom spell_code 21) (super_init above) [] (super_room_of above) (All-nil (MethodHasRoom spell_code 21)) }) (omega arith)

abbrev copy_method : MethodDef
copy_method = native_method (units_of (codes "arraycopy")) takes_arrays

pub system_fits : PoolFits system_class
system_fits =
    pool_fits spell_code 3 system_class
    (record { no_interface = refl; no_source = refl; no_inner = refl; fields = All-nil FieldHasRoom; methods = All-cons (MethodHasRoom spell_code 3) copy_method [] (native_room copy_method.name takes_arrays) (All-nil (MethodHasRoom spell_code 3)) }) (omega arith)

pub string_fits : PoolFits string_class
string_fits =
    pool_fits spell_code 0 string_class
    (record { no_interface = refl; no_source = refl; no_inner = refl; fields = All-cons FieldHasRoom value_field [] (field_has_room value_field refl) (All-nil FieldHasRoom); methods = All-nil (MethodHasRoom spell_code 0) }) (omega arith)

abbrev read_method : MethodDef
read_method = native_method (units_of (codes "read")) gives_int

abbrev write_method : MethodDef
write_method = native_method (units_of (codes "write")) takes_int

abbrev exit_method : MethodDef
exit_method = native_method (units_of (codes "exit")) takes_int

abbrev tag_method : MethodDef
tag_method = native_method (units_of (codes "tag")) takes_three

pub native_fits : PoolFits native_class
native_fits =
    pool_fits spell_code 3 native_class
    (record {
      no_interface = refl;
      no_source = refl;
      no_inner = refl;
      fields = All-nil FieldHasRoom;
      methods =
          All-cons (MethodHasRoom spell_code 3) read_method (write_method ∷ exit_method ∷ []) (native_room read_method.name gives_int)
          (All-cons (MethodHasRoom spell_code 3) write_method (exit_method ∷ []) (native_room write_method.name takes_int)
          (All-cons (MethodHasRoom spell_code 3) exit_method [] (native_room exit_method.name takes_int) (All-nil (MethodHasRoom spell_code 3))));
    }) (omega arith)

pub report_fits : PoolFits report_class
unfolding report_class
report_fits =
    pool_fits spell_code 3 report_class
    (record {
      no_interface = refl;
      no_source = refl;
      no_inner = refl;
      fields = All-nil FieldHasRoom;
      methods = All-cons (MethodHasRoom spell_code 3) tag_method [] (native_room tag_method.name takes_three) (All-nil (MethodHasRoom spell_code 3));
    }) (omega arith)
