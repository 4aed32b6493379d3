-- The written classes can be written as class files, sizes aside.
use Rattle.std.proofs.Common.{◌≡◌, ◌≢◌, ℕ, ◌+◌, Bool, true, false, List, [], ◌∷◌, ◌++◌, length, Option, None, refl, sym, ap, subst, ⊎_elim, arith}
use Rattle.std.specs.Prelude.{◌⊎◌, ◌==◌, ◌&&◌, not, All, IfSome, codes, map}
use Rattle.std.specs.List.{list_all}
use Rattle.std.specs.Str.{chars}
use Rattle.std.proofs.lemmas.List.Elements.{All-nil, All-cons, All-weaker}
use Rattle.std.proofs.lemmas.List.Sums.{AllPass-from_list_all}
use Rattle.lists.specs.Texts.{units_of}
use Rattle.class_model.specs.declared.types.JType.{JType}
use Rattle.class_model.specs.declared.types.MethodDesc.{MethodDesc}
use Rattle.class_model.specs.declared.class.Frame.{Frame}
use Rattle.class_model.specs.declared.class.Handler.{Handler}
use Rattle.class_model.specs.declared.class.FieldDef.{FieldDef}
use Rattle.class_model.specs.declared.class.CodeDef.{CodeDef}
use Rattle.class_model.specs.declared.class.MethodDef.{MethodDef}
use Rattle.class_model.specs.declared.class.ClassDef.{ClassDef}
use Rattle.class_model.specs.declared.insn.Kind.TheVariants as kind
use Rattle.class_model.specs.declared.insn.Width.TheVariants as width
use Rattle.class_model.specs.declared.insn.StackOp.TheVariants as stack
use Rattle.class_model.specs.declared.insn.InvokeKind.TheVariants as invoke
use Rattle.class_model.specs.declared.insn.Insn.{Insn}
use Rattle.class_model.specs.declared.insn.Insn.TheVariants.{PushInt, Load, Store, Stack, Bin, Return, Invoke}
use Rattle.class_model.specs.Descriptor.{IsClassName, IsFieldType, IsMethodType}
use Rattle.class_shape.specs.ShapedInsn.{IsReferenceType, IsCall, IsTarget, Ascend, ShapedInsn}
use Rattle.class_shape.specs.Shaped.{ShapedHandler, ShapedFrame, ShapedCode, ShapedField, ShapedMethod, SpellText, place_of, Shaped}
use Rattle.run_state.specs.declared.config.Config.{Config}
use Rattle.first_form.specs.declared.frame.IntFrame.{IntFrame}
use Rattle.profile_check.specs.declared.profile.Names.{Names}
use Rattle.profile_check.specs.declared.profile.Names.TheVariants.{Source, Written}
use Rattle.first_form.specs.declared.natives.Native.{Native}
use Rattle.first_form.specs.declared.natives.Native.TheVariants.{Read, Write, Report}
use Rattle.small_base.specs.Members.{int_type, class_type, object_name, string_name, native_name, takes_nothing, gives_int, takes_int, takes_arrays, native_method, straight_code, init_method, init_ref, object_init, super_init, value_field}
use Rattle.first_form.specs.Natives.{ref_of, report_name, takes_three}
use Rattle.first_form.specs.Typing.{words_type, Types, Runs, first_frame}
use Rattle.first_form.specs.FormOne.{main_desc, main_method, IsStraight, FormOne}
use Rattle.small_base.specs.Base.{small_base, object_class, string_class, system_class, native_class, thrown_class}
use Rattle.first_form.specs.Base.{report_class}
use Rattle.first_form.specs.FirstSet.{IsFirstSet}
use Rattle.instrument_set.specs.declared.marks.Marks.{Marks}
use Rattle.instrument_set.specs.Marking.{marks_of}
use Rattle.instrument_set.specs.Written.{written_class}
use Rattle.instrument_set.specs.WrittenSet.{written_base, written_set}
use Rattle.instrument_set.proofs.Formed.{written_form, all_inserted, base_alone}
use Rattle.instrument_set.proofs.Beside.{is_written_name, each_of_base}
use Rattle.instrument_set.proofs.Headline.{written_one}

-- ---- names and types that are written out

abbrev is_other : (end unit : ℕ) → Bool
is_other end unit = not (unit == end)

other_unit : (end unit : ℕ) → end == end ≡ true → is_other end unit ≡ true → unit ≢ end
other_unit end unit same h = λ e. absurd (let q = ap (λ (u : ℕ). u == end) e in cc)

none_of : (end : ℕ) (name : List ℕ) → end == end ≡ true → list_all (is_other end) name ≡ true → All (λ (u : ℕ). u ≢ end) name
none_of end name same h = All-weaker (λ (u : ℕ). is_other end u ≡ true) (λ (u : ℕ). u ≢ end) (λ u other. other_unit end u same other) name (AllPass-from_list_all (is_other end) name h)

and_both : (a b : Bool) → (a && b) ≡ true → (a ≡ true) × (b ≡ true)
and_both true b h = (refl, h)
and_both false b h = absurd cc

some_of : (name : List ℕ) → not (length name == 0) ≡ true → name ≢ []
some_of [] h = absurd cc
some_of (unit ∷ units) h = λ e. absurd cc

native_name_is : IsClassName native_name
unfolding chars
native_name_is = record { some_unit = λ e. absurd cc; no_end = none_of 59 native_name refl refl; no_array = none_of 91 native_name refl refl }

report_name_is : IsClassName report_name
unfolding chars
report_name_is = record { some_unit = λ e. absurd cc; no_end = none_of 59 report_name refl refl; no_array = none_of 91 report_name refl refl }

string_name_is : IsClassName string_name
unfolding chars
string_name_is = record { some_unit = λ e. absurd cc; no_end = none_of 59 string_name refl refl; no_array = none_of 91 string_name refl refl }

int_field : IsFieldType int_type
int_field = record { dimensions = omega arith; base = tt }

all_one : {A : Type 0} (P : A → Type 0) (x : A) → P x → All P (x ∷ [])
all_one P x h = All-cons P x [] h (All-nil P)

gives_is : IsMethodType gives_int
gives_is = record { params = All-nil IsFieldType; result = int_field }

takes_is : IsMethodType takes_int
takes_is = record { params = all_one IsFieldType int_type int_field; result = tt }

three_is : IsMethodType takes_three
three_is = record { params = All-cons IsFieldType int_type (int_type ∷ int_type ∷ []) int_field (All-cons IsFieldType int_type (int_type ∷ []) int_field (all_one IsFieldType int_type int_field)); result = tt }

nothing_is : IsMethodType takes_nothing
nothing_is = record { params = All-nil IsFieldType; result = tt }

main_is : IsMethodType main_desc
main_is = record { params = all_one IsFieldType words_type (record { dimensions = omega arith; base = string_name_is }); result = tt }

-- ---- instructions of the form

native_call : (native : Native) → IsCall invoke.Static (ref_of native)
native_call Read = record { class = record { in_grammar = record { dimensions = omega arith; base = native_name_is }; no_primitive = refl }; desc = gives_is; fits = tt }
native_call Write = record { class = record { in_grammar = record { dimensions = omega arith; base = native_name_is }; no_primitive = refl }; desc = takes_is; fits = tt }
native_call Report = record { class = record { in_grammar = record { dimensions = omega arith; base = report_name_is }; no_primitive = refl }; desc = three_is; fits = tt }

insn_shaped : (names : Names) (n most : ℕ) (insn : Insn) (f g : IntFrame) → Types names most insn f g → ShapedInsn n insn
insn_shaped names n most (PushInt number) f g h = tt
insn_shaped names n most (Load kind.Int slot) f g h = tt
insn_shaped names n most (Store kind.Int slot) f g h = tt
insn_shaped names n most (Stack stack.Pop) f g h = tt
insn_shaped names n most (Bin width.Int op) f g h = tt
insn_shaped names n most (Invoke invoke.Static method) f g h = subst (IsCall invoke.Static) (sym h.1) (native_call h.0)
insn_shaped names n most _ f g h = absurd h

runs_shaped : (names : Names) (n most : ℕ) (body : List Insn) (f g : IntFrame) → Runs names most body f g → All (ShapedInsn n) (body ++ Return None ∷ [])
runs_shaped names n most [] f g runs = all_one (ShapedInsn n) (Return None) tt
runs_shaped names n most (x ∷ xs) f g runs = All-cons (ShapedInsn n) x (xs ++ Return None ∷ []) (insn_shaped names n most x f runs.0 runs.1) (runs_shaped names n most xs runs.0 g runs.2)

-- ---- code and classes of the form

abbrev IsLine : ℕ → ℕ × ℕ → Type 0
IsLine n row = IsTarget n row.0

code_shaped : (names : Names) (code : CodeDef) → IsStraight names code → ShapedCode code
code_shaped names code straight =
    let n = length code.insns in
    record {
      insns = subst (λ (xs : List Insn). All (ShapedInsn n) xs) (sym straight.returns) (runs_shaped names n code.max_stack straight.body (first_frame code.max_locals) straight.last straight.runs);
      handlers = subst (λ (hs : List Handler). All (ShapedHandler n) hs) (sym straight.no_handler) (All-nil (ShapedHandler n));
      frames = subst (λ (fs : List (ℕ × Frame)). All (ShapedFrame code.insns) fs) (sym straight.no_frame) (All-nil (ShapedFrame code.insns));
      ascend = subst (λ (fs : List (ℕ × Frame)). Ascend (map place_of fs)) (sym straight.no_frame) tt;
      lines = subst (λ (ls : List (ℕ × ℕ)). All (IsLine n) ls) (sym straight.no_line) (All-nil (IsLine n));
    }

pub form_shaped : (names : Names) (class : ClassDef) → FormOne names class → Shaped class
form_shaped names class form = record {
  fields = subst (λ (fs : List FieldDef). All ShapedField fs) (sym form.header.no_field) (All-nil ShapedField);
  methods = subst (λ (ms : List MethodDef). All ShapedMethod ms) (sym form.only_main)
      (all_one ShapedMethod (main_method form.code) (record { desc = main_is; code = code_shaped names form.code form.straight }));
  source = subst (λ (source : Option (List ℕ)). IfSome source SpellText) (sym form.header.no_source) tt;
}

-- ---- the classes beside it

-- code of a constructor: an instruction has a shape wherever it stands
constructor_shaped : (max_stack : ℕ) (insns : List Insn) → All (ShapedInsn (length insns)) insns → ShapedMethod (init_method (straight_code max_stack insns))
constructor_shaped max_stack insns shaped = record {
  desc = nothing_is;
  code = record { insns = shaped; handlers = All-nil (ShapedHandler (length insns)); frames = All-nil (ShapedFrame insns); ascend = tt; lines = All-nil (IsLine (length insns)) };
}

object_init_shaped : ShapedMethod object_init
object_init_shaped = constructor_shaped 0 (Return None ∷ []) (all_one (ShapedInsn 1) (Return None) tt)

-- a name that code may hold
written_name_is : (name : List ℕ) → is_written_name name ≡ true → IsClassName name
written_name_is name h =
    let both = and_both (not (length name == 0)) (list_all (is_other 59) name && list_all (is_other 91) name) h in
    let rest = and_both (list_all (is_other 59) name) (list_all (is_other 91) name) both.1 in
    record { some_unit = some_of name both.0; no_end = none_of 59 name refl rest.0; no_array = none_of 91 name refl rest.1 }

init_call : (above : List ℕ) → is_written_name above ≡ true → IsCall invoke.Special (init_ref above)
init_call above h = record { class = record { in_grammar = record { dimensions = omega arith; base = written_name_is above h }; no_primitive = refl }; desc = nothing_is; fits = tt }

super_init_shaped : (above : List ℕ) → is_written_name above ≡ true → ShapedMethod (super_init above)
super_init_shaped above h =
    constructor_shaped 1 (Load kind.Ref 0 ∷ Invoke invoke.Special (init_ref above) ∷ Return None ∷ [])
    (All-cons (ShapedInsn 3) (Load kind.Ref 0) (Invoke invoke.Special (init_ref above) ∷ Return None ∷ []) tt
    (All-cons (ShapedInsn 3) (Invoke invoke.Special (init_ref above)) (Return None ∷ []) (init_call above h) (all_one (ShapedInsn 3) (Return None) tt)))

thrown_shaped : (name above : List ℕ) → is_written_name above ≡ true → Shaped (thrown_class name above)
thrown_shaped name above h = record { fields = All-nil ShapedField; methods = all_one ShapedMethod (super_init above) (super_init_shaped above h); source = tt }

native_shaped : (name : List ℕ) (desc : MethodDesc) → IsMethodType desc → ShapedMethod (native_method name desc)
native_shaped name desc is = record { desc = is; code = tt }

value_shaped : ShapedField value_field
value_shaped = record { dimensions = omega arith; base = tt }

object_shaped : Shaped object_class
object_shaped = record { fields = All-nil ShapedField; methods = all_one ShapedMethod object_init object_init_shaped; source = tt }

string_shaped : Shaped string_class
string_shaped = record { fields = all_one ShapedField value_field value_shaped; methods = All-nil ShapedMethod; source = tt }

abbrev read_method : MethodDef
read_method = native_method (units_of (codes "read")) gives_int

abbrev write_method : MethodDef
write_method = native_method (units_of (codes "write")) takes_int

abbrev exit_method : MethodDef
exit_method = native_method (units_of (codes "exit")) takes_int

abbrev tag_method : MethodDef
tag_method = native_method (units_of (codes "tag")) takes_three

natives_shaped : Shaped native_class
natives_shaped = record {
  fields = All-nil ShapedField;
  methods =
      All-cons ShapedMethod read_method (write_method ∷ exit_method ∷ []) (native_shaped read_method.name gives_int gives_is)
      (All-cons ShapedMethod write_method (exit_method ∷ []) (native_shaped write_method.name takes_int takes_is)
      (all_one ShapedMethod exit_method (native_shaped exit_method.name takes_int takes_is)));
  source = tt;
}

report_shaped : Shaped report_class
unfolding report_class
report_shaped = record { fields = All-nil ShapedField; methods = all_one ShapedMethod tag_method (native_shaped tag_method.name takes_three three_is); source = tt }

object_name_is : IsClassName object_name
unfolding chars
object_name_is = record { some_unit = λ e. absurd cc; no_end = none_of 59 object_name refl refl; no_array = none_of 91 object_name refl refl }

object_field : IsFieldType (class_type object_name)
object_field = record { dimensions = omega arith; base = object_name_is }

arrays_is : IsMethodType takes_arrays
arrays_is = record {
  params =
      All-cons IsFieldType (class_type object_name) (int_type ∷ class_type object_name ∷ int_type ∷ int_type ∷ []) object_field
      (All-cons IsFieldType int_type (class_type object_name ∷ int_type ∷ int_type ∷ []) int_field
      (All-cons IsFieldType (class_type object_name) (int_type ∷ int_type ∷ []) object_field
      (All-cons IsFieldType int_type (int_type ∷ []) int_field (all_one IsFieldType int_type int_field))));
  result = tt;
}

abbrev copy_method : MethodDef
copy_method = native_method (units_of (codes "arraycopy")) takes_arrays

system_shaped : Shaped system_class
system_shaped = record { fields = All-nil ShapedField; methods = all_one ShapedMethod copy_method (native_shaped copy_method.name takes_arrays arrays_is); source = tt }

base_shaped : All Shaped written_base
base_shaped = all_inserted Shaped report_class small_base report_shaped (each_of_base Shaped thrown_shaped object_shaped string_shaped system_shaped natives_shaped)

-- every class of the written set
pub written_shaped : (set : List ClassDef) (config : Config) → IsFirstSet set → All Shaped (written_set (marks_of config) set)
written_shaped set config first =
    let marks = marks_of config in
    ⊎_elim
    (λ (e : set ≡ small_base). subst (λ (s : List ClassDef). All Shaped (written_set marks s)) (sym e) (subst (λ (w : List ClassDef). All Shaped w) (sym (base_alone marks)) base_shaped))
    (λ (q : (class : ClassDef) × (set ≡ class ∷ small_base) × FormOne Source class).
    subst (λ (s : List ClassDef). All Shaped (written_set marks s)) (sym q.1)
    (subst (λ (w : List ClassDef). All Shaped w) (sym (written_one marks q.0))
    (all_inserted Shaped (written_class marks q.0) written_base (form_shaped Written (written_class marks q.0) (written_form marks q.0 q.2)) base_shaped)))
    first
