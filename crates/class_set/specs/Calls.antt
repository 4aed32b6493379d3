-- Instructions that name a member or a class of the wrong kind (JVMS 6.5, as narrowed here).
use Rattle.std.specs.Prelude.{ℕ, ◌==◌, ◌&&◌, ◌||◌, Bool, true, false, not, is_some, List, Option, Some, None, slice_get, option_and_then, if◌then◌else◌}
use Rattle.class_model.specs.declared.types.JType.{JType}
use Rattle.class_model.specs.declared.types.FieldRef.{FieldRef}
use Rattle.class_model.specs.declared.types.MethodRef.{MethodRef}
use Rattle.class_model.specs.declared.insn.InvokeKind.{InvokeKind}
use Rattle.class_model.specs.declared.insn.InvokeKind.TheVariants as by
use Rattle.class_model.specs.declared.insn.Insn.{Insn}
use Rattle.class_model.specs.declared.insn.Insn.TheVariants.{GetStatic, PutStatic, GetField, PutField, Invoke, New}
use Rattle.class_model.specs.declared.class.FieldDef.{FieldDef}
use Rattle.class_model.specs.declared.class.MethodDef.{MethodDef}
use Rattle.class_model.specs.declared.class.ClassDef.{ClassDef}
use Rattle.set_lookups.specs.Above.{same_name, find_class, is_subtype}
use Rattle.set_lookups.specs.Flags.{is_private, is_static, is_abstract, is_interface}
use Rattle.set_lookups.specs.First.{first, first_from, holds_of}
use Rattle.set_lookups.specs.Lookups.{Member, base_name, resolve_field, resolve_method, field_at, method_at, select_by, super_at}
use Rattle.class_set.specs.Core.{init_name, clinit_name}
use Rattle.class_set.specs.References.{insn_text, class_insns}

-- a field reference resolves to a field for which a test holds
abbrev pub finds_field : List ClassDef → FieldRef → (FieldDef → Bool) → Bool
finds_field set target test = holds_of test (option_and_then (field_at set) (resolve_field set target))

-- the number of the class that a method reference names; an array is none
abbrev pub named_class : List ClassDef → JType → Option ℕ
named_class set ty = if ty.depth == 0 then option_and_then (find_class set) (base_name ty.base) else None

-- the class of this number, where there is one, passes a test
abbrev pub is_class : List ClassDef → (ClassDef → Bool) → Option ℕ → Bool
is_class set test number = holds_of test (option_and_then (slice_get set) number)

abbrev pub is_special : InvokeKind → Bool
is_special by.Special = true
is_special _ = false

abbrev pub is_static_call : InvokeKind → Bool
is_static_call by.Static = true
is_static_call _ = false

-- by a receiver's class: `invokevirtual`, `invokeinterface`
abbrev pub is_selected_call : InvokeKind → Bool
is_selected_call by.Virtual = true
is_selected_call by.Interface = true
is_selected_call _ = false

abbrev pub is_init : MethodRef → Bool
is_init target = same_name target.name init_name

-- a call that cannot be made whatever it resolves to
abbrev pub is_wrong_reference : List ClassDef → InvokeKind → MethodRef → Bool
is_wrong_reference set kind target =
    same_name target.name clinit_name
    || ((is_init target && not (is_special kind))
    || (if target.in_interface
    then not (is_selected_call kind) || not (is_class set is_interface (named_class set target.class))
    else is_class set is_interface (named_class set target.class)))

-- a method that was selected is not there or has no code
abbrev pub lacks_body : List ClassDef → Option Member → Bool
lacks_body set None = true
lacks_body set (Some member) = holds_of (λ method. is_abstract method.flags) (method_at set member)

-- what `invokespecial` calls where the current class does not declare the method: the selection from its superclass on
abbrev pub select_above : List ClassDef → ℕ → MethodRef → Option Member
select_above set current target = first (select_by set target.name target.desc) (super_at set current)

-- `invokespecial` in the class `current` of a method that is no `<init>`
abbrev pub is_wrong_special : List ClassDef → ℕ → MethodRef → Member → MethodDef → Bool
is_wrong_special set current target member method =
    is_abstract method.flags
    || (not (holds_of (is_subtype set current) (named_class set target.class))
    || (not (member.class == current) && (is_private method.flags || lacks_body set (select_above set current target))))

-- an `<init>` that the named class does not declare
abbrev pub is_init_of_another : List ClassDef → MethodRef → Member → Bool
is_init_of_another set target member = is_init target && not (holds_of (λ named. named == member.class) (named_class set target.class))

-- a call in the class `current` that resolves to a method of the wrong kind
abbrev pub is_wrong_method : List ClassDef → ℕ → InvokeKind → MethodRef → Member → MethodDef → Bool
is_wrong_method set current kind target member method =
    (if is_static_call kind then not (is_static method.flags) else is_static method.flags)
    || ((is_selected_call kind && is_private method.flags)
    || (is_init_of_another set target member
    || (is_special kind && (not (is_init target) && is_wrong_special set current target member method))))

abbrev pub is_wrong_target : List ClassDef → ℕ → InvokeKind → MethodRef → Member → Bool
is_wrong_target set current kind target member = holds_of (is_wrong_method set current kind target member) (method_at set member)

abbrev pub is_wrong_call : List ClassDef → ℕ → InvokeKind → MethodRef → Bool
is_wrong_call set current kind target = is_wrong_reference set kind target || holds_of (is_wrong_target set current kind target) (resolve_method set target)

-- an instruction of the class `current` names a member or a class of the wrong kind
unfoldable pub is_wrong : List ClassDef → ℕ → Insn → Bool
is_wrong set current (GetStatic field) = finds_field set field (λ found. not (is_static found.flags))
is_wrong set current (PutStatic field) = finds_field set field (λ found. not (is_static found.flags) || is_some found.constant)
is_wrong set current (GetField field) = finds_field set field (λ found. is_static found.flags)
is_wrong set current (PutField field) = finds_field set field (λ found. is_static found.flags)
is_wrong set current (Invoke kind target) = is_wrong_call set current kind target
is_wrong set current (New name) = is_class set (λ class. is_abstract class.flags || is_interface class) (find_class set name)
is_wrong set current _ = false

abbrev pub if_wrong_kind : List ClassDef → ℕ → Insn → Option (List ℕ)
if_wrong_kind set current insn = if is_wrong set current insn then Some (insn_text insn) else None

-- wrong kind: an instruction names a member or a class of the wrong kind
unfoldable pub wrong_kind : List ClassDef → Option (List ℕ)
wrong_kind set = first_from (λ current class. first (if_wrong_kind set current) (class_insns class)) 0 set
