-- The look-ups in a set of classes, which are asked by name.
use Rattle.std.specs.Prelude.{ℕ, zero, suc, ◌==◌, ◌&&◌, ◌||◌, not, Bool, true, false, List, [], ◌∷◌, ◌++◌, length, map, reverse, filter, find, flat_map, position, Option, Some, None, slice_get, option_map, option_and_then, if◌then◌else◌}
use Rattle.class_model.specs.declared.types.BaseType.{BaseType}
use Rattle.class_model.specs.declared.types.BaseType.TheVariants as base
use Rattle.class_model.specs.declared.types.JType.{JType}
use Rattle.class_model.specs.declared.types.MethodDesc.{MethodDesc}
use Rattle.class_model.specs.declared.types.FieldRef.{FieldRef}
use Rattle.class_model.specs.declared.types.MethodRef.{MethodRef}
use Rattle.class_model.specs.declared.class.Constant.{Constant}
use Rattle.class_model.specs.declared.class.Constant.TheVariants as constant
use Rattle.class_model.specs.declared.class.CodeDef.{CodeDef}
use Rattle.class_model.specs.declared.class.FieldDef.{FieldDef}
use Rattle.class_model.specs.declared.class.MethodDef.{MethodDef}
use Rattle.class_model.specs.declared.class.ClassDef.{ClassDef}
use Rattle.class_model.specs.declared.class.Handler.{Handler}
use Rattle.class_model.specs.declared.insn.Insn.{Insn}
use Rattle.class_model.specs.Descriptor.{words_of, letter_of}
use Rattle.set_lookups.specs.Lookups.{Member, resolve_method}
use Rattle.run_state.specs.Texts.{same_text, same_type, same_desc, same_field, has_flag, private_flag, static_flag, native_flag, class_type, object_name, main_name, main_desc, initializer_name}
use Rattle.run_state.specs.Natives.{native_of}
use Rattle.run_state.specs.Words.{Word, Num, Long}
use Rattle.run_state.specs.State.{Method}
use Rattle.run_state.specs.Looks.{Looks, Static}
use Rattle.run_state.specs.References.{given}
use Rattle.run_state.specs.Unwinding.{default_of}

-- ---- classes

abbrev pub class_named : List ClassDef → List ℕ → Option ClassDef
class_named set name = find (λ c. same_text c.name name) set

-- the class of a name and its superclasses, itself first; no chain is longer than the set
abbrev pub chain_of : ℕ → List ClassDef → Option (List ℕ) → List ClassDef
chain_of zero set name = []
chain_of (suc n) set None = []
chain_of (suc n) set (Some name) = given (class_named set name) [] (λ c. c ∷ chain_of n set c.super_name)

abbrev pub superclasses : List ClassDef → List ℕ → List ClassDef
superclasses set name = chain_of (length set) set (Some name)

-- the class of a name, then its superinterfaces, then its superclass, each in turn by the same rule (JVMS 5.4.3.2)
abbrev pub lineage_of : ℕ → List ClassDef → List ℕ → List ClassDef
lineage_of zero set name = []
lineage_of (suc n) set name =
    given (class_named set name) [] (λ c. c ∷ flat_map (lineage_of n set) c.interfaces ++ given c.super_name [] (lineage_of n set))

abbrev pub lineage : List ClassDef → List ℕ → List ClassDef
lineage set name = lineage_of (length set) set name

abbrev pub super_of : List ClassDef → List ℕ → Option (List ℕ)
super_of set name = given (class_named set name) None (λ c. c.super_name)

-- ---- methods

abbrev pub is_static : ℕ → Bool
is_static flags = has_flag flags static_flag

abbrev pub code_of : Option CodeDef → List Insn
code_of None = []
code_of (Some code) = code.insns

abbrev pub locals_of : Option CodeDef → ℕ
locals_of None = 0
locals_of (Some code) = code.max_locals

abbrev pub handlers_of : Option CodeDef → List Handler
handlers_of None = []
handlers_of (Some code) = code.handlers

abbrev pub is_initializer : MethodDef → Bool
is_initializer d = same_text d.name initializer_name

-- a method as the machine has it
abbrev pub method_of : ClassDef → MethodDef → Method
method_of c d = record {
  class = c.name;
  name = d.name;
  desc = d.desc;
  params = words_of d.desc (not (is_static d.flags));
  locals = locals_of d.code;
  code = code_of d.code;
  handlers = handlers_of d.code;
  native = if has_flag d.flags native_flag then native_of c.name d.name d.desc else None;
  begins = if is_initializer d then Some c.name else None;
}

-- a class's first method that passes a test
abbrev pub method_where : (MethodDef → Bool) → ClassDef → Option Method
method_where test c = option_map (method_of c) (find test c.methods)

-- the first of the classes that has one
abbrev pub first_where : (MethodDef → Bool) → List ClassDef → Option Method
first_where test [] = None
first_where test (c ∷ cs) = given (method_where test c) (first_where test cs) Some

abbrev pub has_name_and_desc : List ℕ → MethodDesc → MethodDef → Bool
has_name_and_desc name desc d = same_text d.name name && same_desc d.desc desc

-- neither static nor private
abbrev pub is_selectable : MethodDef → Bool
is_selectable d = not (has_flag d.flags static_flag) && not (has_flag d.flags private_flag)

-- the method of a member, by its class and its number there
abbrev pub method_in : ℕ → ClassDef → Option Method
method_in index c = option_map (method_of c) (slice_get c.methods index)

abbrev pub shown_method : List ClassDef → Member → Option Method
shown_method set member = option_and_then (method_in member.index) (slice_get set member.class)

-- resolution (JVMS 5.4.3.3), as of a set that is judged
abbrev pub resolved : List ClassDef → MethodRef → Option Method
resolved set ref = option_and_then (shown_method set) (resolve_method set ref)

-- selection: from the receiver's class upward, the first of that name and descriptor that is neither static nor private
abbrev pub selected_in : List ClassDef → List ℕ → MethodRef → Option Method
selected_in set class ref = first_where (λ d. has_name_and_desc ref.name ref.desc d && is_selectable d) (superclasses set class)

abbrev pub initializers : List ClassDef → List Method
initializers [] = []
initializers (c ∷ cs) = given (method_where is_initializer c) (initializers cs) (λ m. m ∷ initializers cs)

-- a static method that is not native, `main([Ljava/lang/String;)V`
abbrev pub is_main : MethodDef → Bool
is_main d = has_name_and_desc main_name main_desc d && is_static d.flags && not (has_flag d.flags native_flag)

-- the `main` that a class itself declares
abbrev pub main_of : List ClassDef → List ℕ → Option Method
main_of set main = given (class_named set main) None (method_where is_main)

-- ---- subtypes: the reflexive and transitive closure of "direct superclass or superinterface"

abbrev pub some_named : List ClassDef → List ℕ → Bool
some_named [] name = false
some_named (c ∷ cs) name = same_text c.name name || some_named cs name

abbrev pub is_object : JType → Bool
is_object ty = same_type ty (class_type object_name)

-- of two types without their common dimensions: arrays are subtypes of Object alone, a primitive of itself
abbrev pub fits_base : List ClassDef → BaseType → BaseType → Bool
fits_base set (base.Primitive a) (base.Primitive b) = letter_of a == letter_of b
fits_base set (base.Primitive a) (base.Class d) = false
fits_base set (base.Class c) (base.Primitive b) = false
fits_base set (base.Class c) (base.Class d) = some_named (lineage set c) d || same_text d object_name

-- an array of more dimensions fits Object as an element
abbrev pub fits_depth : List ClassDef → ℕ → BaseType → ℕ → BaseType → Bool
fits_depth set zero a zero b = fits_base set a b
fits_depth set zero a (suc n) b = false
fits_depth set (suc n) a zero b = is_object (record { depth = 0; base = b })
fits_depth set (suc n) a (suc k) b = fits_depth set n a k b

abbrev pub fits_in : List ClassDef → JType → JType → Bool
fits_in set a b = fits_depth set a.depth a.base b.depth b.base

-- ---- fields

abbrev pub reference_to : ClassDef → FieldDef → FieldRef
reference_to c d = record { class = c.name; name = d.name; ty = d.ty }

abbrev pub instance_fields : ClassDef → List FieldRef
instance_fields c = map (reference_to c) (filter (λ d. not (is_static d.flags)) c.fields)

abbrev pub static_fields : ClassDef → List FieldDef
static_fields c = filter (λ d. is_static d.flags) c.fields

-- the fields of an object: those of the uppermost class first
abbrev pub layout : List ClassDef → List ℕ → List FieldRef
layout set name = flat_map instance_fields (reverse (superclasses set name))

-- a field reference, with the class that declares the field (JVMS 5.4.3.2)
abbrev pub declares_field : FieldRef → ClassDef → Bool
declares_field ref c = given (find (λ d. same_text d.name ref.name && same_type d.ty ref.ty) c.fields) false (λ d. true)

abbrev pub resolved_field : List ClassDef → FieldRef → Option FieldRef
resolved_field set ref = option_map (λ c. record ref { class = c.name }) (find (declares_field ref) (lineage set ref.class))

abbrev pub field_place : List ClassDef → FieldRef → Option ℕ
field_place set ref = given (resolved_field set ref) None (λ f. position (same_field f) (layout set f.class))

-- all static fields of the set, in order
abbrev pub all_statics : List ClassDef → List FieldRef
all_statics set = flat_map (λ c. map (reference_to c) (static_fields c)) set

abbrev pub text_of : Option Constant → Option (List ℕ)
text_of None = None
text_of (Some (constant.Int v)) = None
text_of (Some (constant.Long v)) = None
text_of (Some (constant.Text text)) = Some text

abbrev pub text_constant : List ClassDef → FieldRef → Option (List ℕ)
text_constant set f = given (class_named set f.class) None (λ c. given (find (λ d. same_field (reference_to c d) f) c.fields) None (λ d. text_of d.constant))

abbrev pub static_at : List ClassDef → FieldRef → Option Static
static_at set ref =
    given (resolved_field set ref) None (λ f.
    option_map (λ place. record { class = f.class; place = place; text = text_constant set f }) (position (same_field f) (all_statics set)))

-- a static field with a ConstantValue holds it from the start, any other its default (JVMS 4.7.2, 5.5)
abbrev pub first_value : {T : Type 0} → T → JType → Option Constant → Word T
first_value t ty None = default_of t ty
first_value t ty (Some (constant.Int v)) = Num v t
first_value t ty (Some (constant.Long v)) = Long v t
first_value t ty (Some (constant.Text text)) = default_of t ty

abbrev pub first_statics : {T : Type 0} → T → List ClassDef → List (Word T)
first_statics t set = flat_map (λ c. map (λ d. first_value t d.ty d.constant) (static_fields c)) set

-- ---- together

abbrev pub looks_of : List ClassDef → List ℕ → Looks
looks_of set main = record {
  main = main_of set main;
  method = resolved set;
  selected = selected_in set;
  above = super_of set;
  starts = λ name. initializers (superclasses set name);
  fits = fits_in set;
  fields = λ name. map (λ f. f.ty) (layout set name);
  field = field_place set;
  static = static_at set;
}
