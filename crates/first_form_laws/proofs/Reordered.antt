-- A set is closed if it is in another order.
use Rattle.std.proofs.Common.{◌≡◌, ◌∙◌, ℕ, Bool, true, false, cond, not, ◌&&◌, ◌||◌, List, ◌++◌, map, length, refl, sym, ap, Option, Some, None}
use Rattle.std.specs.Prelude.{◌==◌, slice_get, flat_map, is_none, is_some, option_map, option_and_then, option_to_list, if◌then◌else◌}
use Rattle.std.specs.Option.{option_or}
use Rattle.std.specs.List.{list_any}
use Rattle.class_model.specs.declared.types.JType.{JType}
use Rattle.class_model.specs.declared.types.FieldRef.{FieldRef}
use Rattle.class_model.specs.declared.types.MethodRef.{MethodRef}
use Rattle.class_model.specs.declared.insn.InvokeKind.{InvokeKind}
use Rattle.class_model.specs.declared.insn.Insn.{Insn}
use Rattle.class_model.specs.declared.insn.Insn.TheVariants.{GetStatic, PutStatic, GetField, PutField, Invoke, New}
use Rattle.class_model.specs.declared.class.FieldDef.{FieldDef}
use Rattle.class_model.specs.declared.class.MethodDef.{MethodDef}
use Rattle.class_model.specs.declared.class.ClassDef.{ClassDef}
use Rattle.set_lookups.specs.Above.{same_name, find_class, above, reaches, is_subtype}
use Rattle.set_lookups.specs.First.{first, holds_of}
use Rattle.set_lookups.specs.Flags.{is_final, is_interface, is_inherited, is_abstract, is_private, is_static}
use Rattle.set_lookups.specs.Lookups.{Member, object_name, base_name, super_at, interfaces_at, supers, superinterfaces, resolve_field, resolve_method, method_at, field_at, select_by}
use Rattle.set_lookups.specs.Needed.{duplicate, needed, if_missing, missing}
use Rattle.set_lookups.specs.Cycle.{is_in_cycle, cycle}
use Rattle.set_lookups.proofs.Lists.{any_alike, first_alike}
use Rattle.class_set.specs.FinalSuper.{classes_at, methods_at, is_kept, classes_above, overrides_final, has_final_super, final_super}
use Rattle.class_set.specs.Core.{init_name, clinit_name, throwable_name, string_name, is_object, is_string, is_throwable, is_thrown, thrown_names, if_wrong, core}
use Rattle.class_set.specs.References.{class_insns, insn_text, field_text, method_text, if_unresolved, unresolved}
use Rattle.class_set.specs.Calls.{finds_field, named_class, is_class, is_special, is_static_call, is_selected_call, is_init, is_wrong_reference, lacks_body, select_above, is_wrong_special, is_init_of_another, is_wrong_method, is_wrong_target, is_wrong_call, is_wrong, if_wrong_kind, wrong_kind}
use Rattle.class_set.specs.Open.{is_open, is_concrete, leaves_open, abstract_left}
use Rattle.class_set.specs.Closed.{Closed}
use Rattle.first_form_laws.proofs.Along.{flat_kept, flat_along, any_along, first_along, then_kept, holds_along, none_along}
use Rattle.first_form_laws.proofs.Firsts.{none_kept, no_class_kept, along_joined}
use Rattle.first_form_laws.proofs.Renumbered.{Renumbered, moved, super_moved, interfaces_moved, above_moved, reaches_moved, subtype_moved, supers_moved, all_above_moved, resolve_field_moved, named_moved, resolve_method_moved, selected_moved, method_kept, field_kept}

held : {A : Type 0} (f g : A → Bool) → ((x : A) → g x ≡ f x) → (o : Option A) → holds_of g o ≡ holds_of f o
held f g same None = refl
held f g same (Some x) = same x

module _ {old new : List ClassDef} {to : ℕ → ℕ} (r : Renumbered old new to) where
  -- ---- missing, cycle

  missing_same : (name : List ℕ) → if_missing new name ≡ if_missing old name
  missing_same name = ap (λ b. cond b (Some name) None) (ap is_none (r.finds name) ∙ none_along to (find_class old name))

  present : missing new ≡ None → missing old ≡ None
  unfolding missing
  present h =
      along_joined (if_missing old) needed 0 old
      ∙ none_kept r (λ number class. first (if_missing old) (needed class)) (λ number class. first (if_missing new) (needed class)) (λ number class. first_alike (if_missing new) (if_missing old) (needed class) (λ k name at. missing_same name))
      (sym (along_joined (if_missing new) needed 0 new) ∙ h)

  cycle_same : (number : ℕ) (class : ClassDef) → is_in_cycle new (to number) class ≡ is_in_cycle old number class
  cycle_same number class =
      (λ i. list_any (λ higher. reaches (r.as_many i) new higher (to number)) (above_moved r number i))
      ∙ any_along to (λ higher. reaches (length old) new higher (to number)) (λ higher. reaches (length old) old higher number) (λ higher. reaches_moved r (length old) higher number) (above old number)

  acyclic : cycle new ≡ None → cycle old ≡ None
  unfolding cycle
  acyclic = no_class_kept r (is_in_cycle old) (is_in_cycle new) cycle_same

  -- ---- final superclasses

  classes_kept : (numbers : List ℕ) → classes_at new (map to numbers) ≡ classes_at old numbers
  classes_kept = flat_kept to (λ number. option_to_list (slice_get new number)) (λ number. option_to_list (slice_get old number)) (λ number. ap option_to_list (r.gets number))

  methods_kept : (higher numbers : List ℕ) → higher ≡ map to numbers → methods_at new higher ≡ methods_at old numbers
  methods_kept higher numbers e = ap (methods_at new) e ∙ ap (flat_map (λ (class : ClassDef). class.methods)) (classes_kept numbers)

  classes_above_moved : (number : ℕ) → classes_above new (to number) ≡ map to (classes_above old number)
  classes_above_moved number = ap (flat_map (supers new)) (super_moved r number) ∙ flat_along to to (supers new) (supers old) (supers_moved r) (super_at old number)

  overrides_same : (number : ℕ) (method : MethodDef) → overrides_final new (to number) method ≡ overrides_final old number method
  overrides_same number method = ap (λ methods. is_inherited method && list_any (is_kept method) methods) (methods_kept (classes_above new (to number)) (classes_above old number) (classes_above_moved number))

  final_same : (number : ℕ) (class : ClassDef) → has_final_super new (to number) class ≡ has_final_super old number class
  final_same number class =
      let supers_at : classes_at new (super_at new (to number)) ≡ classes_at old (super_at old number) = ap (classes_at new) (super_moved r number) ∙ classes_kept (super_at old number) in
      let interfaces : classes_at new (interfaces_at new (to number)) ≡ classes_at old (interfaces_at old number) = ap (classes_at new) (interfaces_moved r number) ∙ classes_kept (interfaces_at old number) in
      let overrides : list_any (overrides_final new (to number)) class.methods ≡ list_any (overrides_final old number) class.methods = any_alike (overrides_final new (to number)) (overrides_final old number) class.methods (λ k method at. overrides_same number method) in
      λ i. list_any (λ higher. is_final higher.flags || is_interface higher) (supers_at i) || (list_any (λ higher. not (is_interface higher)) (interfaces i) || overrides i)

  extendable : final_super new ≡ None → final_super old ≡ None
  unfolding final_super
  extendable = no_class_kept r (has_final_super old) (has_final_super new) final_same

  -- ---- core classes

  shape_at : (f g : ℕ → ClassDef → Bool) → ((number : ℕ) (class : ClassDef) → g (to number) class ≡ f number class) → (number : ℕ) → holds_of (g (to number)) (slice_get new (to number)) ≡ holds_of (f number) (slice_get old number)
  shape_at f g same number = ap (holds_of (g (to number))) (r.gets number) ∙ held (f number) (g (to number)) (same number) (slice_get old number)

  shape_same : (f g : ℕ → ClassDef → Bool) → ((number : ℕ) (class : ClassDef) → g (to number) class ≡ f number class) → (name : List ℕ) → if_wrong new g name ≡ if_wrong old f name
  shape_same f g same name =
      ap (λ b. cond b None (Some name))
      (ap (holds_of (λ number. holds_of (g number) (slice_get new number))) (r.finds name)
      ∙ holds_along to (λ number. holds_of (g number) (slice_get new number)) (λ number. holds_of (f number) (slice_get old number)) (shape_at f g same) (find_class old name))

  below_same : (number : ℕ) (name : List ℕ) → holds_of (is_subtype new (to number)) (find_class new name) ≡ holds_of (is_subtype old number) (find_class old name)
  below_same number name = ap (holds_of (is_subtype new (to number))) (r.finds name) ∙ holds_along to (is_subtype new (to number)) (is_subtype old number) (subtype_moved r number) (find_class old name)

  thrown_same : (number : ℕ) (class : ClassDef) → is_thrown new (to number) class ≡ is_thrown old number class
  thrown_same number class = ap (λ b. not (is_interface class) && not (is_abstract class.flags) && b) (below_same number throwable_name)

  plain_same : (shape : ClassDef → Bool) (name : List ℕ) → if_wrong new (λ number. shape) name ≡ if_wrong old (λ number. shape) name
  plain_same shape = shape_same (λ number. shape) (λ number. shape) (λ number class. refl)

  core_same : core new ≡ core old
  unfolding core
  core_same =
      let thrown = first_alike (if_wrong new (is_thrown new)) (if_wrong old (is_thrown old)) thrown_names (λ k name at. shape_same (is_thrown old) (is_thrown new) thrown_same name) in
      λ i. option_or (plain_same is_object object_name i) (option_or (plain_same is_string string_name i) (option_or (plain_same is_throwable throwable_name i) (thrown i)))

  -- ---- references that do not resolve

  field_lacks : (target : FieldRef) (text : List ℕ) → cond (is_none (resolve_field new target)) (Some text) None ≡ cond (is_none (resolve_field old target)) (Some text) None
  field_lacks target text = ap (λ b. cond b (Some text) None) (ap is_none (resolve_field_moved r target) ∙ none_along (moved to) (resolve_field old target))

  method_lacks : (target : MethodRef) (text : List ℕ) → cond (is_none (resolve_method new target)) (Some text) None ≡ cond (is_none (resolve_method old target)) (Some text) None
  method_lacks target text = ap (λ b. cond b (Some text) None) (ap is_none (resolve_method_moved r target) ∙ none_along (moved to) (resolve_method old target))

  unresolved_same : (insn : Insn) → if_unresolved new insn ≡ if_unresolved old insn
  unfolding if_unresolved
  unresolved_same (GetStatic field) = field_lacks field (field_text field)
  unresolved_same (PutStatic field) = field_lacks field (field_text field)
  unresolved_same (GetField field) = field_lacks field (field_text field)
  unresolved_same (PutField field) = field_lacks field (field_text field)
  unresolved_same (Invoke kind method) = method_lacks method (method_text method)
  unresolved_same _ = refl

  resolved : unresolved new ≡ None → unresolved old ≡ None
  unfolding unresolved
  resolved = none_kept r (λ number class. first (if_unresolved old) (class_insns class)) (λ number class. first (if_unresolved new) (class_insns class)) (λ number class. first_alike (if_unresolved new) (if_unresolved old) (class_insns class) (λ k insn at. unresolved_same insn))

  -- ---- members of the wrong kind

  field_found : (target : FieldRef) (test : FieldDef → Bool) → finds_field new target test ≡ finds_field old target test
  field_found target test = ap (holds_of test) (ap (option_and_then (field_at new)) (resolve_field_moved r target) ∙ then_kept (moved to) (field_at new) (field_at old) (field_kept r) (resolve_field old target))

  named_at : (direct : Bool) (name : Option (List ℕ)) → cond direct (option_and_then (find_class new) name) None ≡ option_map to (cond direct (option_and_then (find_class old) name) None)
  named_at true name = named_moved r name
  named_at false name = refl

  named_class_moved : (ty : JType) → named_class new ty ≡ option_map to (named_class old ty)
  named_class_moved ty = named_at (ty.depth == 0) (base_name ty.base)

  class_kept : (test : ClassDef → Bool) (there here : Option ℕ) → there ≡ option_map to here → is_class new test there ≡ is_class old test here
  class_kept test there here e = ap (holds_of test) (ap (option_and_then (slice_get new)) e ∙ then_kept to (slice_get new) (slice_get old) r.gets here)

  reference_same : (kind : InvokeKind) (target : MethodRef) → is_wrong_reference new kind target ≡ is_wrong_reference old kind target
  reference_same kind target =
      ap (λ b. same_name target.name clinit_name || ((is_init target && not (is_special kind)) || (if target.in_interface then not (is_selected_call kind) || not b else b)))
      (class_kept is_interface (named_class new target.class) (named_class old target.class) (named_class_moved target.class))

  body_same : (o : Option Member) → lacks_body new (option_map (moved to) o) ≡ lacks_body old o
  body_same None = refl
  body_same (Some member) = ap (holds_of (λ method. is_abstract method.flags)) (method_kept r member)

  select_above_moved : (current : ℕ) (target : MethodRef) → select_above new (to current) target ≡ option_map (moved to) (select_above old current target)
  select_above_moved current target =
      ap (first (select_by new target.name target.desc)) (super_moved r current)
      ∙ first_along to (moved to) (select_by new target.name target.desc) (select_by old target.name target.desc) (selected_moved r target.name target.desc) (super_at old current)

  named_below : (current : ℕ) (ty : JType) → holds_of (is_subtype new (to current)) (named_class new ty) ≡ holds_of (is_subtype old current) (named_class old ty)
  named_below current ty = ap (holds_of (is_subtype new (to current))) (named_class_moved ty) ∙ holds_along to (is_subtype new (to current)) (is_subtype old current) (subtype_moved r current) (named_class old ty)

  special_same : (current : ℕ) (target : MethodRef) (member : Member) (method : MethodDef) → is_wrong_special new (to current) target (moved to member) method ≡ is_wrong_special old current target member method
  special_same current target member method =
      let below = named_below current target.class in
      let body : lacks_body new (select_above new (to current) target) ≡ lacks_body old (select_above old current target) = ap (lacks_body new) (select_above_moved current target) ∙ body_same (select_above old current target) in
      λ i. is_abstract method.flags || (not (below i) || (not (r.apart member.class current i) && (is_private method.flags || body i)))

  another_same : (target : MethodRef) (member : Member) → is_init_of_another new target (moved to member) ≡ is_init_of_another old target member
  another_same target member =
      ap (λ b. is_init target && not b)
      (ap (holds_of (λ named. named == to member.class)) (named_class_moved target.class)
      ∙ holds_along to (λ named. named == to member.class) (λ named. named == member.class) (λ named. r.apart named member.class) (named_class old target.class))

  wrong_method_same : (current : ℕ) (kind : InvokeKind) (target : MethodRef) (member : Member) (method : MethodDef) → is_wrong_method new (to current) kind target (moved to member) method ≡ is_wrong_method old current kind target member method
  wrong_method_same current kind target member method =
      let another = another_same target member in
      let special = special_same current target member method in
      λ i. (if is_static_call kind then not (is_static method.flags) else is_static method.flags)
      || ((is_selected_call kind && is_private method.flags) || (another i || (is_special kind && (not (is_init target) && special i))))

  target_same : (current : ℕ) (kind : InvokeKind) (target : MethodRef) (member : Member) → is_wrong_target new (to current) kind target (moved to member) ≡ is_wrong_target old current kind target member
  target_same current kind target member =
      ap (holds_of (is_wrong_method new (to current) kind target (moved to member))) (method_kept r member)
      ∙ held (is_wrong_method old current kind target member) (is_wrong_method new (to current) kind target (moved to member)) (wrong_method_same current kind target member) (method_at old member)

  call_same : (current : ℕ) (kind : InvokeKind) (target : MethodRef) → is_wrong_call new (to current) kind target ≡ is_wrong_call old current kind target
  call_same current kind target =
      let made : holds_of (is_wrong_target new (to current) kind target) (resolve_method new target) ≡ holds_of (is_wrong_target old current kind target) (resolve_method old target) =
      ap (holds_of (is_wrong_target new (to current) kind target)) (resolve_method_moved r target)
      ∙ holds_along (moved to) (is_wrong_target new (to current) kind target) (is_wrong_target old current kind target) (target_same current kind target) (resolve_method old target)
      in
      λ i. reference_same kind target i || made i

  wrong_same : (current : ℕ) (insn : Insn) → is_wrong new (to current) insn ≡ is_wrong old current insn
  unfolding is_wrong
  wrong_same current (GetStatic field) = field_found field (λ found. not (is_static found.flags))
  wrong_same current (PutStatic field) = field_found field (λ found. not (is_static found.flags) || is_some found.constant)
  wrong_same current (GetField field) = field_found field (λ found. is_static found.flags)
  wrong_same current (PutField field) = field_found field (λ found. is_static found.flags)
  wrong_same current (Invoke kind target) = call_same current kind target
  wrong_same current (New name) = class_kept (λ class. is_abstract class.flags || is_interface class) (find_class new name) (find_class old name) (r.finds name)
  wrong_same current _ = refl

  of_right_kind : wrong_kind new ≡ None → wrong_kind old ≡ None
  unfolding wrong_kind
  of_right_kind =
      none_kept r (λ number class. first (if_wrong_kind old number) (class_insns class)) (λ number class. first (if_wrong_kind new number) (class_insns class))
      (λ number class. first_alike (if_wrong_kind new (to number)) (if_wrong_kind old number) (class_insns class) (λ k insn at. ap (λ b. cond b (Some (insn_text insn)) None) (wrong_same number insn)))

  -- ---- abstract methods

  open_same : (number : ℕ) (method : MethodDef) → is_open new (to number) method ≡ is_open old number method
  open_same number method =
      ap (λ b. is_inherited method && (not (same_name method.name init_name) && b))
      (ap (lacks_body new) (selected_moved r method.name method.desc number) ∙ body_same (select_by old method.name method.desc number))

  leaves_same : (number : ℕ) (class : ClassDef) → leaves_open new (to number) class ≡ leaves_open old number class
  leaves_same number class =
      ap (λ b. is_concrete class && b)
      (ap (list_any (is_open new (to number))) (methods_kept (supers new (to number) ++ superinterfaces new (to number)) (supers old number ++ superinterfaces old number) (all_above_moved r number))
      ∙ any_alike (is_open new (to number)) (is_open old number) (methods_at old (supers old number ++ superinterfaces old number)) (λ k method at. open_same number method))

  implemented : abstract_left new ≡ None → abstract_left old ≡ None
  unfolding abstract_left
  implemented = no_class_kept r (leaves_open old) (leaves_open new) leaves_same

  pub closed_in_order : duplicate old ≡ None → Closed new → Closed old
  closed_in_order distinct closed = record {
    distinct = distinct;
    present = present closed.present;
    acyclic = acyclic closed.acyclic;
    extendable = extendable closed.extendable;
    core_classes = sym core_same ∙ closed.core_classes;
    resolved = resolved closed.resolved;
    of_right_kind = of_right_kind closed.of_right_kind;
    implemented = implemented closed.implemented;
  }
