-- A set in another order: what is looked up there is the same, by other numbers.
use Rattle.std.proofs.Common.{◌≡◌, ◌∙◌, ℕ, zero, suc, Bool, ◌||◌, List, ◌∷◌, ◌++◌, map, length, refl, sym, ap, Option, Some, None}
use Rattle.std.specs.Prelude.{◌==◌, slice_get, flat_map, position, option_map, option_and_then, option_to_list}
use Rattle.std.specs.List.{list_any}
use Rattle.std.proofs.lemmas.List.{map-append}
use Rattle.class_model.specs.declared.types.MethodDesc.{MethodDesc}
use Rattle.class_model.specs.declared.types.FieldRef.{FieldRef}
use Rattle.class_model.specs.declared.types.MethodRef.{MethodRef}
use Rattle.class_model.specs.declared.class.MethodDef.{MethodDef}
use Rattle.class_model.specs.declared.class.ClassDef.{ClassDef}
use Rattle.set_lookups.specs.Above.{find_class, super_of, interfaces_of, at_class, above, reaches, is_subtype}
use Rattle.set_lookups.specs.First.{first}
use Rattle.set_lookups.specs.Flags.{is_inherited}
use Rattle.set_lookups.specs.Lookups.{Member, member_of, has_field, field_here, declared_field, interfaces_at, super_at, field_from, resolve_field, has_method, method_here, declared, chain, supers, levels, superinterfaces, any_method, method_from, receiver_name, resolve_method, select_by, method_at, field_at}
use Rattle.first_form_laws.proofs.Along.{flat_along, any_along, or_along, first_along, then_along, filter_along}

-- the classes of one set in another order: each has a new number, under which its names are found
pub record Renumbered (old new : List ClassDef) (to : ℕ → ℕ) : Type 0 where
  pub as_many : length new ≡ length old
  pub gets : (number : ℕ) → slice_get new (to number) ≡ slice_get old number
  pub finds : (name : List ℕ) → find_class new name ≡ option_map to (find_class old name)
  pub apart : (a b : ℕ) → (to a == to b) ≡ (a == b)

-- a member under the new number of its class
abbrev pub moved : (ℕ → ℕ) → Member → Member
moved to member = record { class = to member.class; index = member.index }

module _ {old new : List ClassDef} {to : ℕ → ℕ} (r : Renumbered old new to) where
  super_of_moved : (class : ClassDef) → super_of new class ≡ map to (super_of old class)
  super_of_moved class = filter_along to (find_class new) (find_class old) r.finds (option_to_list class.super_name)

  interfaces_of_moved : (class : ClassDef) → interfaces_of new class ≡ map to (interfaces_of old class)
  interfaces_of_moved class = filter_along to (find_class new) (find_class old) r.finds class.interfaces

  above_of_moved : (class : ClassDef) → super_of new class ++ interfaces_of new class ≡ map to (super_of old class ++ interfaces_of old class)
  above_of_moved class = (λ i. super_of_moved class i ++ interfaces_of_moved class i) ∙ sym (map-append to (super_of old class) (interfaces_of old class))

  class_moved : (f g : ClassDef → List ℕ) → ((class : ClassDef) → f class ≡ map to (g class)) → (o : Option ClassDef) → at_class f o ≡ map to (at_class g o)
  class_moved f g h None = refl
  class_moved f g h (Some class) = h class

  pub super_moved : (number : ℕ) → super_at new (to number) ≡ map to (super_at old number)
  super_moved number = ap (at_class (super_of new)) (r.gets number) ∙ class_moved (super_of new) (super_of old) super_of_moved (slice_get old number)

  pub interfaces_moved : (number : ℕ) → interfaces_at new (to number) ≡ map to (interfaces_at old number)
  interfaces_moved number = ap (at_class (interfaces_of new)) (r.gets number) ∙ class_moved (interfaces_of new) (interfaces_of old) interfaces_of_moved (slice_get old number)

  pub above_moved : (number : ℕ) → above new (to number) ≡ map to (above old number)
  above_moved number =
      ap (at_class (λ class. super_of new class ++ interfaces_of new class)) (r.gets number)
      ∙ class_moved (λ class. super_of new class ++ interfaces_of new class) (λ class. super_of old class ++ interfaces_of old class) above_of_moved (slice_get old number)

  pub reaches_moved : (steps low high : ℕ) → reaches steps new (to low) (to high) ≡ reaches steps old low high
  reaches_moved zero low high = r.apart low high
  reaches_moved (suc steps) low high =
      (λ i. r.apart low high i || list_any (λ middle. reaches steps new middle (to high)) (above_moved low i))
      ∙ ap (λ b. (low == high) || b) (any_along to (λ middle. reaches steps new middle (to high)) (λ middle. reaches steps old middle high) (λ middle. reaches_moved steps middle high) (above old low))

  pub subtype_moved : (low high : ℕ) → is_subtype new (to low) (to high) ≡ is_subtype old low high
  unfolding is_subtype
  subtype_moved low high = ap (λ steps. reaches steps new (to low) (to high)) r.as_many ∙ reaches_moved (length old) low high

  chain_moved : (steps number : ℕ) → chain steps new (to number) ≡ map to (chain steps old number)
  unfolding chain
  chain_moved zero number = refl
  chain_moved (suc steps) number =
      ap (λ numbers. to number ∷ flat_map (chain steps new) numbers) (super_moved number)
      ∙ ap (λ numbers. to number ∷ numbers) (flat_along to to (chain steps new) (chain steps old) (chain_moved steps) (super_at old number))

  pub supers_moved : (number : ℕ) → supers new (to number) ≡ map to (supers old number)
  unfolding supers
  supers_moved number = ap (λ steps. chain steps new (to number)) r.as_many ∙ chain_moved (length old) number

  interfaces_over : (numbers : List ℕ) → flat_map (interfaces_at new) (map to numbers) ≡ map to (flat_map (interfaces_at old) numbers)
  interfaces_over = flat_along to to (interfaces_at new) (interfaces_at old) interfaces_moved

  levels_moved : (steps : ℕ) (numbers : List ℕ) → levels steps new (map to numbers) ≡ map to (levels steps old numbers)
  unfolding levels
  levels_moved zero numbers = refl
  levels_moved (suc steps) numbers =
      ap (λ more. map to numbers ++ levels steps new more) (interfaces_over numbers)
      ∙ ap (λ more. map to numbers ++ more) (levels_moved steps (flat_map (interfaces_at old) numbers))
      ∙ sym (map-append to numbers (levels steps old (flat_map (interfaces_at old) numbers)))

  pub superinterfaces_moved : (number : ℕ) → superinterfaces new (to number) ≡ map to (superinterfaces old number)
  unfolding superinterfaces
  superinterfaces_moved number =
      (λ i. levels (r.as_many i) new (flat_map (interfaces_at new) (supers_moved number i)))
      ∙ ap (levels (length old) new) (interfaces_over (supers old number))
      ∙ levels_moved (length old) (flat_map (interfaces_at old) (supers old number))

  -- a class, its superclasses and its superinterfaces
  pub all_above_moved : (number : ℕ) → supers new (to number) ++ superinterfaces new (to number) ≡ map to (supers old number ++ superinterfaces old number)
  all_above_moved number = (λ i. supers_moved number i ++ superinterfaces_moved number i) ∙ sym (map-append to (supers old number) (superinterfaces old number))

  member_moved : (number : ℕ) (index : Option ℕ) → option_map (member_of (to number)) index ≡ option_map (moved to) (option_map (member_of number) index)
  member_moved number None = refl
  member_moved number (Some index) = refl

  field_here_moved : (target : FieldRef) (number : ℕ) (o : Option ClassDef) → field_here target (to number) o ≡ option_map (moved to) (field_here target number o)
  field_here_moved target number None = refl
  field_here_moved target number (Some class) = member_moved number (position (has_field target) class.fields)

  declared_field_moved : (target : FieldRef) (number : ℕ) → declared_field new target (to number) ≡ option_map (moved to) (declared_field old target number)
  declared_field_moved target number = ap (field_here target (to number)) (r.gets number) ∙ field_here_moved target number (slice_get old number)

  fields_over : (steps : ℕ) (target : FieldRef) → ((number : ℕ) → field_from steps new target (to number) ≡ option_map (moved to) (field_from steps old target number)) → (higher below : List ℕ) → higher ≡ map to below
      → first (field_from steps new target) higher ≡ option_map (moved to) (first (field_from steps old target) below)
  fields_over steps target h higher below e = ap (first (field_from steps new target)) e ∙ first_along to (moved to) (field_from steps new target) (field_from steps old target) h below

  field_moved : (steps : ℕ) (target : FieldRef) (number : ℕ) → field_from steps new target (to number) ≡ option_map (moved to) (field_from steps old target number)
  unfolding field_from
  field_moved zero target number = declared_field_moved target number
  field_moved (suc steps) target number =
      or_along (moved to) _ _ _ _ (declared_field_moved target number)
      (or_along (moved to) _ _ _ _ (fields_over steps target (field_moved steps target) _ _ (interfaces_moved number)) (fields_over steps target (field_moved steps target) _ _ (super_moved number)))

  pub resolve_field_moved : (target : FieldRef) → resolve_field new target ≡ option_map (moved to) (resolve_field old target)
  unfolding resolve_field
  resolve_field_moved target =
      (λ i. option_and_then (field_from (r.as_many i) new target) (r.finds target.class i))
      ∙ then_along to (moved to) (field_from (length old) new target) (field_from (length old) old target) (field_moved (length old) target) (find_class old target.class)

  method_here_moved : (name : List ℕ) (desc : MethodDesc) (test : MethodDef → Bool) (number : ℕ) (o : Option ClassDef) → method_here name desc test (to number) o ≡ option_map (moved to) (method_here name desc test number o)
  method_here_moved name desc test number None = refl
  method_here_moved name desc test number (Some class) = member_moved number (position (has_method name desc test) class.methods)

  declared_moved : (name : List ℕ) (desc : MethodDesc) (test : MethodDef → Bool) (number : ℕ) → declared new name desc test (to number) ≡ option_map (moved to) (declared old name desc test number)
  declared_moved name desc test number = ap (method_here name desc test (to number)) (r.gets number) ∙ method_here_moved name desc test number (slice_get old number)

  method_moved : (name : List ℕ) (desc : MethodDesc) (number : ℕ) → method_from new name desc (to number) ≡ option_map (moved to) (method_from old name desc number)
  unfolding method_from
  method_moved name desc number =
      ap (first (declared new name desc any_method)) (all_above_moved number)
      ∙ first_along to (moved to) (declared new name desc any_method) (declared old name desc any_method) (declared_moved name desc any_method) (supers old number ++ superinterfaces old number)

  pub named_moved : (name : Option (List ℕ)) → option_and_then (find_class new) name ≡ option_map to (option_and_then (find_class old) name)
  named_moved None = refl
  named_moved (Some name) = r.finds name

  pub resolve_method_moved : (target : MethodRef) → resolve_method new target ≡ option_map (moved to) (resolve_method old target)
  unfolding resolve_method
  resolve_method_moved target =
      ap (option_and_then (method_from new target.name target.desc)) (named_moved (receiver_name target.class))
      ∙ then_along to (moved to) (method_from new target.name target.desc) (method_from old target.name target.desc) (method_moved target.name target.desc) (option_and_then (find_class old) (receiver_name target.class))

  pub selected_moved : (name : List ℕ) (desc : MethodDesc) (number : ℕ) → select_by new name desc (to number) ≡ option_map (moved to) (select_by old name desc number)
  unfolding select_by
  selected_moved name desc number =
      ap (first (declared new name desc is_inherited)) (supers_moved number)
      ∙ first_along to (moved to) (declared new name desc is_inherited) (declared old name desc is_inherited) (declared_moved name desc is_inherited) (supers old number)

  pub method_kept : (member : Member) → method_at new (moved to member) ≡ method_at old member
  method_kept member = ap (option_and_then (λ class. slice_get class.methods member.index)) (r.gets member.class)

  pub field_kept : (member : Member) → field_at new (moved to member) ≡ field_at old member
  field_kept member = ap (option_and_then (λ class. slice_get class.fields member.index)) (r.gets member.class)
