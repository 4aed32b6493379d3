-- What fresh objects and the static fields hold is what the look-ups lay out.
use Rattle.std.proofs.Common.{◌≡◌, ◌∙◌, ℕ, ◌<◌, zero, suc, Bool, true, false, not, cond, List, [], ◌∷◌, ◌++◌, length, map, filter, reverse, refl, sym, ap, subst, Option, Some, None}
use Rattle.std.specs.Prelude.{slice_get, flat_map, option_to_list}
use Rattle.std.proofs.lemmas.Option.{same_Some, none-some}
use Rattle.std.proofs.lemmas.List.{map-append}
use Rattle.std.proofs.lemmas.Grind.{flat_map-append, reverse_onto}
use Rattle.class_model.specs.declared.types.FieldRef.{FieldRef}
use Rattle.class_model.specs.declared.class.FieldDef.{FieldDef}
use Rattle.class_model.specs.declared.class.ClassDef.{ClassDef}
use Rattle.set_lookups.specs.Above.{find_class}
use Rattle.set_lookups.specs.Lookups.{supers}
use Rattle.class_set.specs.Closed.{Closed}
use Rattle.run_state.specs.Words.{Word}
use Rattle.run_state.specs.Unwinding.{default_of}
use Rattle.run_state.specs.SetLooks.{is_static, reference_to, instance_fields, first_value, first_statics, layout}
use Rattle.look_laws.specs.Shown.{classes_of}
use Rattle.look_laws.proofs.Alike.{append_none}
use Rattle.look_laws.proofs.Superclasses.{superclasses_named}
use Rattle.program_links.specs.Upwards.{AreClasses}
use Rattle.program_links.specs.RowTo.{type_of_field}
use Rattle.program_links.specs.Cells.{cell_of, own_cells, cells_of, static_cell, statics_of}

module _ {T : Type 0} (none : T) where
  -- of a class
  pub class_cells : (set : List ClassDef) (number : ℕ) (class : ClassDef) → slice_get set number ≡ Some class → flat_map (cell_of none) class.fields ≡ cells_of none set number
  class_cells set number class e = ap (own_cells none) (sym e)

  shown : List FieldRef → List (Word T)
  shown fields = map (default_of none) (map type_of_field fields)

  shown_append : (xs ys : List FieldRef) → shown (xs ++ ys) ≡ shown xs ++ shown ys
  unfolding shown
  shown_append xs ys = ap (map (default_of none)) (map-append type_of_field xs ys) ∙ map-append (default_of none) (map type_of_field xs) (map type_of_field ys)

  field_by : (b : Bool) (class : ClassDef) (d : FieldDef) (fields : List FieldDef) → is_static d.flags ≡ b → shown (map (reference_to class) (filter (λ x. not (is_static x.flags)) fields)) ≡ flat_map (cell_of none) fields → shown (map (reference_to class) (filter (λ x. not (is_static x.flags)) (d ∷ fields))) ≡ cell_of none d ++ flat_map (cell_of none) fields
  unfolding shown
  field_by true class d fields e rest =
      ap (λ b. shown (map (reference_to class) (cond (not b) (d ∷ filter (λ x. not (is_static x.flags)) fields) (filter (λ x. not (is_static x.flags)) fields)))) e
      ∙ rest ∙ ap (λ b. cond b [] (default_of none d.ty ∷ []) ++ flat_map (cell_of none) fields) (sym e)
  field_by false class d fields e rest =
      ap (λ b. shown (map (reference_to class) (cond (not b) (d ∷ filter (λ x. not (is_static x.flags)) fields) (filter (λ x. not (is_static x.flags)) fields)))) e
      ∙ ap (λ cells. default_of none d.ty ∷ cells) rest ∙ ap (λ b. cond b [] (default_of none d.ty ∷ []) ++ flat_map (cell_of none) fields) (sym e)

  fields_are : (class : ClassDef) (fields : List FieldDef) → shown (map (reference_to class) (filter (λ x. not (is_static x.flags)) fields)) ≡ flat_map (cell_of none) fields
  unfolding shown
  fields_are class [] = refl
  fields_are class (d ∷ fields) = field_by (is_static d.flags) class d fields refl (fields_are class fields)

  -- along classes
  back : (set : List ClassDef) (numbers : List ℕ) → List FieldRef
  back set numbers = flat_map instance_fields (reverse (classes_of set numbers))

  back_by : (set : List ClassDef) (number : ℕ) (numbers : List ℕ) (found : Option ClassDef) → slice_get set number ≡ found → shown (back set numbers) ≡ flat_map (cells_of none set) (reverse numbers) → shown (flat_map instance_fields (reverse (option_to_list found ++ classes_of set numbers))) ≡ flat_map (cells_of none set) (reverse numbers) ++ own_cells none found
  unfolding back
  back_by set number numbers None e rest = rest ∙ sym (append_none (flat_map (cells_of none set) (reverse numbers)))
  back_by set number numbers (Some class) e rest =
      ap (λ classes. shown (flat_map instance_fields classes)) (reverse_onto (classes_of set numbers) class [])
      ∙ ap shown (flat_map-append instance_fields (reverse (classes_of set numbers)) (class ∷ []) ∙ ap (λ own. flat_map instance_fields (reverse (classes_of set numbers)) ++ own) (append_none (instance_fields class)))
      ∙ shown_append (flat_map instance_fields (reverse (classes_of set numbers))) (instance_fields class)
      ∙ ap (λ front. front ++ shown (instance_fields class)) rest
      ∙ ap (λ own. flat_map (cells_of none set) (reverse numbers) ++ own) (fields_are class class.fields)

  back_is : (set : List ClassDef) (numbers : List ℕ) → shown (back set numbers) ≡ flat_map (cells_of none set) (reverse numbers)
  unfolding back shown
  back_is set [] = refl
  back_is set (number ∷ numbers) =
      back_by set number numbers (slice_get set number) refl (back_is set numbers)
      ∙ sym (ap (flat_map (cells_of none set)) (reverse_onto numbers number []) ∙ flat_map-append (cells_of none set) (reverse numbers) (number ∷ [])
      ∙ ap (λ own. flat_map (cells_of none set) (reverse numbers) ++ own) (append_none (cells_of none set number)))

  pub fresh_is : (set : List ClassDef) (numbers : List ℕ) (name : List ℕ) (number : ℕ) (cells : List (Word T)) → Closed set → find_class set name ≡ Some number → numbers ≡ supers set number → cells ≡ flat_map (cells_of none set) (reverse numbers) → map (default_of none) (map type_of_field (layout set name)) ≡ cells
  unfolding shown back
  fresh_is set numbers name number cells closed found up e =
      ap (λ classes. shown (flat_map instance_fields (reverse classes)))
      (superclasses_named set closed.acyclic name
      ∙ ap (λ k. classes_of set (flat_map (supers set) (option_to_list k))) found
      ∙ ap (classes_of set) (append_none (supers set number) ∙ sym up))
      ∙ back_is set numbers ∙ sym e

  pub fresh_none : (set : List ClassDef) (name : List ℕ) → Closed set → find_class set name ≡ None → map (default_of none) (map type_of_field (layout set name)) ≡ []
  fresh_none set name closed gone =
      ap (λ classes. map (default_of none) (map type_of_field (flat_map instance_fields (reverse classes))))
      (superclasses_named set closed.acyclic name ∙ ap (λ k. classes_of set (flat_map (supers set) (option_to_list k))) gone)

  -- the static fields
  static_by : (b : Bool) (d : FieldDef) (fields : List FieldDef) → is_static d.flags ≡ b → map (λ x. first_value none x.ty x.constant) (filter (λ x. is_static x.flags) fields) ≡ flat_map (static_cell none) fields → map (λ x. first_value none x.ty x.constant) (filter (λ x. is_static x.flags) (d ∷ fields)) ≡ static_cell none d ++ flat_map (static_cell none) fields
  static_by true d fields e rest =
      ap (λ b. map (λ x. first_value none x.ty x.constant) (cond b (d ∷ filter (λ x. is_static x.flags) fields) (filter (λ x. is_static x.flags) fields))) e
      ∙ ap (λ cells. first_value none d.ty d.constant ∷ cells) rest ∙ ap (λ b. cond b (first_value none d.ty d.constant ∷ []) [] ++ flat_map (static_cell none) fields) (sym e)
  static_by false d fields e rest =
      ap (λ b. map (λ x. first_value none x.ty x.constant) (cond b (d ∷ filter (λ x. is_static x.flags) fields) (filter (λ x. is_static x.flags) fields))) e
      ∙ rest ∙ ap (λ b. cond b (first_value none d.ty d.constant ∷ []) [] ++ flat_map (static_cell none) fields) (sym e)

  of_class : (fields : List FieldDef) → map (λ x. first_value none x.ty x.constant) (filter (λ x. is_static x.flags) fields) ≡ flat_map (static_cell none) fields
  of_class [] = refl
  of_class (d ∷ fields) = static_by (is_static d.flags) d fields refl (of_class fields)

  pub statics_are : (set : List ClassDef) → first_statics none set ≡ flat_map (statics_of none) set
  statics_are [] = refl
  statics_are (class ∷ set) = ap (λ own. own ++ first_statics none set) (of_class class.fields) ∙ ap (λ rest. statics_of none class ++ rest) (statics_are set)

-- classes stay classes in the other order
at_end : (set : List ClassDef) (numbers : List ℕ) (x k n : ℕ) → AreClasses set numbers → x < length set → slice_get (numbers ++ x ∷ []) k ≡ Some n → n < length set
at_end set [] x zero n are lt e = subst (λ m. m < length set) (same_Some x n e) lt
at_end set [] x (suc k) n are lt e = absurd (none-some n e)
at_end set (y ∷ numbers) x zero n are lt e = are 0 n e
at_end set (y ∷ numbers) x (suc k) n are lt e = at_end set numbers x k n (λ j m at. are (suc j) m at) lt e

back_within : (set : List ClassDef) (numbers : List ℕ) (k n : ℕ) → AreClasses set numbers → slice_get (reverse numbers) k ≡ Some n → n < length set
back_within set [] k n are e = absurd (none-some n e)
back_within set (x ∷ numbers) k n are e = at_end set (reverse numbers) x k n (λ j m at. back_within set numbers j m (λ i y there. are (suc i) y there) at) (are 0 x refl) (ap (λ xs. slice_get xs k) (sym (reverse_onto numbers x [])) ∙ e)

pub classes_back : (set : List ClassDef) (numbers : List ℕ) → AreClasses set numbers → AreClasses set (reverse numbers)
classes_back set numbers are = λ k n e. back_within set numbers k n are e
