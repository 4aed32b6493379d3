-- Rows of classes.
use Rattle.std.proofs.Common.{◌≡◌, ◌∙◌, ℕ, ◌<◌, List, [], length, map, reverse, refl, sym, ap, subst, Option, Some, None, arith}
use Rattle.std.specs.Prelude.{slice_get, flat_map, option_map, option_and_then, option_to_list, unwrap_or}
use Rattle.std.proofs.lemmas.Option.{slice_get_past}
use Rattle.class_model.specs.declared.types.BaseType.TheVariants as base
use Rattle.class_model.specs.declared.types.JType.{JType}
use Rattle.class_model.specs.declared.class.ClassDef.{ClassDef}
use Rattle.set_lookups.specs.Above.{find_class}
use Rattle.set_lookups.specs.Lookups.{supers}
use Rattle.set_lookups.specs.Needed.{needed, one_name}
use Rattle.set_lookups.proofs.Lists.{at_left}
use Rattle.class_set.specs.Closed.{Closed}
use Rattle.run_state.specs.Texts.{class_type}
use Rattle.run_state.specs.References.{given}
use Rattle.run_state.specs.SetLooks.{super_of, fits_in}
use Rattle.linked_code.specs.declared.program.Selection.{Selection}
use Rattle.linked_code.specs.declared.program.LinkedClass.{LinkedClass}
use Rattle.look_laws.proofs.Alike.{class_of_number, no_class}
use Rattle.look_laws.proofs.Distinct.{found_itself}
use Rattle.program_links.specs.declared.class_rows.Parts.{Parts}
use Rattle.program_links.specs.Numbers.{Numbers, Grows}
use Rattle.program_links.specs.Each.{Numbered}
use Rattle.program_links.specs.Upwards.{super_found, AreClasses}
use Rattle.program_links.specs.Picked.{AllPicked}
use Rattle.program_links.specs.Cells.{cells_of}
use Rattle.program_links.specs.Starts.{start_of}
use Rattle.program_links.specs.Selects.{own_of}
use Rattle.program_links.specs.PartsTo.{AreParts}
use Rattle.program_links.specs.RowTo.{IsClassType, ClassTo, ClassRow, Selecting, type_of_class}
use Rattle.program_links.specs.WorldOf.{name_at, no_name, method_shown, type_shown}
use Rattle.program_links.proofs.Leads.{named}
use Rattle.program_links.proofs.ClosedReady.{in_flat}
use Rattle.program_links.proofs.CanLinked.{name_there}
use Rattle.program_links.proofs.Fitting.{name_found, found_at, not_there}
use Rattle.program_links.proofs.Started.{starting, starting_none}
use Rattle.program_links.proofs.Selected.{selecting, selecting_none}
use Rattle.program_links.proofs.Celled.{fresh_is, fresh_none}

-- the types of classes
pub type_is : (t : Numbers) (set : List ClassDef) (number n : ℕ) (class : ClassDef) → slice_get set number ≡ Some class → slice_get t.types n ≡ Some (record { depth = 0; base = base.Class class.name }) → IsClassType t set number n
type_is t set number n class e at = at ∙ ap (λ name. Some (class_type name)) (sym (named set number class e))

pub types_grow : (set : List ClassDef) (t s : Numbers) (types : List ℕ) (count : ℕ) → Grows t s → Numbered (IsClassType t set) types count → Numbered (IsClassType s set) types count
types_grow set t s types count g h = record { many = h.many; each = λ k n e. g.types n (class_type (name_at set k)) (h.each k n e) }

pub type_numbered : (set : List ClassDef) (t : Numbers) (n : ℕ) (ty : JType) → slice_get t.types n ≡ Some ty → ty ≡ type_shown set t n
type_numbered set t n ty e = sym (ap (λ found. unwrap_or found (class_type (no_name set))) e)

type_at : (set : List ClassDef) (t : Numbers) (name : List ℕ) (n : ℕ) → slice_get t.types n ≡ Some (class_type name) → class_type name ≡ type_shown set t n
type_at set t name n e = type_numbered set t n (class_type name) e

pub type_past : (set : List ClassDef) (t : Numbers) (n : ℕ) → n ≡ length t.types → class_type (no_name set) ≡ type_shown set t n
type_past set t n e = sym (ap (λ found. unwrap_or found (class_type (no_name set))) (slice_get_past t.types n (omega (arith, e))))

-- the superclass of a class is in the set
super_there : (set : List ClassDef) (number : ℕ) (class : ClassDef) (name : List ℕ) → Closed set → slice_get set number ≡ Some class → class.super_name ≡ Some name → (k : ℕ) × (find_class set name ≡ Some k)
super_there set number class name closed at e =
    let front = at_left (flat_map one_name (option_to_list class.super_name)) _ 0 name (ap (λ found. slice_get (flat_map one_name (option_to_list found)) 0) e) in
    let all = in_flat needed set number 0 class name at front in
    name_there set all.0 name closed all.1

above_by : (set : List ClassDef) (number : ℕ) (class : ClassDef) (name : Option (List ℕ)) → Closed set → slice_get set number ≡ Some class → class.super_name ≡ name → name ≡ option_map (name_at set) (option_and_then (find_class set) name)
above_by set number class None closed at e = refl
above_by set number class (Some name) closed at e =
    let k = super_there set number class name closed at e in
    ap Some (sym (name_found set name k.0 k.1)) ∙ ap (option_map (name_at set)) (sym k.1)

above_is : (set : List ClassDef) (number : ℕ) (class : ClassDef) (above : Option ℕ) → Closed set → slice_get set number ≡ Some class → super_found set class ≡ above → super_of set (name_at set number) ≡ option_map (name_at set) above
above_is set number class above closed at e =
    ap (super_of set) (named set number class at)
    ∙ ap (λ found. given found None (λ (c : ClassDef). c.super_name)) (class_of_number set class.name number (found_itself set number class closed.distinct at) ∙ at)
    ∙ above_by set number class class.super_name closed at refl
    ∙ ap (option_map (name_at set)) e

-- a row
pub row_is : {T : Type 0} (none : T) (set : List ClassDef) (t : Numbers) (parts : Parts) (number : ℕ) (class : ClassDef) (classes : List ℕ) (row : LinkedClass T) → Closed set → slice_get set number ≡ Some class → number < length set → AreParts set t parts → classes ≡ supers set number → AreClasses set classes → slice_get parts.types number ≡ Some row.ty → AllPicked (λ c. fits_in set (class_type (name_at set number)) (type_of_class c)) set row.fits → super_found set class ≡ row.above → row.fresh ≡ flat_map (cells_of none set) (reverse classes) → row.starts ≡ flat_map (start_of parts.starts) classes → row.selects ≡ flat_map (own_of parts.owns) classes → ClassRow none set t number row
row_is none set t parts number class classes row closed there lt are up within ty fits above fresh starts selects =
    let name = name_at set number in
    let found = found_at set number closed lt in
    record {
      ty = type_at set t name row.ty (are.types.each number row.ty ty);
      fits = fits;
      above = above_is set number class row.above closed there above;
      fresh = fresh_is none set classes name number row.fresh closed found up fresh;
      starts = starting set parts.starts classes name number row.starts closed found up within are.starts starts;
      selects = selecting set t parts.owns classes name number row.selects closed found up within are.owns selects;
    }

pub no_row : {T : Type 0} (none : T) (set : List ClassDef) (t : Numbers) (row : LinkedClass T) → Closed set → row.ty ≡ length t.types → AllPicked (λ c. fits_in set (class_type (no_name set)) (type_of_class c)) set row.fits → row.above ≡ None → row.fresh ≡ [] → row.starts ≡ [] → row.selects ≡ [] → ClassTo none set t (no_name set) row
no_row none set t row closed ty fits above fresh starts selects =
    let gone = not_there set in
    record {
      ty = type_past set t row.ty ty;
      fits = fits;
      above = ap (λ found. given found None (λ (c : ClassDef). c.super_name)) (no_class set (no_name set) gone) ∙ ap (option_map (name_at set)) (sym above);
      fresh = fresh_none none set (no_name set) closed gone ∙ sym fresh;
      starts = starting_none set (no_name set) closed gone ∙ ap (map (method_shown set)) (sym starts);
      selects = subst (λ (xs : List Selection). Selecting set t (no_name set) xs) (sym selects) (selecting_none set t (no_name set) closed gone);
    }
