-- The places of the fields that code names.
use Rattle.std.proofs.Common.{◌≡◌, ◌∙◌, ℕ, ◌+◌, ◌<◌, true, false, List, length, take, filter, sym, ap, subst, Some, arith}
use Rattle.std.specs.Prelude.{slice_get}
use Rattle.std.proofs.lemmas.Option.{same_Some, slice_get_within}
use Rattle.class_model.specs.declared.types.FieldRef.{FieldRef}
use Rattle.class_model.specs.declared.class.FieldDef.{FieldDef}
use Rattle.class_model.specs.declared.class.ClassDef.{ClassDef}
use Rattle.set_lookups.specs.Lookups.{member_of}
use Rattle.class_set.specs.Closed.{Closed}
use Rattle.run_state.specs.SetLooks.{text_of, field_place}
use Rattle.look_laws.specs.Shown.{is_of_class, is_of_object, count_before, statics_before, layout_above}
use Rattle.look_laws.proofs.Statics.{static_found}
use Rattle.look_laws.proofs.Layouts.{place_found}
use Rattle.program_links.specs.declared.before.Before.{Before}
use Rattle.program_links.specs.Before.{IsBefore, AreBefore}
use Rattle.program_links.specs.Found.{IsFound}
use Rattle.program_links.specs.LinkedTo.{StaticTo}

pub row_within : (set : List ClassDef) (rows : List Before) (number : ℕ) (class : ClassDef) → AreBefore set rows (length set) → slice_get set number ≡ Some class → number < length rows
row_within set rows number class are e = let has = are number class (slice_get_within set number class e) e in slice_get_within rows number has.row has.at

row_is : (set : List ClassDef) (rows : List Before) (number : ℕ) (class : ClassDef) (row : Before) → AreBefore set rows (length set) → slice_get set number ≡ Some class → slice_get rows number ≡ Some row → IsBefore set number class row
row_is set rows number class row are e at =
    let has = are number class (slice_get_within set number class e) e in
    subst (IsBefore set number class) (same_Some has.row row (sym has.at ∙ at)) has.is

pub static_linked : (set : List ClassDef) (rows : List Before) (ref : FieldRef) (number index : ℕ) (class : ClassDef) (field : FieldDef) (row : Before) (own place : ℕ) → Closed set → AreBefore set rows (length set) → IsFound set ref true number index class field → slice_get rows number ≡ Some row → own ≡ length (filter is_of_class (take index class.fields)) → place ≡ row.statics + own → StaticTo set ref number place (text_of field.constant)
static_linked set rows ref number index class field row own place closed are found at count e =
    let is = row_is set rows number class row are found.there at in
    let p : length (statics_before set number) + count_before is_of_class index class ≡ place = omega (arith, e, count, is.statics) in
    record {
      of = class;
      there = found.there;
      found = static_found set ref (member_of number index) class field closed.acyclic closed.distinct found.resolves found.there found.at found.kind ∙ ap (λ n. Some (record { class = class.name; place = n; text = text_of field.constant })) p;
    }

pub place_linked : (set : List ClassDef) (rows : List Before) (ref : FieldRef) (number index : ℕ) (class : ClassDef) (field : FieldDef) (row : Before) (own place : ℕ) → Closed set → AreBefore set rows (length set) → IsFound set ref false number index class field → slice_get rows number ≡ Some row → own ≡ length (filter is_of_object (take index class.fields)) → place ≡ row.fields + own → field_place set ref ≡ Some place
place_linked set rows ref number index class field row own place closed are found at count e =
    let is = row_is set rows number class row are found.there at in
    let p : length (layout_above set class) + count_before is_of_object index class ≡ place = omega (arith, e, count, is.fields) in
    place_found set ref (member_of number index) class field closed.acyclic closed.distinct found.resolves found.there found.at found.kind ∙ ap Some p
