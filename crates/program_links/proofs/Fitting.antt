-- The classes of a closed set by number and by name, and which type fits which.
use Rattle.std.proofs.Common.{◌≡◌, ◌∙◌, ℕ, ◌<◌, zero, suc, Bool, true, false, ◌||◌, cond, List, [], ◌∷◌, length, map, refl, sym, ap, Option, Some, None, arith}
use Rattle.std.specs.Prelude.{slice_get, option_map, unwrap_or}
use Rattle.std.specs.Option.{option_or}
use Rattle.std.proofs.lemmas.Bool.{false_from_ne_true}
use Rattle.std.proofs.lemmas.Option.{none-some, slice_get-map, slice_get_past}
use Rattle.class_model.specs.declared.types.BaseType.{BaseType}
use Rattle.class_model.specs.declared.types.BaseType.TheVariants as base
use Rattle.class_model.specs.declared.types.JType.{JType}
use Rattle.class_model.specs.declared.class.ClassDef.{ClassDef}
use Rattle.set_lookups.specs.Above.{same_name, find_class, is_subtype}
use Rattle.set_lookups.specs.First.{holds_of}
use Rattle.set_lookups.specs.SameTypes.{name_true}
use Rattle.set_lookups.specs.Lookups as look
use Rattle.class_set.specs.Core.{string_name, if_wrong, core, is_object, is_string, exceptions, thrown_names, thrown_wrong, is_thrown}
use Rattle.class_set.specs.Closed.{Closed}
use Rattle.run_state.specs.Texts.{class_type, same_text, object_name}
use Rattle.run_state.specs.SetLooks.{fits_in, fits_depth}
use Rattle.look_laws.specs.Shown.{is_among_above}
use Rattle.look_laws.proofs.Alike.{placed}
use Rattle.look_laws.proofs.Distinct.{found_itself}
use Rattle.look_laws.proofs.KnownNames.{object_named}
use Rattle.look_laws.proofs.Lineage.{classes_fit}
use Rattle.program_links.specs.RowTo.{type_of_class}
use Rattle.program_links.specs.WorldOf.{name_at, no_name}
use Rattle.program_links.proofs.Leads.{named}
use Rattle.program_links.proofs.PastTexts.{past_other}
use Rattle.program_links.proofs.ClosedReady.{none_along}

pub item_at : {A : Type 0} (xs : List A) (k : ℕ) → k < length xs → (x : A) × (slice_get xs k ≡ Some x)
item_at [] k lt = absurd (omega (arith, lt))
item_at (x ∷ xs) zero lt = (x, refl)
item_at (x ∷ xs) (suc k) lt = item_at xs k (omega (arith, lt))

-- a class that a name finds has the name
pub name_found : (set : List ClassDef) (name : List ℕ) (k : ℕ) → find_class set name ≡ Some k → name_at set k ≡ name
name_found set name k e =
    let p = placed (λ (class : ClassDef). same_name class.name name) set k e in
    named set k p.item p.at ∙ name_true p.item.name name p.passes

pub found_at : (set : List ClassDef) (k : ℕ) → Closed set → k < length set → find_class set (name_at set k) ≡ Some k
found_at set k closed lt =
    let class = item_at set k lt in
    ap (find_class set) (named set k class.0 class.1) ∙ found_itself set k class.0 closed.distinct class.1

-- the name past the last class is that of none
none_by : (set : List ClassDef) (found : Option ℕ) → find_class set (no_name set) ≡ found → found ≡ None
none_by set None e = refl
none_by set (Some k) e =
    let p = placed (λ (class : ClassDef). same_name class.name (no_name set)) set k e in
    absurd (past_other (map (λ (class : ClassDef). class.name) set) k p.item.name
    (slice_get-map (λ (class : ClassDef). class.name) set k ∙ ap (option_map (λ (class : ClassDef). class.name)) p.at) (name_true p.item.name (no_name set) p.passes))

pub not_there : (set : List ClassDef) → find_class set (no_name set) ≡ None
not_there set = none_by set (find_class set (no_name set)) refl

pub name_past : (set : List ClassDef) (k : ℕ) → length set ≡ k → name_at set k ≡ no_name set
name_past set k e =
    ap (λ (found : Option (List ℕ)). unwrap_or found (no_name set))
    (slice_get-map (λ (class : ClassDef). class.name) set k ∙ ap (option_map (λ (class : ClassDef). class.name)) (slice_get_past set k (omega (arith, e))))

-- the core classes are there
there_by : (test : ℕ → Bool) (found : Option ℕ) (name : List ℕ) → cond (holds_of test found) None (Some name) ≡ None → (k : ℕ) × (found ≡ Some k)
there_by test None name h = absurd (none-some name (sym h))
there_by test (Some k) name h = (k, refl)

core_parts : {A : Type 0} (a b : Option A) → option_or a b ≡ None → (a ≡ None) × (b ≡ None)
core_parts None b h = (refl, h)
core_parts (Some x) b h = absurd cc

abbrev pub IsThere : List ClassDef → List ℕ → Type 0
IsThere set name = (k : ℕ) × (find_class set name ≡ Some k)

pub object_there : (set : List ClassDef) → Closed set → IsThere set look.object_name
unfolding core
object_there set closed =
    there_by (λ number. holds_of (λ class. is_object class) (slice_get set number)) (find_class set look.object_name) look.object_name
    (core_parts (if_wrong set (λ number. is_object) look.object_name) _ closed.core_classes).0

pub string_there : (set : List ClassDef) → Closed set → IsThere set string_name
unfolding core
string_there set closed =
    there_by (λ number. holds_of (λ class. is_string class) (slice_get set number)) (find_class set string_name) string_name
    (core_parts (if_wrong set (λ number. is_string) string_name) (exceptions set) (core_parts (if_wrong set (λ number. is_object) look.object_name) _ closed.core_classes).1).0

pub thrown_there : (set : List ClassDef) (k : ℕ) (name : List ℕ) → Closed set → slice_get thrown_names k ≡ Some name → IsThere set name
unfolding core
thrown_there set k name closed at =
    let rest = (core_parts (if_wrong set (λ number. is_object) look.object_name) _ closed.core_classes).1 in
    let more = (core_parts (if_wrong set (λ number. is_string) string_name) (exceptions set) rest).1 in
    let thrown : thrown_wrong set thrown_names ≡ None = (core_parts _ (thrown_wrong set thrown_names) more).1 in
    there_by (λ number. holds_of (is_thrown set number) (slice_get set number)) (find_class set name) name (none_along (if_wrong set (is_thrown set)) thrown_names k name thrown at)

-- the name past the last class is not that of `java/lang/Object`
pub past_no_object : (set : List ClassDef) → Closed set → same_text (no_name set) object_name ≡ false
past_no_object set closed =
    let object = object_there set closed in
    false_from_ne_true (same_text (no_name set) object_name) (λ t.
    none-some object.0 (sym (sym object.1 ∙ ap (find_class set) object_named ∙ ap (find_class set) (sym (name_true (no_name set) object_name t)) ∙ not_there set)))

-- of classes
pub numbers_fit : (set : List ClassDef) (low high : ℕ) (class : ClassDef) → Closed set → low < length set → slice_get set high ≡ Some class → holds_of (λ c. fits_in set (class_type (name_at set low)) (type_of_class c)) (slice_get set high) ≡ (is_subtype set low high || same_text class.name object_name)
numbers_fit set low high class closed lt at =
    ap (holds_of (λ c. fits_in set (class_type (name_at set low)) (type_of_class c))) at
    ∙ classes_fit set closed.acyclic (name_at set low) class.name
    ∙ ap (λ found. is_among_above set found (find_class set class.name) || same_text class.name object_name) (found_at set low closed lt)
    ∙ ap (λ found. is_among_above set (Some low) found || same_text class.name object_name) (found_itself set high class closed.distinct at)

or_left : (a b : Bool) → a ≡ true → (a || b) ≡ a
or_left true b h = refl
or_left false b h = absurd cc

or_right : (a b : Bool) → a ≡ false → (a || b) ≡ b
or_right false b h = refl
or_right true b h = absurd cc

pub below_fits : (set : List ClassDef) (low high : ℕ) (class : ClassDef) (below : Bool) → Closed set → low < length set → slice_get set high ≡ Some class → below ≡ is_subtype set low high → below ≡ true → holds_of (λ c. fits_in set (class_type (name_at set low)) (type_of_class c)) (slice_get set high) ≡ below
below_fits set low high class below closed lt at e t =
    numbers_fit set low high class closed lt at ∙ or_left (is_subtype set low high) (same_text class.name object_name) (sym e ∙ t) ∙ sym e

pub other_fits : (set : List ClassDef) (low high : ℕ) (class : ClassDef) (below object : Bool) → Closed set → low < length set → slice_get set high ≡ Some class → below ≡ is_subtype set low high → below ≡ false → object ≡ same_text class.name object_name → holds_of (λ c. fits_in set (class_type (name_at set low)) (type_of_class c)) (slice_get set high) ≡ object
other_fits set low high class below object closed lt at e f o =
    numbers_fit set low high class closed lt at ∙ or_right (is_subtype set low high) (same_text class.name object_name) (sym e ∙ f) ∙ sym o

pub nothing_fits : (set : List ClassDef) (high : ℕ) (class : ClassDef) → Closed set → slice_get set high ≡ Some class → holds_of (λ c. fits_in set (class_type (no_name set)) (type_of_class c)) (slice_get set high) ≡ same_text class.name object_name
nothing_fits set high class closed at =
    ap (holds_of (λ c. fits_in set (class_type (no_name set)) (type_of_class c))) at
    ∙ classes_fit set closed.acyclic (no_name set) class.name
    ∙ ap (λ found. is_among_above set found (find_class set class.name) || same_text class.name object_name) (not_there set)

-- nothing fits the type past the last
none_above : (set : List ClassDef) (low : Option ℕ) → is_among_above set low None ≡ false
none_above set None = refl
none_above set (Some low) = refl

past_by : (set : List ClassDef) → Closed set → (depth : ℕ) (of : BaseType) → fits_depth set depth of 0 (base.Class (no_name set)) ≡ false
past_by set closed zero (base.Primitive p) = refl
past_by set closed zero (base.Class name) =
    classes_fit set closed.acyclic name (no_name set)
    ∙ ap (λ found. is_among_above set (find_class set name) found || same_text (no_name set) object_name) (not_there set)
    ∙ ap (λ above. above || same_text (no_name set) object_name) (none_above set (find_class set name))
    ∙ past_no_object set closed
past_by set closed (suc depth) of = past_no_object set closed

pub fits_past : (set : List ClassDef) (ty : JType) → Closed set → fits_in set ty (class_type (no_name set)) ≡ false
fits_past set ty closed = past_by set closed ty.depth ty.base
