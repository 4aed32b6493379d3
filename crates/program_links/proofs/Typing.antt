-- Rows of types.
use Rattle.std.proofs.Common.{◌≡◌, ◌∙◌, ℕ, ◌<◌, zero, suc, Bool, true, false, ◌&&◌, ◌||◌, ◌==◌, cond, ltb, eqb-true, eq-eqb, List, [], length, map, refl, sym, ap, subst, Option, Some, None, arith}
use Rattle.std.specs.Prelude.{slice_get, option_map, codes}
use Rattle.std.specs.List.{list_any}
use Rattle.std.specs.Str.{chars}
use Rattle.std.proofs.lemmas.Bool.{false_from_ne_true}
use Rattle.std.proofs.lemmas.Option.{same_Some, none-some, slice_get-map}
use Rattle.lists.specs.Texts.{units_of}
use Rattle.class_model.specs.declared.types.BaseType.{BaseType}
use Rattle.class_model.specs.declared.types.BaseType.TheVariants as base
use Rattle.class_model.specs.declared.types.JType.{JType}
use Rattle.class_model.specs.declared.class.ClassDef.{ClassDef}
use Rattle.set_lookups.specs.Above.{same_name, find_class, is_subtype}
use Rattle.set_lookups.specs.First.{holds_of}
use Rattle.set_lookups.specs.SameTypes.{name_true, name_self}
use Rattle.set_lookups.proofs.Subtypes.{passes}
use Rattle.class_set.specs.Closed.{Closed}
use Rattle.run_state.specs.Texts.{class_type, same_text, same_base, object_name}
use Rattle.run_state.specs.Unwinding.{name_of_base}
use Rattle.run_state.specs.SetLooks.{fits_base, fits_depth, fits_in}
use Rattle.linked_code.specs.declared.program.LinkedType.{LinkedType}
use Rattle.look_laws.specs.Shown.{is_among_above}
use Rattle.look_laws.proofs.Lineage.{classes_fit}
use Rattle.program_links.specs.Numbers.{Numbers}
use Rattle.program_links.specs.Each.{Numbered}
use Rattle.program_links.specs.RowTo.{BaseTo, BaseAt, TypeTo, TypeRow}
use Rattle.program_links.specs.WorldOf.{name_at, no_name}
use Rattle.program_links.proofs.PastTexts.{past_empty}
use Rattle.program_links.proofs.Fitting.{name_found, name_past, not_there}
use Rattle.program_links.proofs.Apart.{place_there}

-- a class without a name
pub empty_name : units_of (codes "") ≡ []
unfolding chars
empty_name = refl

pub named_nothing : (set : List ClassDef) (number : ℕ) → find_class set [] ≡ Some number → name_at set number ≡ []
named_nothing set number e = name_found set [] number e

mapped_by : (set : List ClassDef) (k : ℕ) (name : List ℕ) (found : Option ClassDef) → slice_get set k ≡ found → option_map (λ (class : ClassDef). class.name) found ≡ Some name → (class : ClassDef) × (slice_get set k ≡ Some class) × (class.name ≡ name)
mapped_by set k name None e h = absurd (none-some name h)
mapped_by set k name (Some class) e h = (class, e, same_Some class.name name h)

of_mapped : (set : List ClassDef) (k : ℕ) (name : List ℕ) → slice_get (map (λ (class : ClassDef). class.name) set) k ≡ Some name → (class : ClassDef) × (slice_get set k ≡ Some class) × (class.name ≡ name)
of_mapped set k name h = mapped_by set k name (slice_get set k) refl (sym (slice_get-map (λ (class : ClassDef). class.name) set k) ∙ h)

pub nothing_named : (set : List ClassDef) (number : ℕ) → find_class set [] ≡ None → number ≡ length set → name_at set number ≡ []
nothing_named set number e n =
    name_past set number (sym n)
    ∙ past_empty (map (λ (class : ClassDef). class.name) set) (false_from_ne_true (list_any (same_name []) (map (λ (class : ClassDef). class.name) set)) (λ t.
    let p = passes (same_name []) (map (λ (class : ClassDef). class.name) set) t in
    let named = name_true [] p.item p.passes in
    let class = of_mapped set p.place p.item p.at in
    let q = place_there (λ (c : ClassDef). same_name c.name []) set p.place class.0 class.1 (ap (λ name. same_name name []) (class.2 ∙ sym named) ∙ name_self []) in
    none-some q.0 (sym e ∙ q.1)))

-- the class of a type
pub base_at : (set : List ClassDef) (t : Numbers) (number n : ℕ) (key : JType) → slice_get t.types number ≡ Some key → BaseTo set key.base n → BaseAt set t number n
base_at set t number n key at is = λ ty e. subst (λ (k : JType). BaseTo set k.base n) (same_Some key ty (sym at ∙ e)) is

pub base_of : (set : List ClassDef) (t : Numbers) (bases : List ℕ) (number n : ℕ) (key : JType) → Numbered (BaseAt set t) bases (length t.types) → slice_get t.types number ≡ Some key → slice_get bases number ≡ Some n → BaseTo set key.base n
base_of set t bases number n key h at e = h.each number n e key at

pub base_named : (set : List ClassDef) (of : BaseType) (n : ℕ) → BaseTo set of n → name_of_base of ≡ name_at set n
base_named set (base.Primitive p) n is = sym is
base_named set (base.Class name) n is = sym (name_found set name n is)

-- of the same dimensions
pub bases_fit : (set : List ClassDef) (low high : List ℕ) (low_class high_class : ℕ) → Closed set → find_class set low ≡ Some low_class → find_class set high ≡ Some high_class → fits_base set (base.Class low) (base.Class high) ≡ (is_subtype set low_class high_class || same_text high object_name)
bases_fit set low high low_class high_class closed at there =
    classes_fit set closed.acyclic low high
    ∙ ap (λ found. is_among_above set found (find_class set high) || same_text high object_name) at
    ∙ ap (λ found. is_among_above set (Some low_class) found || same_text high object_name) there

-- of others
shallower : (set : List ClassDef) (depth wanted : ℕ) (low high : BaseType) → depth < wanted → fits_depth set depth low wanted high ≡ false
shallower set zero zero low high h = absurd (omega (arith, h))
shallower set zero (suc wanted) low high h = refl
shallower set (suc depth) zero low high h = absurd (omega (arith, h))
shallower set (suc depth) (suc wanted) low high h = shallower set depth wanted low high (omega (arith, h))

equal : (set : List ClassDef) (depth wanted : ℕ) (low high : BaseType) → depth ≡ wanted → fits_depth set depth low wanted high ≡ fits_base set low high
equal set zero zero low high h = refl
equal set zero (suc wanted) low high h = absurd (omega (arith, h))
equal set (suc depth) zero low high h = absurd (omega (arith, h))
equal set (suc depth) (suc wanted) low high h = equal set depth wanted low high (omega (arith, h))

deeper : (set : List ClassDef) (depth wanted : ℕ) (low high : BaseType) → wanted < depth → fits_depth set depth low wanted high ≡ same_base high (base.Class object_name)
deeper set zero zero low high h = absurd (omega (arith, h))
deeper set zero (suc wanted) low high h = absurd (omega (arith, h))
deeper set (suc depth) zero low high h = refl
deeper set (suc depth) (suc wanted) low high h = deeper set depth wanted low high (omega (arith, h))

pub where_shallower : (set : List ClassDef) (low high : JType) → low.depth < high.depth → fits_in set low high ≡ false
where_shallower set low high h = shallower set low.depth high.depth low.base high.base h

pub where_equal : (set : List ClassDef) (low high : JType) → low.depth ≡ high.depth → fits_in set low high ≡ fits_base set low.base high.base
where_equal set low high h = equal set low.depth high.depth low.base high.base h

pub where_deeper : (set : List ClassDef) (low high : JType) → high.depth < low.depth → fits_in set low high ≡ same_base high.base (base.Class object_name)
where_deeper set low high h = deeper set low.depth high.depth low.base high.base h

-- of a class that is not there
not_flat : (depth : ℕ) → (suc depth == 0) ≡ false
not_flat depth = grind arith

past_by : (set : List ClassDef) → Closed set → (depth : ℕ) (high : BaseType) → fits_depth set 0 (base.Class (no_name set)) depth high ≡ ((depth == 0) && same_base high (base.Class object_name))
past_by set closed zero (base.Primitive p) = refl
past_by set closed zero (base.Class name) =
    classes_fit set closed.acyclic (no_name set) name
    ∙ ap (λ found. is_among_above set found (find_class set name) || same_text name object_name) (not_there set)
past_by set closed (suc depth) high = ap (λ flat. flat && same_base high (base.Class object_name)) (sym (not_flat depth))

pub past_fits : (set : List ClassDef) (types : List JType) (number : ℕ) (high : JType) → Closed set → slice_get types number ≡ Some high → holds_of (fits_in set (class_type (no_name set))) (slice_get types number) ≡ ((high.depth == 0) && same_base high.base (base.Class object_name))
past_fits set types number high closed at = ap (holds_of (fits_in set (class_type (no_name set)))) at ∙ past_by set closed high.depth high.base

-- a row
pub row_is : {T : Type 0} (none : T) (set : List ClassDef) (t : Numbers) (number : ℕ) (key : JType) (row : LinkedType T) → slice_get t.types number ≡ Some key → TypeTo none set t key row → TypeRow none set t number row
row_is none set t number key row at is = λ ty e. subst (λ (k : JType). TypeTo none set t k row) (same_Some key ty (sym at ∙ e)) is

flat_fits : (flat b : Bool) → flat ≡ true → (flat && b) ≡ b
flat_fits true b h = refl
flat_fits false b h = absurd cc

flat_test : (depth : ℕ) → depth ≡ 0 → (depth == 0) ≡ true
flat_test depth h = eq-eqb depth 0 h

pub past_flat : (set : List ClassDef) (types : List JType) (number : ℕ) (high : JType) (object : Bool) → Closed set → slice_get types number ≡ Some high → high.depth ≡ 0 → object ≡ same_base high.base (base.Class object_name) → holds_of (fits_in set (class_type (no_name set))) (slice_get types number) ≡ object
past_flat set types number high object closed at flat o =
    past_fits set types number high closed at ∙ flat_fits (high.depth == 0) (same_base high.base (base.Class object_name)) (flat_test high.depth flat) ∙ sym o

deep_fits : (flat b : Bool) → flat ≡ false → (flat && b) ≡ false
deep_fits false b h = refl
deep_fits true b h = absurd cc

deep_test : (depth : ℕ) → (depth ≡ 0 → ⊥) → (depth == 0) ≡ false
deep_test depth h = false_from_ne_true (depth == 0) (λ t. h (eqb-true depth 0 t))

pub past_deep : (set : List ClassDef) (types : List JType) (number : ℕ) (high : JType) → Closed set → slice_get types number ≡ Some high → (high.depth ≡ 0 → ⊥) → holds_of (fits_in set (class_type (no_name set))) (slice_get types number) ≡ false
past_deep set types number high closed at deep =
    past_fits set types number high closed at ∙ deep_fits (high.depth == 0) (same_base high.base (base.Class object_name)) (deep_test high.depth deep)

-- of the same dimensions, by what they are
or_left : (a b : Bool) → a ≡ true → (a || b) ≡ a
or_left true b h = refl
or_left false b h = absurd cc

or_right : (a b : Bool) → a ≡ false → (a || b) ≡ b
or_right false b h = refl
or_right true b h = absurd cc

named_by : (set : List ClassDef) (of : BaseType) (name : List ℕ) (n : ℕ) → of ≡ base.Class name → BaseTo set of n → find_class set name ≡ Some n
named_by set of name n e is = subst (λ (b : BaseType). BaseTo set b n) e is

both_named : (set : List ClassDef) (low high : BaseType) (a b : List ℕ) (low_class high_class : ℕ) → Closed set → low ≡ base.Class a → high ≡ base.Class b → BaseTo set low low_class → BaseTo set high high_class → fits_base set low high ≡ (is_subtype set low_class high_class || same_text b object_name)
both_named set low high a b low_class high_class closed e f at there =
    ap (λ l. fits_base set l high) e ∙ ap (fits_base set (base.Class a)) f
    ∙ bases_fit set a b low_class high_class closed (named_by set low a low_class e at) (named_by set high b high_class f there)

pub names_below : (set : List ClassDef) (low high : BaseType) (a b : List ℕ) (low_class high_class : ℕ) (below : Bool) → Closed set → low ≡ base.Class a → high ≡ base.Class b → BaseTo set low low_class → BaseTo set high high_class → below ≡ is_subtype set low_class high_class → below ≡ true → fits_base set low high ≡ below
names_below set low high a b low_class high_class below closed e f at there is t =
    both_named set low high a b low_class high_class closed e f at there ∙ or_left (is_subtype set low_class high_class) (same_text b object_name) (sym is ∙ t) ∙ sym is

pub names_other : (set : List ClassDef) (low high : BaseType) (a b : List ℕ) (low_class high_class : ℕ) (below object : Bool) → Closed set → low ≡ base.Class a → high ≡ base.Class b → BaseTo set low low_class → BaseTo set high high_class → below ≡ is_subtype set low_class high_class → below ≡ false → object ≡ same_text b object_name → fits_base set low high ≡ object
names_other set low high a b low_class high_class below object closed e f at there is fails o =
    both_named set low high a b low_class high_class closed e f at there ∙ or_right (is_subtype set low_class high_class) (same_text b object_name) (sym is ∙ fails) ∙ sym o

array_by : (b : Bool) (depth : ℕ) → (depth == 0) ≡ b → cond b false true ≡ ltb 0 depth
array_by true depth e = let z : depth ≡ 0 = eqb-true depth 0 e in sym (ap (ltb 0) z)
array_by false zero e = absurd cc
array_by false (suc depth) e = grind arith

pub array_test : (depth : ℕ) → cond (depth == 0) false true ≡ ltb 0 depth
array_test depth = array_by (depth == 0) depth refl
