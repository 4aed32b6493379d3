-- Classes whose names are apart.
use Rattle.std.proofs.Common.{◌≡◌, ◌≢◌, ℕ, zero, suc, ◌<◌, ◌&&◌, Bool, true, false, List, [], ◌∷◌, ◌++◌, length, map, Some, None, refl, sym, ap, ◌∙◌, subst, inl, inr, lit<, arith}
use Rattle.std.specs.Prelude.{◌⊎◌, cond, not, slice_get, codes}
use Rattle.std.specs.List.{Contains, list_all}
use Rattle.std.specs.Str.{chars}
use Rattle.std.proofs.lemmas.Option.{same_Some}
use Rattle.lists.specs.Texts.{units_of}
use Rattle.class_model.specs.declared.class.ClassDef.{ClassDef}
use Rattle.run_state.specs.Texts.{same_text}
use Rattle.profile_check.specs.declared.profile.Names.TheVariants.{Source}
use Rattle.small_base.specs.Members.{object_name, native_name}
use Rattle.small_base.specs.Base.{small_base, base_names, object_class, native_class}
use Rattle.first_form.specs.Natives.{report_name}
use Rattle.first_form.specs.FormOne.{FormOne}
use Rattle.first_form.specs.Base.{report_class}
use Rattle.instrument_set.specs.WrittenSet.{comes_before, insert_class, written_base}
use Rattle.instrument_set.proofs.Looking.{same_text_refl, same_text_other, Found}

and_both : (a b : Bool) → (a && b) ≡ true → (a ≡ true) × (b ≡ true)
and_both true b h = (refl, h)
and_both false b h = absurd cc

not_true : (b : Bool) → not b ≡ true → b ≡ false
not_true true h = absurd cc
not_true false h = refl

differs : (a b : List ℕ) → same_text a b ≡ false → a ≢ b
differs a b h = λ e. absurd (let q : true ≡ false = sym (same_text_refl a) ∙ ap (λ (x : List ℕ). same_text a x) e ∙ h in cc)

-- ---- a name that no class has

abbrev pub Others : List ClassDef → List ℕ → Type 0
Others [] name = Unit {0}
Others (d ∷ ds) name = (name ≢ d.name) × Others ds name

-- a test of it
abbrev is_other : List ClassDef → List ℕ → Bool
is_other [] name = true
is_other (d ∷ ds) name = not (same_text name d.name) && is_other ds name

others_by : (ds : List ClassDef) (name : List ℕ) → is_other ds name ≡ true → Others ds name
others_by [] name h = tt
others_by (d ∷ ds) name h =
    let both = and_both (not (same_text name d.name)) (is_other ds name) h in
    (differs name d.name (not_true (same_text name d.name) both.0), others_by ds name both.1)

others_unlisted : (ds : List ClassDef) (name : List ℕ) → (Contains (map (λ class. class.name) ds) name → ⊥) → Others ds name
others_unlisted [] name none = tt
others_unlisted (d ∷ ds) name none = (
  λ same. none (zero, omega arith, sym same),
  others_unlisted ds name (λ is. none (suc is.0, omega (arith, is.1), is.2)),
)

others_either : (b : Bool) (d e : ClassDef) (es inserted : List ClassDef) (name : List ℕ) → name ≢ d.name → Others (e ∷ es) name → Others inserted name → Others (cond b (d ∷ e ∷ es) (e ∷ inserted)) name
others_either true d e es inserted name other rest more = (other, rest)
others_either false d e es inserted name other rest more = (rest.0, more)

pub others_inserted : (d : ClassDef) (ds : List ClassDef) (name : List ℕ) → name ≢ d.name → Others ds name → Others (insert_class d ds) name
others_inserted d [] name other rest = (other, tt)
others_inserted d (e ∷ es) name other rest = others_either (comes_before d e) d e es (insert_class d es) name other rest (others_inserted d es name other rest.1)

-- ---- no two classes have one name

abbrev pub Apart : List ClassDef → Type 0
Apart [] = Unit {0}
Apart (d ∷ ds) = Others ds d.name × Apart ds

abbrev are_apart : List ClassDef → Bool
are_apart [] = true
are_apart (d ∷ ds) = is_other ds d.name && are_apart ds

apart_by : (ds : List ClassDef) → are_apart ds ≡ true → Apart ds
apart_by [] h = tt
apart_by (d ∷ ds) h = let both = and_both (is_other ds d.name) (are_apart ds) h in (others_by ds d.name both.0, apart_by ds both.1)

-- ---- the classes beside a written class

pub base_apart : Apart small_base
unfolding small_base chars
base_apart = apart_by small_base refl

pub report_other : Others small_base report_class.name
unfolding small_base chars report_class
report_other = others_by small_base report_name refl

-- ---- a class of the form

pub form_other : (class : ClassDef) → FormOne Source class → Others small_base class.name
form_other class form = others_unlisted small_base class.name form.kept.named.no_base

pub not_report : (class : ClassDef) → FormOne Source class → class.name ≢ report_class.name
unfolding chars report_class
not_report class form = λ e. form.kept.named.not_reserved (inl (units_of (codes "Report"), e))

-- no class beside it has its name
pub form_apart : (class : ClassDef) → FormOne Source class → Others written_base class.name
form_apart class form = others_inserted report_class small_base class.name (not_report class form) (form_other class form)

listed_apart : (class : ClassDef) (name : List ℕ) → FormOne Source class → Contains base_names name → class.name ≢ name
listed_apart class name form is = λ e. form.kept.named.no_base (subst (λ (n : List ℕ). Contains base_names n) (sym e) is)

object_listed : Contains base_names object_name
unfolding small_base
object_listed = (15, lit< tt, refl)

native_listed : Contains base_names native_name
unfolding small_base
native_listed = (20, lit< tt, refl)

pub not_object : (class : ClassDef) → FormOne Source class → class.name ≢ object_name
not_object class form = listed_apart class object_name form object_listed

pub not_native : (class : ClassDef) → FormOne Source class → class.name ≢ native_name
not_native class form = listed_apart class native_name form native_listed

-- ---- where classes are found

-- none of so many classes has a name
abbrev are_earlier_other : ℕ → List ClassDef → List ℕ → Bool
are_earlier_other zero ds name = true
are_earlier_other (suc k) [] name = true
are_earlier_other (suc k) (d ∷ ds) name = not (same_text d.name name) && are_earlier_other k ds name

found_at : (k : ℕ) (ds : List ClassDef) (c : ClassDef) → slice_get ds k ≡ Some c → are_earlier_other k ds c.name ≡ true → Found ds c
found_at k [] c is other = absurd (let q : None ≡ Some c = is in cc)
found_at zero (d ∷ ds) c is other = inl (same_Some d c is)
found_at (suc k) (d ∷ ds) c is other =
    let both = and_both (not (same_text d.name c.name)) (are_earlier_other k ds c.name) other in
    inr (not_true (same_text d.name c.name) both.0, found_at k ds c is both.1)

pub object_found : Found small_base object_class
unfolding small_base chars
object_found = found_at 15 small_base object_class refl refl

pub native_found : Found small_base native_class
unfolding small_base chars
native_found = found_at 20 small_base native_class refl refl
