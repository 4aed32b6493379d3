-- Files of the classes of the written set load as written classes.
use Rattle.std.proofs.Common.{◌≡◌, ◌∙◌, Bool, true, false, List, [], ◌∷◌, ◌++◌, refl, sym, ap, subst, ⊎_elim}
use Rattle.std.specs.Prelude.{◌⊎◌, cond}
use Rattle.std.specs.List.{AllZip}
use Rattle.std.specs.Str.{chars}
use Rattle.std.proofs.Math.Utf8.{encode}
use Rattle.class_model.specs.declared.class.ClassDef.{ClassDef}
use Rattle.profile_check.specs.declared.profile.Names.TheVariants.{Source, Written}
use Rattle.small_base.specs.Base.{small_base}
use Rattle.first_form.specs.Base.{report_class}
use Rattle.first_form.specs.FormOne.{FormOne}
use Rattle.first_form.specs.FirstSet.{IsFirstSet}
use Rattle.first_form_laws.specs.Loading.{LoadsWell}
use Rattle.first_form_laws.specs.WrittenForm.{written_base as base_by_name}
use Rattle.first_form_laws.proofs.Loads.{base_loads, set_loads as loads_anywhere}
use Rattle.first_form_laws.proofs.UserNames.{user_class}
use Rattle.set_loader.specs.declared.file.File.{File}
use Rattle.set_loader.specs.Loads.{IsFileOf, Loads}
use Rattle.instrument_set.specs.declared.marks.Marks.{Marks}
use Rattle.instrument_set.specs.Written.{written_class}
use Rattle.instrument_set.specs.WrittenSet.{comes_before, insert_class, written_base, written_set}
use Rattle.instrument_set.proofs.Core.{completed}
use Rattle.instrument_set.proofs.Formed.{written_form, base_alone}
use Rattle.instrument_set.proofs.Headline.{written_one}

-- ---- a class that is put among others stands between a front and a back of them

record Splits (d : ClassDef) (ds inserted : List ClassDef) : Type 0 where
  front : List ClassDef
  back : List ClassDef
  whole : front ++ back ≡ ds
  is : inserted ≡ front ++ d ∷ back

split_either : (b : Bool) (d e : ClassDef) (es inserted : List ClassDef) → Splits d es inserted → Splits d (e ∷ es) (cond b (d ∷ e ∷ es) (e ∷ inserted))
split_either true d e es inserted later = record { front = []; back = e ∷ es; whole = refl; is = refl }
split_either false d e es inserted later = record {
  front = e ∷ later.front;
  back = later.back;
  whole = ap (λ (xs : List ClassDef). e ∷ xs) later.whole;
  is = ap (λ (xs : List ClassDef). e ∷ xs) later.is;
}

splits : (d : ClassDef) (ds : List ClassDef) → Splits d ds (insert_class d ds)
splits d [] = record { front = []; back = []; whole = refl; is = refl }
splits d (e ∷ es) = split_either (comes_before d e) d e es (insert_class d es) (splits d es)

-- ---- the classes beside the user's, by their paths and by their names

base_is : written_base ≡ base_by_name
unfolding chars encode small_base report_class base_by_name
base_is = refl

-- ---- together

base_well : LoadsWell written_base
base_well = subst LoadsWell (sym base_is) base_loads

class_well : (marks : Marks) (class : ClassDef) → FormOne Source class → LoadsWell (insert_class (written_class marks class) written_base)
class_well marks class form =
    let new_class : ClassDef = written_class marks class in
    let split : Splits new_class written_base (insert_class new_class written_base) = splits new_class written_base in
    subst LoadsWell (sym split.is) (loads_anywhere split.front split.back new_class (split.whole ∙ base_is) (user_class new_class (written_form marks class form) form.kept.named))

set_well : (marks : Marks) (set : List ClassDef) → IsFirstSet set → LoadsWell (written_set marks set)
set_well marks set first =
    ⊎_elim
    (λ (e : set ≡ small_base). subst (λ (s : List ClassDef). LoadsWell (written_set marks s)) (sym e) (subst LoadsWell (sym (base_alone marks)) base_well))
    (λ (q : (class : ClassDef) × (set ≡ class ∷ small_base) × FormOne Source class).
    subst (λ (s : List ClassDef). LoadsWell (written_set marks s)) (sym q.1) (subst LoadsWell (sym (written_one marks q.0)) (class_well marks q.0 q.2)))
    first

-- files that are class files of these classes load
pub set_loads : (marks : Marks) (set : List ClassDef) → IsFirstSet set → (files : List File) → AllZip IsFileOf files (written_set marks set) → Loads Written files (written_set marks set)
set_loads marks set first files read =
    let well : LoadsWell (written_set marks set) = set_well marks set first in
    record {
      classes = written_set marks set;
      read = read;
      in_profile = well.in_profile;
      completed = completed (written_set marks set) well.closed;
      closed = well.closed;
      verified = well.verifies;
    }
