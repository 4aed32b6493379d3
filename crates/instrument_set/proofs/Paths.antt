-- The paths of the written classes.
use Rattle.std.proofs.Common.{◌≡◌, ℕ, Bool, true, false, List, [], ◌∷◌, refl, sym, ap, ◌∙◌, subst, ⊎_elim}
use Rattle.std.specs.Prelude.{cond, map}
use Rattle.std.specs.Str.{chars}
use Rattle.std.proofs.Math.Utf8.{encode}
use Rattle.class_model.specs.declared.class.ClassDef.{ClassDef}
use Rattle.profile_check.specs.declared.profile.Names.TheVariants.{Source}
use Rattle.first_form.specs.FormOne.{FormOne}
use Rattle.small_base.specs.Base.{small_base}
use Rattle.first_form.specs.Base.{report_class}
use Rattle.first_form.specs.FirstSet.{IsFirstSet}
use Rattle.instrument_set.specs.declared.marks.Marks.{Marks}
use Rattle.instrument_set.specs.Written.{written_class}
use Rattle.instrument_set.specs.WrittenSet.{path_of, comes_before, insert_class, written_base, written_set}
use Rattle.instrument_set.specs.WrittenPaths.{insert_path, written_paths}
use Rattle.instrument_set.proofs.Headline.{written_one}
use Rattle.instrument_set.proofs.Formed.{base_alone}

abbrev paths_of : List ClassDef → List (List ℕ)
paths_of classes = map (λ (c : ClassDef). path_of c.name) classes

path_either : (b : Bool) (d e : ClassDef) (es inserted : List ClassDef) (others : List (List ℕ)) → paths_of inserted ≡ others
    → paths_of (cond b (d ∷ e ∷ es) (e ∷ inserted)) ≡ cond b (path_of d.name ∷ path_of e.name ∷ paths_of es) (path_of e.name ∷ others)
path_either true d e es inserted others h = refl
path_either false d e es inserted others h = ap (λ (ps : List (List ℕ)). path_of e.name ∷ ps) h

path_inserted : (d : ClassDef) (ds : List ClassDef) → paths_of (insert_class d ds) ≡ insert_path (path_of d.name) (paths_of ds)
path_inserted d [] = refl
path_inserted d (e ∷ es) = path_either (comes_before d e) d e es (insert_class d es) (insert_path (path_of d.name) (paths_of es)) (path_inserted d es)

base_paths : paths_of written_base ≡ written_paths small_base
unfolding chars encode small_base report_class
base_paths = refl

-- the written classes stand at the paths of the set
pub set_paths : (marks : Marks) (set : List ClassDef) → IsFirstSet set → map (λ c. path_of c.name) (written_set marks set) ≡ written_paths set
set_paths marks set first =
    ⊎_elim
    (λ (e : set ≡ small_base). subst (λ (s : List ClassDef). paths_of (written_set marks s) ≡ written_paths s) (sym e) (ap paths_of (base_alone marks) ∙ base_paths))
    (λ (q : (class : ClassDef) × (set ≡ class ∷ small_base) × FormOne Source class).
    subst (λ (s : List ClassDef). paths_of (written_set marks s) ≡ written_paths s) (sym q.1)
    (ap paths_of (written_one marks q.0) ∙ path_inserted (written_class marks q.0) written_base ∙ ap (λ (ps : List (List ℕ)). insert_path (path_of q.0.name) ps) base_paths))
    first
