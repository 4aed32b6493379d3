-- The written set loads.
use Rattle.std.proofs.Common.{◌≡◌, ℕ, false, List, [], ◌∷◌, ◌++◌, sym, subst, arith}
use Rattle.std.specs.Str.{chars}
use Rattle.std.specs.List.{All, AllByRecursion}
use Rattle.std.proofs.lemmas.List.Elements.{All-from_recursion, recursion_from_All}
use Rattle.class_model.specs.declared.class.ClassDef.{ClassDef}
use Rattle.set_lookups.specs.Above.{same_name}
use Rattle.set_lookups.specs.SameTypes.{one_test, name_true}
use Rattle.profile_check.specs.declared.profile.Names.TheVariants.{Written}
use Rattle.profile_check.specs.Profile.{Profile}
use Rattle.class_set.specs.Closed.{Closed}
use Rattle.small_base.specs.Members.{object_name}
use Rattle.first_form.specs.Base.{report_class}
use Rattle.first_form_laws.specs.WrittenForm.{written_base, IsWrittenClass}
use Rattle.first_form_laws.specs.Loading.{LoadsWell}
use Rattle.first_form_laws.proofs.Once.{turned}
use Rattle.first_form_laws.proofs.AnyOrder.{closed_inserted}
use Rattle.first_form_laws.proofs.Written.{class_of, code_of, header_of, is_spelled, form_straight}
use Rattle.first_form_laws.proofs.ClosedBase.{closed_base, closed_last}
use Rattle.first_form_laws.proofs.Checks.{ClassPasses, set_verifies}
use Rattle.first_form_laws.proofs.BaseVerifies.{base_passes}
use Rattle.first_form_laws.proofs.StraightRuns.{form_passes}
use Rattle.first_form_laws.proofs.ClassNames.{class_name_fine}
use Rattle.first_form_laws.proofs.BaseProfile.{base_in_profile}
use Rattle.first_form_laws.proofs.FormProfile.{form_in_profile}

pub base_loads : LoadsWell written_base
base_loads = record { in_profile = base_in_profile; closed = closed_base; verifies = set_verifies written_base base_passes }

all_inserted : (P : ClassDef → Type 0) (front back : List ClassDef) (class : ClassDef) → P class → AllByRecursion P (front ++ back) → AllByRecursion P (front ++ class ∷ back)
all_inserted P [] back class here all = (here, all)
all_inserted P (other ∷ front) back class here all = (all.0, all_inserted P front back class here all.1)

-- what holds of each class beside the written one, and of that one
each_inserted : (P : ClassDef → Type 0) (front back : List ClassDef) (class : ClassDef) → front ++ back ≡ written_base → P class → AllByRecursion P written_base → AllByRecursion P (front ++ class ∷ back)
each_inserted P front back class split here all = all_inserted P front back class here (subst (AllByRecursion P) (sym split) all)

other_name : (xs ys : List ℕ) → (xs ≡ ys → ⊥) → same_name xs ys ≡ false
other_name xs ys apart = one_test (same_name xs ys) false (λ t. absurd (apart (name_true xs ys t))) (λ t. absurd cc)

names_apart : (class : ClassDef) → IsWrittenClass class → All (λ other. same_name other.name class.name ≡ false) written_base
names_apart class written = λ number other within. other_name _ class.name (written.apart number other within)

no_object : (class : ClassDef) → IsWrittenClass class → same_name class.name object_name ≡ false
unfolding chars written_base report_class
no_object class written = turned object_name class.name (names_apart class written 15 class (omega arith))

pub set_loads : (front back : List ClassDef) (class : ClassDef) → front ++ back ≡ written_base → IsWrittenClass class → LoadsWell (front ++ class ∷ back)
set_loads front back class split written =
    let header = header_of class in
    let code = written.form.code in
    let spelled = class_of header (code_of code) in
    let straight = form_straight class written.form in
    let head = written.form.header in
    let apart = recursion_from_All (λ other. same_name other.name class.name ≡ false) written_base (names_apart class written) in
    let last : Closed (written_base ++ spelled ∷ []) = closed_last header code straight apart in
    let profile = form_in_profile header code straight head.major_from head.major_to head.flags (class_name_fine class.name written.named) (no_object class written) in
    let loads : LoadsWell (front ++ spelled ∷ back) = record {
      in_profile = All-from_recursion (Profile Written) (front ++ spelled ∷ back) (each_inserted (Profile Written) front back spelled split profile (recursion_from_All (Profile Written) written_base base_in_profile));
      closed = closed_inserted front back spelled (subst (λ (set : List ClassDef). Closed (set ++ spelled ∷ [])) (sym split) last);
      verifies = set_verifies (front ++ spelled ∷ back) (each_inserted ClassPasses front back spelled split (form_passes class written.form) base_passes);
    } in
    subst (λ (c : ClassDef). LoadsWell (front ++ c ∷ back)) (sym (is_spelled class written.form)) loads
