-- The methods of the classes beside a written class verify.
use Rattle.std.proofs.Common.{◌≡◌, ℕ, true, List, refl}
use Rattle.std.specs.Str.{chars}
use Rattle.std.specs.List.{list_all, AllByRecursion}
use Rattle.class_model.specs.declared.class.ClassDef.{ClassDef}
use Rattle.type_rows.specs.Rows.{row}
use Rattle.type_rows.specs.Jumps.{targets, falls}
use Rattle.first_form.specs.Base.{report_class}
use Rattle.first_form_laws.specs.WrittenForm.{written_base}
use Rattle.first_form_laws.proofs.Checks.{class_passes, ClassPasses, each_passes}

passes_at_once : (set : List ClassDef) (number : ℕ) → list_all (class_passes set number) written_base ≡ true
unfolding chars written_base report_class row targets falls
passes_at_once set number = refl

pub base_passes : AllByRecursion ClassPasses written_base
base_passes = each_passes written_base passes_at_once
