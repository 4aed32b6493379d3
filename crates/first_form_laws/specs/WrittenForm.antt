-- The classes of a written set: those that are always there, and the one that is written of a user's class. This project's own.
use Rattle.std.specs.Prelude.{◌≡◌, IsTrue, List, [], ◌∷◌, ◌++◌, All}
use Rattle.class_model.specs.declared.class.ClassDef.{ClassDef}
use Rattle.small_base.specs.Members.{object_name}
use Rattle.small_base.specs.Base.{first_classes, object_class, string_class, system_class, native_class, thrown_class, runtime_exception_name, exception_name, throwable_name}
use Rattle.profile_check.specs.declared.profile.Names.TheVariants.{Written}
use Rattle.first_form.specs.Naming.{is_class_name}
use Rattle.first_form.specs.FormOne.{FormOne}
use Rattle.first_form.specs.Base.{report_class}

-- what stands beside a written class, in the order of the names: the small base, and the class of reports
unfoldable pub written_base : List ClassDef
written_base =
    first_classes ++ object_class
    ∷ thrown_class runtime_exception_name exception_name
    ∷ string_class
    ∷ system_class
    ∷ thrown_class throwable_name object_name
    ∷ report_class
    ∷ native_class
    ∷ []

-- a class of the first form that may stand beside them: its name is a class name, and none of theirs
pub record IsWrittenClass (class : ClassDef) : Type 0 where
  pub form : FormOne Written class
  pub named : IsTrue (is_class_name class.name)
  pub apart : All (λ other. other.name ≡ class.name → ⊥) written_base
