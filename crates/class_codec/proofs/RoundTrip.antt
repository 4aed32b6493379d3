-- What is written reads back.
use Rattle.std.proofs.Common.{◌≡◌, ℕ, List, refl, ap}
use Rattle.std.specs.Prelude.{Result, Ok, Err}
use Rattle.class_input.specs.Reading.{Fault}
use Rattle.class_input.specs.declared.bad_class.BadClass.TheVariants as errors
use Rattle.class_model.specs.declared.class.ClassDef.{ClassDef}
use Rattle.class_file.specs.ClassReading.{file}
use Rattle.class_file.proofs.ClassLaws.{is_only}
use Rattle.code_attribute.specs.CodeContent.{IsCodeContent}
use Rattle.code_attribute.specs.CodeContentReading.{code_content}
use Rattle.code_attribute.specs.WholeClass.{IsClassFile}
use Rattle.code_attribute.proofs.ContentLaws.{content_exact}

pub read_back : (bytes : List ℕ) (class : ClassDef) → IsClassFile bytes class → file code_content bytes ≡ Ok class
read_back bytes class is = by (file code_content bytes) refl
  where
    by : (read : Result ClassDef Fault) → file code_content bytes ≡ read → read ≡ Ok class
    by (Ok other) h = ap Ok (is_only IsCodeContent code_content content_exact bytes (Ok other) class is h)
    by (Err fault) h =
        let q : errors.Bad fault.place fault.kind ≡ errors.Memory = is_only IsCodeContent code_content content_exact bytes (Err (errors.Bad fault.place fault.kind)) class is h in absurd cc
