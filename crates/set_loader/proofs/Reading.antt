-- Bytes are a class file of one class, or have one first bad place.
use Rattle.std.proofs.Common.{◌≡◌, ◌∙◌, ℕ, List, sym, ap}
use Rattle.std.specs.Prelude.{Result, Err}
use Rattle.class_input.specs.Reading.{Fault}
use Rattle.class_input.specs.declared.bad_class.BadKind.{BadKind}
use Rattle.class_input.specs.declared.bad_class.BadClass.TheVariants as errors
use Rattle.class_model.specs.declared.class.ClassDef.{ClassDef}
use Rattle.class_file.proofs.ClassLaws.{is_only, one_of_two}
use Rattle.code_attribute.specs.CodeContent.{IsCodeContent}
use Rattle.code_attribute.specs.CodeContentReading.{code_content}
use Rattle.code_attribute.specs.WholeClass.{IsClassFile}
use Rattle.code_attribute.proofs.ContentLaws.{content_exact}
use Rattle.set_loader.specs.Loads.{IsBad}

pub one_class : (bytes : List ℕ) (c d : ClassDef) → IsClassFile bytes c → IsClassFile bytes d → c ≡ d
one_class bytes c d h g = one_of_two IsCodeContent code_content content_exact bytes c d h g

pub class_or_bad : (bytes : List ℕ) (c : ClassDef) (place : ℕ) (kind : BadKind) → IsClassFile bytes c → IsBad bytes place kind → ⊥
class_or_bad bytes c place kind h bad =
    let q : errors.Bad place kind ≡ errors.Memory = is_only IsCodeContent code_content content_exact bytes (Err (errors.Bad place kind)) c h bad in absurd cc

pub bad_once : (bytes : List ℕ) (place other : ℕ) (kind also : BadKind) → IsBad bytes place kind → IsBad bytes other also → (place ≡ other) × (kind ≡ also)
bad_once bytes place other kind also h g =
    let q : ◌≡◌ {A = Result ClassDef Fault} (Err (record { place = place; kind = kind })) (Err (record { place = other; kind = also })) = sym h ∙ g in
    let f : ◌≡◌ {A = Fault} (record { place = place; kind = kind }) (record { place = other; kind = also }) = cc in
    (ap (λ (x : Fault). x.place) f, ap (λ (x : Fault). x.kind) f)
