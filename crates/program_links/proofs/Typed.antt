-- Types that code names.
use Rattle.std.proofs.Common.{◌≡◌, ℕ, ◌+◌, refl, Some}
use Rattle.std.specs.Prelude.{slice_get}
use Rattle.class_model.specs.declared.types.Primitive.{Primitive}
use Rattle.class_model.specs.declared.types.BaseType.TheVariants as base
use Rattle.class_model.specs.declared.types.JType.{JType}
use Rattle.class_model.specs.declared.insn.Insn.TheVariants as insn
use Rattle.linked_code.specs.Linked.{MakesArray, OfNumbers, OfReferences}
use Rattle.program_links.specs.Numbers.{Numbers}
use Rattle.program_links.specs.LinkedTo.{TypeAt}

pub of_itself : (t : Numbers) (ty : JType) (n : ℕ) → slice_get t.types n ≡ Some (record { depth = ty.depth; base = ty.base }) → TypeAt t (λ named. ty ≡ named) n
of_itself t ty n at = (ty, at, refl)

pub of_references : (t : Numbers) (element : JType) (n : ℕ) → slice_get t.types n ≡ Some (record { depth = element.depth + 1; base = element.base }) → TypeAt t (MakesArray (insn.ANewArray element)) n
of_references t element n at = (record { depth = element.depth + 1; base = element.base }, at, OfReferences element refl refl)

pub of_numbers : (t : Numbers) (number : Primitive) (n : ℕ) → slice_get t.types n ≡ Some (record { depth = 1; base = base.Primitive number }) → TypeAt t (MakesArray (insn.NewArray number)) n
of_numbers t number n at = (record { depth = 1; base = base.Primitive number }, at, OfNumbers number refl refl)
