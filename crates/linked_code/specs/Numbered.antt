-- What a number of a program is one of.
use Rattle.std.specs.Prelude.{ℕ, Option, Some, None, slice_get, unwrap_or}
use Rattle.linked_code.specs.declared.program.Method.{Method}
use Rattle.linked_code.specs.declared.program.LinkedClass.{LinkedClass}
use Rattle.linked_code.specs.declared.program.LinkedType.{LinkedType}
use Rattle.linked_code.specs.declared.program.Program.{Program}

module _ {T : Type 0} (p : Program T) where
  abbrev pub method_at : ℕ → Method
  method_at n = unwrap_or (slice_get p.methods n) p.no_method

  abbrev pub class_at : ℕ → LinkedClass T
  class_at n = unwrap_or (slice_get p.classes n) p.no_class

  abbrev pub type_at : ℕ → LinkedType T
  type_at n = unwrap_or (slice_get p.types n) p.no_type
