use Rattle.std.proofs.Common.{ℕ, List}
use Rattle.class_model.specs.declared.class.ClassDef.{ClassDef}
use Rattle.linked_code.specs.declared.program.Method.{Method}
use Rattle.program_links.specs.Numbers.{Numbers, Grows}
use Rattle.program_links.specs.Each.{EachTo}
use Rattle.program_links.specs.MethodTo.{MethodTo}
use Rattle.program_links.specs.Methods.{set_methods, methods_before}
use Rattle.program_links.proofs.methods.link_methods.Given as goal

-- the methods of the classes so far are linked
pub record SoFar (set : List ClassDef) (old new : Numbers) (methods : List Method) (count : ℕ) : Type 0 where
  pub grows : Grows old new
  pub each : EachTo (MethodTo set new) (set_methods set) methods count

abbrev pub invariant-loop-number : goal.invariant-loop-number
invariant-loop-number l = SoFar l.set l.fn.tables l.tables l.methods (methods_before l.set l.number)
