-- What a method's code is linked to.
use Rattle.std.specs.Prelude.{◌≡◌, Option, List, length}
use Rattle.class_model.specs.declared.class.CodeDef.{CodeDef}
use Rattle.class_model.specs.declared.class.ClassDef.{ClassDef}
use Rattle.run_state.specs.SetLooks.{code_of, locals_of, handlers_of}
use Rattle.program_links.specs.declared.methods.Body.{Body}
use Rattle.program_links.specs.Numbers.{Numbers}
use Rattle.program_links.specs.Each.{EachTo}
use Rattle.program_links.specs.CodeSoFar.{AreReady, CodeTo}
use Rattle.program_links.specs.MethodTo.{HandlerTo, AreNamed}

-- code that can be linked
pub record CanLink (set : List ClassDef) (code : Option CodeDef) : Type 0 where
  pub insns : AreReady set (code_of code)
  pub handlers : AreNamed set (handlers_of code)

pub record BodyTo (set : List ClassDef) (t : Numbers) (code : Option CodeDef) (body : Body) : Type 0 where
  pub locals : locals_of code ≡ body.locals
  pub insns : CodeTo set t (code_of code) body.code (length (code_of code))
  pub handlers : EachTo (HandlerTo set) (handlers_of code) body.handlers (length (handlers_of code))
