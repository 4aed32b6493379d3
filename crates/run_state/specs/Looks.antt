-- What a machine asks of its set of classes.
use Rattle.std.specs.Prelude.{ℕ, Bool, List, Option}
use Rattle.class_model.specs.declared.types.JType.{JType}
use Rattle.class_model.specs.declared.types.FieldRef.{FieldRef}
use Rattle.class_model.specs.declared.types.MethodRef.{MethodRef}
use Rattle.run_state.specs.State.{Method}

-- where a static field is: the class that declares it, its place among the static fields, and its text where it has a
-- constant text
pub record Static : Type 0 where
  pub class : List ℕ
  pub place : ℕ
  pub text : Option (List ℕ)

-- The look-ups. `main` is what the root frame calls. `method` is resolution (JVMS 5.4.3.3); `selected` is the method that a
-- call enters for a receiver's class, by name and descriptor (JVMS 6.5 invokevirtual,
-- narrowed by this project); `above` is a class's
-- direct superclass. `starts` are the initializers of a class and its superclasses, its own first. `fits` is the subtype
-- relation. `fields` are the types of an object's fields, the uppermost class's first, and `field` the place of a field
-- among them; `static` finds a static field (JVMS 5.4.3.2).
pub record Looks : Type 0 where
  pub main : Option Method
  pub method : MethodRef → Option Method
  pub selected : List ℕ → MethodRef → Option Method
  pub above : List ℕ → Option (List ℕ)
  pub starts : List ℕ → List Method
  pub fits : JType → JType → Bool
  pub fields : List ℕ → List JType
  pub field : FieldRef → Option ℕ
  pub static : FieldRef → Option Static
