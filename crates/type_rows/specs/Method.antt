-- The method whose code is checked, and the names that the rules know.
use Rattle.std.specs.Prelude.{ℕ, List, codes}
use Rattle.lists.specs.Texts.{units_of}
use Rattle.class_model.specs.declared.class.ClassDef.{ClassDef}
use Rattle.class_model.specs.declared.class.MethodDef.{MethodDef}
use Rattle.class_model.specs.declared.class.CodeDef.{CodeDef}

-- a method of a class of a set, with its code
pub record Method : Type 0 where
  pub set : List ClassDef
  -- of the class in the set
  pub number : ℕ
  pub class : ClassDef
  pub method : MethodDef
  pub code : CodeDef

abbrev pub string_name : List ℕ
string_name = units_of (codes "java/lang/String")

abbrev pub throwable_name : List ℕ
throwable_name = units_of (codes "java/lang/Throwable")

abbrev pub init_name : List ℕ
init_name = units_of (codes "<init>")
