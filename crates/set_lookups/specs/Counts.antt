-- The counts that a list of classes can have, by which classes and members are numbered. This project's own bound on the classes, and those of a class file (JVMS 4.1, 4.7.3).
use Rattle.std.specs.Prelude.{◌≤◌, List, length, All, IfSome}
use Rattle.class_model.specs.declared.class.CodeDef.{CodeDef}
use Rattle.class_model.specs.declared.class.ClassDef.{ClassDef}

pub record IsCodeCounted (code : CodeDef) : Type 0 where
  pub insns : length code.insns ≤ 65535
  pub handlers : length code.handlers ≤ 65535

pub record IsCounted (class : ClassDef) : Type 0 where
  pub interfaces : length class.interfaces ≤ 65535
  pub fields : length class.fields ≤ 65535
  pub methods : length class.methods ≤ 65535
  pub codes : All (λ method. IfSome method.code IsCodeCounted) class.methods

pub record AreCounted (classes : List ClassDef) : Type 0 where
  pub number : length classes ≤ 1001000
  pub each : All IsCounted classes
