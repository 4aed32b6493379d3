-- A class file, whole (JVMS 4.1).
use Rattle.std.specs.Prelude.{ℕ, List}
use Rattle.class_model.specs.declared.class.ClassDef.{ClassDef}
use Rattle.class_file.specs.ClassBytes.{ClassBytes}
use Rattle.code_attribute.specs.CodeContent.{IsCodeContent}

-- the bytes of a class file, all of them, and the class that they are
abbrev pub IsClassFile : List ℕ → ClassDef → Type 0
IsClassFile = ClassBytes IsCodeContent
