-- The class file that is written for a class. This project's own.
use Rattle.std.specs.Prelude.{◌≡◌}
use Rattle.class_model.specs.declared.class.ClassDef.{ClassDef}
use Rattle.set_loader.specs.declared.file.File.{File}
use Rattle.set_loader.specs.Loads.{IsFileOf}
use Rattle.instrument_set.specs.WrittenSet.{path_of}

-- a file at the path of the class, whose bytes are a class file of it
abbrev pub IsClassFile : File → ClassDef → Type 0
IsClassFile file class = (file.path ≡ path_of class.name) × IsFileOf file class
