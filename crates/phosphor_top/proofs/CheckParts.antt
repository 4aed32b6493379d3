-- What the class files of a folder give, where it tells its files.
use Rattle.std.proofs.Common.{◌≡◌, ℕ, List, length, Option, Some, None}
use Rattle.std.specs.Prelude.{IfSome}
use Rattle.outside_io.specs.Files.{Files}
use Rattle.class_model.specs.declared.class.ClassDef.{ClassDef}
use Rattle.profile_check.specs.declared.profile.Names.TheVariants as names
use Rattle.set_loader.specs.declared.file.File.{File}
use Rattle.set_loader.specs.Loads.{Loads}
use Rattle.command_parts.specs.Folders.{ReadsClassFiles}
use Rattle.phosphor_top.specs.Check.{Passes}

pub counted : (told : Option Files) (dir : List ℕ) (list : List File) (set : List ClassDef) (count : ℕ) → IfSome told (λ files. ReadsClassFiles files dir list) → Loads names.Written list set
    → count ≡ length list → IfSome told (λ files. Passes dir files count)
counted None dir list set count read loads is = tt
counted (Some files) dir list set count read loads is = record { set = set; loads = record { list = list; read = read; loads = loads }; counted = is }
