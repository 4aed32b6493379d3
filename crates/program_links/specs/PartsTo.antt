-- What the rows of classes are made of, class by class.
use Rattle.std.specs.Prelude.{List, length}
use Rattle.class_model.specs.declared.class.ClassDef.{ClassDef}
use Rattle.program_links.specs.declared.class_rows.Parts.{Parts}
use Rattle.program_links.specs.Numbers.{Numbers}
use Rattle.program_links.specs.Each.{Numbered}
use Rattle.program_links.specs.RowTo.{IsClassType, StartsWith, OwnSelects}

pub record AreParts (set : List ClassDef) (t : Numbers) (parts : Parts) : Type 0 where
  pub types : Numbered (IsClassType t set) parts.types (length set)
  pub starts : Numbered (StartsWith set) parts.starts (length set)
  pub owns : Numbered (OwnSelects set t) parts.owns (length set)
