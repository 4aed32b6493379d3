-- The classes of the base by the rows of a table. This project's own.
use Rattle.lists.specs.Texts.{units_of}
use Rattle.class_model.specs.declared.class.ClassDef.{ClassDef}
use Rattle.small_base.specs.declared.base.Row.{Row}
use Rattle.small_base.specs.declared.base.Row.TheVariants.{Object, Text, System, Native, Thrown}
use Rattle.small_base.specs.Base.{object_class, string_class, system_class, native_class, thrown_class}

abbrev pub class_of : Row → ClassDef
class_of Object = object_class
class_of Text = string_class
class_of System = system_class
class_of Native = native_class
class_of (Thrown name above) = thrown_class (units_of name.now) (units_of above.now)
