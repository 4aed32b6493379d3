-- Which methods of a name and a descriptor a look-up takes.
use Rattle.std.specs.Prelude.{◌&&◌, Bool, true, false}
use Rattle.class_model.specs.declared.class.MethodDef.{MethodDef}
use Rattle.set_lookups.specs.declared.members.Wanted.{Wanted}
use Rattle.set_lookups.specs.declared.members.Wanted.TheVariants.{Any, Inherited, Final}
use Rattle.set_lookups.specs.Flags.{is_final, is_inherited}

-- all as resolution does, those that are neither static nor private as selection does, or those of them that are final
abbrev pub passes : Wanted → MethodDef → Bool
passes Any method = true
passes Inherited method = is_inherited method
passes Final method = is_final method.flags && is_inherited method

abbrev pub same_wanted : Wanted → Wanted → Bool
same_wanted Any Any = true
same_wanted Inherited Inherited = true
same_wanted Final Final = true
same_wanted _ _ = false
