-- The first frame of a method (JVMS 4.10.1.6).
use Rattle.std.specs.Prelude.{◌&&◌, not, nat_le, List, [], ◌∷◌, ◌++◌, map, sum_by, Bool, if◌then◌else◌}
use Rattle.class_model.specs.declared.class.VType.{VType}
use Rattle.class_model.specs.declared.class.VType.TheVariants.{UninitThis, Ref}
use Rattle.class_model.specs.declared.class.Frame.{Frame}
use Rattle.set_lookups.specs.Above.{same_name}
use Rattle.set_lookups.specs.Flags.{is_static}
use Rattle.set_lookups.specs.Lookups.{object_name}
use Rattle.class_set.specs.Assignable.{class_type, type_of, width}
use Rattle.type_rows.specs.Method.{Method, init_name}

-- a constructor, that of Object aside
abbrev pub starts_uninit : Method → Bool
starts_uninit m = same_name m.method.name init_name && not (same_name m.class.name object_name)

-- the object of a method; that of a constructor is not initialised
abbrev pub this_type : Method → VType
this_type m = if starts_uninit m then UninitThis else Ref (class_type m.class.name)

abbrev pub receiver : Method → List VType
receiver m = if is_static m.method.flags then [] else this_type m ∷ []

-- the object and the parameters
abbrev pub first_frame : Method → Frame
first_frame m = record { locals = receiver m ++ map type_of m.method.desc.params; stack = [] }

-- the first frame has at most the locals of the method
abbrev pub first_fits : Method → Bool
first_fits m = nat_le (sum_by width (first_frame m).locals) m.code.max_locals
