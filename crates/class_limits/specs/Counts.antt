-- The counts of a class file that have two bytes, in file order. The count of entries of the pool and those of attributes, of which
-- there are at most two, are left out.
use Rattle.std.specs.Prelude.{ℕ, List, [], ◌∷◌, ◌++◌, length, Option, option_to_list}
use Rattle.std.specs.List.{flat_map}
use Rattle.class_model.specs.declared.class.Frame.{Frame}
use Rattle.class_model.specs.declared.class.CodeDef.{CodeDef}
use Rattle.class_model.specs.declared.class.MethodDef.{MethodDef}
use Rattle.class_model.specs.declared.class.ClassDef.{ClassDef}

-- a count
unfoldable pub count_of : {A : Type 0} → List A → List ℕ
count_of xs = length xs ∷ []

-- locals and stack entries, a long as one entry (JVMS 4.7.4)
abbrev pub frame_counts : ℕ × Frame → List ℕ
frame_counts row = count_of row.1.locals ++ count_of row.1.stack

-- handlers (JVMS 4.7.3), frames (4.7.4), and lines (4.7.12)
abbrev pub code_counts : CodeDef → List ℕ
code_counts code = count_of code.handlers ++ count_of code.frames ++ flat_map frame_counts code.frames ++ count_of code.lines

-- the code, then Exceptions (JVMS 4.7.5)
abbrev pub method_counts : MethodDef → List ℕ
method_counts method = flat_map code_counts (option_to_list method.code) ++ count_of method.throws

-- interfaces, fields, methods (JVMS 4.1)
unfoldable pub header_counts : ClassDef → List ℕ
header_counts class = count_of class.interfaces ++ count_of class.fields ++ count_of class.methods

-- at the end InnerClasses (JVMS 4.7.6)
unfoldable pub class_counts : ClassDef → List ℕ
class_counts class = header_counts class ++ flat_map method_counts class.methods ++ count_of class.inner
