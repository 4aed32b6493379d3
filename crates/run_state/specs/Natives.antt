-- The methods that the machine itself carries out (this project's own): three of `sys/Native`, `arraycopy` of
-- `java/lang/System`, and `phosphor/Report.tag`, by which written code reports.
use Rattle.std.specs.Prelude.{ℕ, ◌&&◌, Bool, List, [], ◌∷◌, Option, Some, None, codes, if◌then◌else◌}
use Rattle.class_model.specs.declared.types.MethodDesc.{MethodDesc}
use Rattle.run_state.specs.Texts.{same_text, same_desc, class_type, object_name, int_type}

pub data Native : Type 0 where
  Read : Native
  Write : Native
  Exit : Native
  ArrayCopy : Native
  Report : Native

-- the class, the name and the descriptor of a native: `read()I`, `write(I)V`, `exit(I)V`,
-- `arraycopy(Ljava/lang/Object;ILjava/lang/Object;II)V` and `tag(III)V`
abbrev pub class_of : Native → List ℕ
class_of Read = codes "sys/Native"
class_of Write = codes "sys/Native"
class_of Exit = codes "sys/Native"
class_of ArrayCopy = codes "java/lang/System"
class_of Report = codes "phosphor/Report"

abbrev pub name_of : Native → List ℕ
name_of Read = codes "read"
name_of Write = codes "write"
name_of Exit = codes "exit"
name_of ArrayCopy = codes "arraycopy"
name_of Report = codes "tag"

abbrev pub desc_of : Native → MethodDesc
desc_of Read = record { params = []; result = Some int_type }
desc_of Write = record { params = int_type ∷ []; result = None }
desc_of Exit = record { params = int_type ∷ []; result = None }
desc_of ArrayCopy = record { params = class_type object_name ∷ int_type ∷ class_type object_name ∷ int_type ∷ int_type ∷ []; result = None }
desc_of Report = record { params = int_type ∷ int_type ∷ int_type ∷ []; result = None }

abbrev pub is_native : List ℕ → List ℕ → MethodDesc → Native → Bool
is_native class name desc n = same_text class (class_of n) && same_text name (name_of n) && same_desc desc (desc_of n)

-- the first of the natives that has this class, name and descriptor
abbrev pub native_among : List Native → List ℕ → List ℕ → MethodDesc → Option Native
native_among [] class name desc = None
native_among (n ∷ ns) class name desc = if is_native class name desc n then Some n else native_among ns class name desc

abbrev pub native_of : List ℕ → List ℕ → MethodDesc → Option Native
native_of class name desc = native_among (Read ∷ Write ∷ Exit ∷ ArrayCopy ∷ Report ∷ []) class name desc
