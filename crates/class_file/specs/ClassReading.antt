-- Reading a class file from left to right, with the first bad place, over how the content of a Code attribute is read.
use Rattle.std.specs.Prelude.{ℕ, List, length, Option, Result, Ok, Err, ◌==◌, if◌then◌else◌}
use Rattle.std.specs.Int.{w16, w32}
use Rattle.class_input.specs.declared.bad_class.BadKind.TheVariants.{Magic, Trailing}
use Rattle.class_input.specs.Reading.{In, Fault, Reading, ◌>>=◌, done, refused, here, number}
use Rattle.class_model.specs.declared.class.CodeDef.{CodeDef}
use Rattle.class_model.specs.declared.class.FieldDef.{FieldDef}
use Rattle.class_model.specs.declared.class.MethodDef.{MethodDef}
use Rattle.class_model.specs.declared.class.ClassDef.{ClassDef}
use Rattle.const_pool.specs.Pool.{Pool}
use Rattle.const_pool.specs.PoolReading.{pool}
use Rattle.class_names.specs.Steps.{table, at_index}
use Rattle.class_names.specs.NameReading.{text_at, optional, class_name_at, field_type_at, method_desc_at}
use Rattle.class_attributes.specs.Attributes.{constant_value, exceptions, source_file, inner_classes}
use Rattle.class_attributes.specs.AttributeReading.{one_read, two_read, constant_content, exceptions_content, source_content, inner_content}
use Rattle.class_file.specs.declared.method.MethodHead.{MethodHead}
use Rattle.class_file.specs.ClassBytes.{code_name, listed}

unfoldable pub field : Pool → Reading FieldDef
field p = do
  flags ← number w16
  name ← at_index (text_at p)
  ty ← at_index (field_type_at p)
  constant ← one_read p constant_value (constant_content p)
  done (record { flags = flags; name = name; ty = ty; constant = constant })

-- what stands before the attributes of a method
unfoldable pub method_head : Pool → Reading MethodHead
method_head p = do
  flags ← number w16
  name ← at_index (text_at p)
  desc ← at_index (method_desc_at p)
  done (record { flags = flags; name = name; desc = desc })

unfoldable pub method_attributes : (Pool → List ℕ → MethodHead → Reading CodeDef) → Pool → List ℕ → MethodHead → Reading (Option CodeDef × Option (List (List ℕ)))
method_attributes code p class head = two_read p code_name (code p class head) exceptions (exceptions_content p)

unfoldable pub method : (Pool → List ℕ → MethodHead → Reading CodeDef) → Pool → List ℕ → Reading MethodDef
method code p class = do
  head ← method_head p
  found ← method_attributes code p class head
  done (record { flags = head.flags; name = head.name; desc = head.desc; throws = listed found.1; code = found.0 })

-- a class behind its constant pool
unfoldable pub class_body : (Pool → List ℕ → MethodHead → Reading CodeDef) → ℕ → ℕ → Pool → Reading ClassDef
class_body code minor major p = do
  flags ← number w16
  name ← at_index (class_name_at p)
  super_name ← at_index (optional (class_name_at p))
  interfaces ← table (at_index (class_name_at p))
  fields ← table (field p)
  methods ← table (method code p name)
  found ← two_read p source_file (source_content p) inner_classes (inner_content p)
  done (record { minor = minor; major = major; flags = flags; name = name; super_name = super_name; interfaces = interfaces; fields = fields; methods = methods; source = found.0; inner = listed found.1 })

abbrev pub magic_of : ℕ → ℕ → Reading (Unit {0})
magic_of at n = if n == 0xCAFEBABE then done tt else refused at Magic

unfoldable pub magic : Reading (Unit {0})
magic = do
  at ← here
  n ← number w32
  magic_of at n

unfoldable pub class_file : (Pool → List ℕ → MethodHead → Reading CodeDef) → Reading ClassDef
class_file code = do
  _ ← magic
  minor ← number w16
  major ← number w16
  p ← pool
  class_body code minor major p

abbrev pub ended : ClassDef → In → Result ClassDef Fault
ended class i = if length i.rest == 0 then Ok class else Err (record { place = i.at; kind = Trailing })

abbrev pub closing : Result (ClassDef × In) Fault → Result ClassDef Fault
closing (Ok x) = ended x.0 x.1
closing (Err e) = Err e

-- a whole file, or its first bad place
unfoldable pub file : (Pool → List ℕ → MethodHead → Reading CodeDef) → List ℕ → Result ClassDef Fault
file code text = closing (class_file code (record { at = 0; rest = text }))
