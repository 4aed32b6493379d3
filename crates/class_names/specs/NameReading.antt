-- What an index names, judged at the place of the field that holds the index, up to the first refusal.
use Rattle.std.specs.Prelude.{ℕ, ℤ, ◌==◌, ◌||◌, ◌&&◌, not, Bool, List, length, Option, Some, None, Result, Ok, Err, if◌then◌else◌}
use Rattle.std.specs.List.{list_any}
use Rattle.class_input.specs.declared.bad_class.BadKind.TheVariants.{Text, Descriptor, PoolKind}
use Rattle.class_input.specs.Reading.{Fault, judging}
use Rattle.modified_utf8.specs.TextReading.{read_text}
use Rattle.class_model.specs.declared.types.JType.{JType}
use Rattle.class_model.specs.declared.types.MethodDesc.{MethodDesc}
use Rattle.class_model.specs.declared.types.FieldRef.{FieldRef}
use Rattle.class_model.specs.declared.types.MethodRef.{MethodRef}
use Rattle.class_model.specs.declared.class.Constant.{Constant}
use Rattle.class_model.specs.declared.class.Constant.TheVariants as constants
use Rattle.class_model.specs.declared.insn.Insn.{Insn}
use Rattle.class_model.specs.declared.insn.Insn.TheVariants.{PushInt, PushString}
use Rattle.class_model.specs.Reading.{value_of, field_of, method_of}
use Rattle.const_pool.specs.declared.entry.Entry.{Entry}
use Rattle.const_pool.specs.declared.entry.Entry.TheVariants as entries
use Rattle.const_pool.specs.Pool.{Pool, as_text, as_class, as_name_and_type}
use Rattle.const_pool.specs.PoolReading.{named}
use Rattle.class_names.specs.declared.member.MethodEntry.{MethodEntry}
use Rattle.class_names.specs.Names.{is_array_name, class_type, as_field, as_method, as_string, as_long}
use Rattle.class_names.specs.Steps.{fit}

-- ---- texts

-- the units that bytes spell
unfoldable pub units_in : List ℕ → Option (List ℕ)
units_in bytes = value_of (read_text 0 bytes)

abbrev pub bytes_at : Pool → ℕ → ℕ → Result (List ℕ) Fault
bytes_at p place k = named as_text p place k

-- a text; in a pool whose texts were judged, a Utf8 entry is never refused
unfoldable pub text_at : Pool → ℕ → ℕ → Result (List ℕ) Fault
text_at p place k = judging (bytes_at p place k) (λ bytes. fit place Text (units_in bytes))

abbrev pub some_of : {A : Type 0} → A → Result (Option A) Fault
some_of a = Ok (Some a)

-- an index that may be 0, which stands for nothing
unfoldable pub optional : {A : Type 0} → (ℕ → ℕ → Result A Fault) → ℕ → ℕ → Result (Option A) Fault
optional judge place k = if k == 0 then Ok None else judging (judge place k) some_of

-- ---- classes and types

unfoldable pub class_name_at : Pool → ℕ → ℕ → Result (List ℕ) Fault
class_name_at p place k = judging (named as_class p place k) (text_at p place)

-- a unit that a class name does not have: ';' or '['
abbrev pub is_separator : ℕ → Bool
is_separator unit = (unit == 59) || (unit == 91)

abbrev pub is_plain_class : List ℕ → Bool
is_plain_class name = not (length name == 0) && not (list_any is_separator name)

abbrev pub plain_class : List ℕ → Option JType
plain_class name = if is_plain_class name then Some (class_type name) else None

-- the type that the name of a class is
unfoldable pub class_type_of : List ℕ → Option JType
class_type_of name = if is_array_name name then field_of name else plain_class name

unfoldable pub class_type_at : Pool → ℕ → ℕ → Result JType Fault
class_type_at p place k = judging (class_name_at p place k) (λ name. fit place Descriptor (class_type_of name))

unfoldable pub field_type_at : Pool → ℕ → ℕ → Result JType Fault
field_type_at p place k = judging (text_at p place k) (λ text. fit place Descriptor (field_of text))

unfoldable pub method_desc_at : Pool → ℕ → ℕ → Result MethodDesc Fault
method_desc_at p place k = judging (text_at p place k) (λ text. fit place Descriptor (method_of text))

-- ---- members: the entry, its class, its name, its type

unfoldable pub field_at : Pool → ℕ → ℕ → Result FieldRef Fault
field_at p place k =
    judging (named as_field p place k) (λ parts.
    judging (class_name_at p place parts.0) (λ class.
    judging (named as_name_and_type p place parts.1) (λ pair.
    judging (text_at p place pair.0) (λ name.
    judging (field_type_at p place pair.1) (λ ty.
    Ok (record { class = class; name = name; ty = ty }))))))

unfoldable pub method_at : MethodEntry → Pool → ℕ → ℕ → Result MethodRef Fault
method_at kind p place k =
    judging (named (as_method kind) p place k) (λ parts.
    judging (class_type_at p place parts.0) (λ class.
    judging (named as_name_and_type p place parts.1) (λ pair.
    judging (text_at p place pair.0) (λ name.
    judging (method_desc_at p place pair.1) (λ desc.
    Ok (record { class = class; name = name; desc = desc; in_interface = parts.2 }))))))

-- ---- constants

unfoldable pub string_at : Pool → ℕ → ℕ → Result (List ℕ) Fault
string_at p place k = judging (named as_string p place k) (text_at p place)

abbrev pub long_at : Pool → ℕ → ℕ → Result ℤ Fault
long_at p place k = named as_long p place k

abbrev pub any_entry : Entry → Option Entry
any_entry e = Some e

abbrev pub wrong_kind : {A : Type 0} → ℕ → ℕ → Result A Fault
wrong_kind place k = Err (record { place = place; kind = PoolKind k })

abbrev pub pushed_text : List ℕ → Result Insn Fault
pushed_text units = Ok (PushString units)

-- what `ldc` of an entry pushes, whose index k stands at a place
unfoldable pub pushed : Pool → ℕ → ℕ → Entry → Result Insn Fault
pushed p place k (entries.Integer n) = Ok (PushInt n)
pushed p place k (entries.Text text) = judging (text_at p place text) pushed_text
pushed p place k e = wrong_kind place k

unfoldable pub pushed_at : Pool → ℕ → ℕ → Result Insn Fault
pushed_at p place k = judging (named any_entry p place k) (pushed p place k)

abbrev pub constant_text : List ℕ → Result Constant Fault
constant_text units = Ok (constants.Text units)

-- the constant that an entry is, whose index k stands at a place
unfoldable pub constant : Pool → ℕ → ℕ → Entry → Result Constant Fault
constant p place k (entries.Integer n) = Ok (constants.Int n)
constant p place k (entries.Long n) = Ok (constants.Long n)
constant p place k (entries.Text text) = judging (text_at p place text) constant_text
constant p place k e = wrong_kind place k

unfoldable pub constant_at : Pool → ℕ → ℕ → Result Constant Fault
constant_at p place k = judging (named any_entry p place k) (constant p place k)
