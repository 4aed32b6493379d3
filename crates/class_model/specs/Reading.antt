-- Descriptors read unit by unit, as functions: what a text spells, or the first place at which no text of the grammar goes on.
use Rattle.std.specs.Prelude.{ℕ, ◌+◌, ◌==◌, ◌&&◌, ◌||◌, Bool, nat_lt, Option, Some, None, Result, Ok, Err, List, [], ◌∷◌, ◌++◌, if◌then◌else◌}
use Rattle.class_model.specs.declared.types.Primitive.{Primitive}
use Rattle.class_model.specs.declared.types.Primitive.TheVariants.{Boolean, Byte, Char, Short, Int, Long, Float, Double}
use Rattle.class_model.specs.declared.types.BaseType.TheVariants as bases
use Rattle.class_model.specs.declared.types.JType.{JType}
use Rattle.class_model.specs.declared.types.MethodDesc.{MethodDesc}

-- whether a class name ends before a unit: at ';' or '['
abbrev pub ends_name : ℕ → Bool
ends_name unit = (unit == 59) || (unit == 91)

-- the type of a letter
abbrev pub primitive_of : ℕ → Option Primitive
primitive_of unit =
    if unit == 66 then Some Byte
    else (if unit == 67 then Some Char
    else (if unit == 68 then Some Double
    else (if unit == 70 then Some Float
    else (if unit == 73 then Some Int
    else (if unit == 74 then Some Long
    else (if unit == 83 then Some Short
    else (if unit == 90 then Some Boolean
    else None)))))))

abbrev pub first_primitive : List ℕ → Option Primitive
first_primitive [] = None
first_primitive (unit ∷ units) = primitive_of unit

-- what has been read of a type: so many '[', or these, 'L' and a class name as far as it goes
pub data Part : Type 0 where
  Dimensions : ℕ → Part
  InName : ℕ → List ℕ → Part

-- what one unit more makes of it
pub data Next : Type 0 where
  Stuck : Next
  More : Part → Next
  Whole : JType → Next

abbrev pub leaf : ℕ → Option Primitive → Next
leaf depth None = Stuck
leaf depth (Some primitive) = Whole (record { depth = depth; base = bases.Primitive primitive })

abbrev pub named : ℕ → List ℕ → Next
named depth [] = Stuck
named depth (unit ∷ units) = Whole (record { depth = depth; base = bases.Class (unit ∷ units) })

abbrev pub part_step : Part → ℕ → Next
part_step (Dimensions depth) unit =
    if (unit == 91) && nat_lt depth 255 then More (Dimensions (depth + 1))
    else (if unit == 76 then More (InName depth [])
    else leaf depth (primitive_of unit))
part_step (InName depth name) unit =
    if unit == 59 then named depth name
    else (if unit == 91 then Stuck
    else More (InName depth (name ++ unit ∷ [])))

-- units from a place of a text on
pub record Rest : Type 0 where
  pub at : ℕ
  pub units : List ℕ

abbrev pub onward : {B : Type 0} → Next → ℕ → (Part → Result B ℕ) → (JType → Result B ℕ) → Result B ℕ
onward Stuck at more whole = Err at
onward (More part) at more whole = more part
onward (Whole ty) at more whole = whole ty

-- a type at the front of these units, and the units behind it; or the place where it does not go on
unfoldable pub front : Part → ℕ → List ℕ → Result (JType × Rest) ℕ
front part at [] = Err at
front part at (unit ∷ units) = onward (part_step part unit) at (λ more. front more (at + 1) units) (λ ty. Ok (ty, record { at = at + 1; units = units }))

abbrev pub ended : {A : Type 0} → Option A → ℕ → Result A ℕ
ended None at = Err at
ended (Some value) at = Ok value

abbrev pub going : {S A : Type 0} → Option S → ℕ → (S → Result A ℕ) → Result A ℕ
going None at next = Err at
going (Some stage) at next = next stage

-- a whole text read by steps: what it spells, or the first place at which there is no step, which is its end where the text is not whole
unfoldable pub read : {S A : Type 0} → (S → ℕ → Option S) → (S → Option A) → S → ℕ → List ℕ → Result A ℕ
read step finish stage at [] = ended (finish stage) at
read step finish stage at (unit ∷ units) = going (step stage unit) at (λ next. read step finish next (at + 1) units)

abbrev pub entering : {S : Type 0} → (Part → S) → (JType → S) → Next → Option S
entering more whole Stuck = None
entering more whole (More part) = Some (more part)
entering more whole (Whole ty) = Some (whole ty)

-- how far the text of a type has been read
pub data FieldStage : Type 0 where
  InField : Part → FieldStage
  FieldRead : JType → FieldStage

abbrev pub field_step : FieldStage → ℕ → Option FieldStage
field_step (InField part) unit = entering InField FieldRead (part_step part unit)
field_step (FieldRead ty) unit = None

abbrev pub field_end : FieldStage → Option JType
field_end (InField part) = None
field_end (FieldRead ty) = Some ty

-- how far a method descriptor has been read, with the parameters so far
pub data Stage : Type 0 where
  Opening : Stage
  BeforeParam : List JType → Stage
  InParam : List JType → Part → Stage
  BeforeResult : List JType → Stage
  InResult : List JType → Part → Stage
  MethodRead : MethodDesc → Stage

abbrev pub in_param : List JType → Next → Option Stage
in_param params = entering (InParam params) (λ ty. BeforeParam (params ++ ty ∷ []))

abbrev pub in_result : List JType → Next → Option Stage
in_result params = entering (InResult params) (λ ty. MethodRead (record { params = params; result = Some ty }))

abbrev pub method_step : Stage → ℕ → Option Stage
method_step Opening unit = if unit == 40 then Some (BeforeParam []) else None
method_step (BeforeParam params) unit = if unit == 41 then Some (BeforeResult params) else in_param params (part_step (Dimensions 0) unit)
method_step (InParam params part) unit = in_param params (part_step part unit)
method_step (BeforeResult params) unit = if unit == 86 then Some (MethodRead (record { params = params; result = None })) else in_result params (part_step (Dimensions 0) unit)
method_step (InResult params part) unit = in_result params (part_step part unit)
method_step (MethodRead desc) unit = None

abbrev pub method_end : Stage → Option MethodDesc
method_end (MethodRead desc) = Some desc
method_end _ = None

abbrev pub read_field : FieldStage → ℕ → List ℕ → Result JType ℕ
read_field = read field_step field_end

abbrev pub read_method : Stage → ℕ → List ℕ → Result MethodDesc ℕ
read_method = read method_step method_end

abbrev pub value_of : {A : Type 0} → Result A ℕ → Option A
value_of (Ok value) = Some value
value_of (Err place) = None

-- the type that a text spells
unfoldable pub field_of : List ℕ → Option JType
field_of text = value_of (read_field (InField (Dimensions 0)) 0 text)

-- the method descriptor that a text spells
unfoldable pub method_of : List ℕ → Option MethodDesc
method_of text = value_of (read_method Opening 0 text)
