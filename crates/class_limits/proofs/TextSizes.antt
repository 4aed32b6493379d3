-- How many bytes texts take, piece by piece.
use Rattle.std.proofs.Common.{◌≡◌, ◌∙◌, ℕ, zero, suc, ◌+◌, ◌*◌, ◌/◌, ◌%◌, ◌<◌, ◌≤◌, Bool, true, false, ◌&&◌, List, [], ◌∷◌, ◌++◌, length, get_or, take, refl, sym, ap, arith, length-append}
use Rattle.std.specs.Prelude.{min, nat_lt, replicate, flat_map, ◌==◌, if◌then◌else◌, Option, Some, None}
use Rattle.std.proofs.lemmas.List.{take_more, take_all}
use Rattle.std.proofs.lemmas.Grind.{flat_map-append}
use Rattle.modified_utf8.specs.Text.{unit_bytes, text_bytes}
use Rattle.class_model.specs.declared.types.BaseType.{BaseType}
use Rattle.class_model.specs.declared.types.BaseType.TheVariants as bases
use Rattle.class_model.specs.declared.types.Primitive.{Primitive}
use Rattle.class_model.specs.declared.types.Primitive.TheVariants as primitives
use Rattle.class_model.specs.declared.types.JType.{JType}
use Rattle.class_model.specs.declared.types.MethodDesc.{MethodDesc}
use Rattle.class_model.specs.Descriptor.{letter_of, base_descriptor, field_descriptor, result_descriptor, method_descriptor}
use Rattle.class_limits.specs.Texts.{base_name, class_name_of}
use Rattle.class_limits.specs.Limits.{told, first_over, long_text}

-- the bytes of a text
abbrev pub size : List ℕ → ℕ
size units = length (text_bytes units)

pub size_append : (us vs : List ℕ) → size (us ++ vs) ≡ size us + size vs
size_append us vs = ap length (flat_map-append unit_bytes us vs) ∙ length-append (text_bytes us) (text_bytes vs)

pub size_cons : (u : ℕ) (us : List ℕ) → size (u ∷ us) ≡ length (unit_bytes u) + size us
size_cons u us = length-append (unit_bytes u) (text_bytes us)

-- the text of a letter of a primitive type
pub letter_size : (p : Primitive) → size (letter_of p ∷ []) ≡ 1
letter_size primitives.Boolean = refl
letter_size primitives.Byte = refl
letter_size primitives.Char = refl
letter_size primitives.Short = refl
letter_size primitives.Int = refl
letter_size primitives.Long = refl
letter_size primitives.Float = refl
letter_size primitives.Double = refl

-- 'L', the name, and ';'
pub class_size : (name : List ℕ) → size (base_descriptor (bases.Class name)) ≡ 2 + size name
class_size name = omega (arith, size_cons 76 (name ++ 59 ∷ []), size_append name (59 ∷ []))

brackets_size : (n : ℕ) → size (replicate n 91) ≡ n
brackets_size zero = refl
brackets_size (suc n) = omega (arith, size_cons 91 (replicate n 91), brackets_size n)

pub type_size : (ty : JType) → size (field_descriptor ty) ≡ ty.depth + size (base_descriptor ty.base)
unfolding field_descriptor
type_size ty = omega (arith, size_append (replicate ty.depth 91) (base_descriptor ty.base), brackets_size ty.depth)

pub desc_size : (desc : MethodDesc) → size (method_descriptor desc) ≡ 2 + size (flat_map field_descriptor desc.params) + size (result_descriptor desc.result)
unfolding method_descriptor
desc_size desc =
    omega (arith, size_cons 40 (flat_map field_descriptor desc.params ++ 41 ∷ result_descriptor desc.result), size_append (flat_map field_descriptor desc.params) (41 ∷ result_descriptor desc.result), size_cons 41 (result_descriptor desc.result))

-- ---- sizes in 64 bits

pub sum_told : (a b : ℕ) → min (told a + told b) 18446744073709551615 ≡ told (a + b)
sum_told a b = omega arith

-- the bytes of the first i units
pub record UnitsTo (units : List ℕ) (i n : ℕ) : Type 0 where
  pub is : n ≡ told (size (take i units))

pub units_more : (units : List ℕ) (i n : ℕ) (u : ℕ) (bytes next : ℕ) → UnitsTo units i n → i < length units → u ≡ get_or units i u → bytes ≡ length (unit_bytes u) → next ≡ min (n + bytes) 18446744073709551615 → UnitsTo units (i + 1) next
units_more units i n u bytes next so_far lt is sized next_is =
    let front : size (take (i + 1) units) ≡ size (take i units) + size (u ∷ []) = ap size (take_more units i u lt ∙ ap (λ v. take i units ++ v ∷ []) (sym is)) ∙ size_append (take i units) (u ∷ []) in
    let one : size (u ∷ []) ≡ bytes = omega (arith, size_cons u [], sized) in
    record { is = omega (arith, so_far.is, front, one, next_is) }

pub units_all : (units : List ℕ) (i n : ℕ) → UnitsTo units i n → length units ≤ i → n ≡ told (size units)
units_all units i n so_far le = so_far.is ∙ ap (λ us. told (size us)) (take_all i units le)

-- the bytes of the first i types of a list, in descriptors one after the other
pub record TypesTo (types : List JType) (i n : ℕ) : Type 0 where
  pub is : n ≡ told (size (flat_map field_descriptor (take i types)))

one_more : (types : List JType) (i : ℕ) (ty : JType) → i < length types → ty ≡ get_or types i ty → size (flat_map field_descriptor (take (i + 1) types)) ≡ size (flat_map field_descriptor (take i types)) + size (field_descriptor ty)
one_more types i ty lt is =
    let d = field_descriptor in
    let front : size (flat_map d (take (i + 1) types)) ≡ size (flat_map d (take i types)) + size (flat_map d (ty ∷ [])) =
    ap (λ ts. size (flat_map d ts)) (take_more types i ty lt ∙ ap (λ t. take i types ++ t ∷ []) (sym is)) ∙ ap size (flat_map-append d (take i types) (ty ∷ [])) ∙ size_append (flat_map d (take i types)) (flat_map d (ty ∷ [])) in
    let one : size (flat_map d (ty ∷ [])) ≡ size (d ty) + 0 = size_append (d ty) [] in
    omega (arith, front, one)

pub types_more : (types : List JType) (i n : ℕ) (ty : JType) (bytes next : ℕ) → TypesTo types i n → i < length types → ty ≡ get_or types i ty → bytes ≡ told (size (field_descriptor ty)) → next ≡ min (n + bytes) 18446744073709551615 → TypesTo types (i + 1) next
types_more types i n ty bytes next so_far lt is sized next_is =
    record { is = omega (arith, so_far.is, one_more types i ty lt is, sized, next_is) }

pub types_all : (types : List JType) (i n : ℕ) → TypesTo types i n → length types ≤ i → n ≡ told (size (flat_map field_descriptor types))
types_all types i n so_far le = so_far.is ∙ ap (λ ts. told (size (flat_map field_descriptor ts))) (take_all i types le)

-- ---- bounds

at_most_three : (b c : Bool) (x y1 y2 z1 z2 z3 : ℕ) → length (if b then x ∷ [] else if c then y1 ∷ y2 ∷ [] else z1 ∷ z2 ∷ z3 ∷ []) ≤ 3
at_most_three true c x y1 y2 z1 z2 z3 = omega arith
at_most_three false true x y1 y2 z1 z2 z3 = omega arith
at_most_three false false x y1 y2 z1 z2 z3 = omega arith

unit_most : (u : ℕ) → length (unit_bytes u) ≤ 3
unit_most u = at_most_three (nat_lt 0 u && nat_lt u 128) (nat_lt u 2048) u (192 + u / 64) (128 + u % 64) (224 + u / 4096) (128 + u / 64 % 64) (128 + u % 64)

pub units_most : (units : List ℕ) → size units ≤ 3 * length units
units_most [] = omega arith
units_most (u ∷ us) = omega (arith, size_cons u us, unit_most u, units_most us)

-- no more than a bound, for the first i types of a list
pub record TypesUnder (types : List JType) (i n : ℕ) : Type 0 where
  pub is : told (size (flat_map field_descriptor (take i types))) ≤ n

pub under_more : (types : List JType) (i n : ℕ) (ty : JType) (bytes next : ℕ) → TypesUnder types i n → i < length types → ty ≡ get_or types i ty → told (size (field_descriptor ty)) ≤ bytes → next ≡ min (n + bytes) 18446744073709551615 → TypesUnder types (i + 1) next
under_more types i n ty bytes next so_far lt is sized next_is =
    record { is = omega (arith, so_far.is, one_more types i ty lt is, sized, next_is) }

pub under_all : (types : List JType) (i n : ℕ) → TypesUnder types i n → length types ≤ i → told (size (flat_map field_descriptor types)) ≤ n
under_all types i n so_far le = omega (arith, so_far.is, ap (λ ts. size (flat_map field_descriptor ts)) (take_all i types le))

-- a class alone is its name, without 'L' and ';'
base_most : (base : BaseType) → size (base_name base) ≤ size (base_descriptor base)
base_most (bases.Class name) = omega (arith, class_size name)
base_most (bases.Primitive p) = omega arith

either_most : (b : Bool) (us vs : List ℕ) → size us ≤ size vs → size (if b then us else vs) ≤ size vs
either_most true us vs h = h
either_most false us vs h = omega arith

pub class_name_most : (ty : JType) → size (class_name_of ty) ≤ size (field_descriptor ty)
class_name_most ty = either_most (ty.depth == 0) (base_name ty.base) (field_descriptor ty) (omega (arith, type_size ty, base_most ty.base))

-- ---- a text that is too long, or not

pub long_if : (text : List ℕ) (n : ℕ) → n ≡ told (length text) → long_text (text ∷ []) ≡ (if nat_lt 65535 n then Some n else None)
unfolding long_text first_over
long_if text n is = grind arith

pub not_long : (text : List ℕ) (bound : ℕ) → told (length text) ≤ bound → bound ≤ 65535 → long_text (text ∷ []) ≡ None
unfolding long_text first_over
not_long text bound most small = grind arith
