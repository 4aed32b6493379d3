-- Types as a class file names them have their shape, and so have those of the first frame.
use Rattle.std.proofs.Common.{◌≡◌, inl, inr, ℕ, zero, suc, Bool, true, false, cond, List, [], ◌∷◌, ◌++◌, All, refl, sym, ap, subst, ◌∙◌, arith}
use Rattle.std.specs.Prelude.{◌==◌, ◌&&◌, replicate, map}
use Rattle.std.proofs.Math.Dec.{eqb-suc-zero}
use Rattle.std.proofs.lemmas.List.Elements.{All-nil, All-cons, All-append, All-map, All-head, All-tail}
use Rattle.class_model.specs.declared.types.Primitive.{Primitive}
use Rattle.class_model.specs.declared.types.Primitive.TheVariants as primitives
use Rattle.class_model.specs.declared.types.BaseType.{BaseType}
use Rattle.class_model.specs.declared.types.BaseType.TheVariants as bases
use Rattle.class_model.specs.declared.types.JType.{JType}
use Rattle.class_model.specs.declared.class.VType.{VType}
use Rattle.class_model.specs.declared.class.VType.TheVariants.{UninitThis, Ref}
use Rattle.class_model.specs.declared.insn.Insn.{Insn}
use Rattle.class_model.specs.Descriptor.{base_descriptor, field_descriptor, IsClassName, IsFieldType, IsMethodType, is_primitive_base, is_primitive_type}
use Rattle.const_pool.specs.Pool.{Pool}
use Rattle.class_names.specs.Names.{is_array_name, class_type, NamesType}
use Rattle.class_names.proofs.StepLaws.{split}
use Rattle.class_shape.specs.ShapedInsn.{IsReferenceType}
use Rattle.class_shape.specs.Shaped.{ShapedType}
use Rattle.class_file.specs.declared.method.MethodHead.{MethodHead}
use Rattle.frame_tables.specs.FirstFrame.{is_static, begins_uninit, receiver, receiver_type, primitive_type, plain_type, param_type, first_types}

-- a primitive type has no descriptor that begins with '['
array_base : (depth : ℕ) (base : BaseType) → is_array_name (replicate depth 91 ++ base_descriptor base) ≡ true → (depth == 0) && is_primitive_base base ≡ false
array_base zero (bases.Primitive primitives.Boolean) h = absurd cc
array_base zero (bases.Primitive primitives.Byte) h = absurd cc
array_base zero (bases.Primitive primitives.Char) h = absurd cc
array_base zero (bases.Primitive primitives.Short) h = absurd cc
array_base zero (bases.Primitive primitives.Int) h = absurd cc
array_base zero (bases.Primitive primitives.Long) h = absurd cc
array_base zero (bases.Primitive primitives.Float) h = absurd cc
array_base zero (bases.Primitive primitives.Double) h = absurd cc
array_base zero (bases.Class name) h = refl
array_base (suc depth) base h = rw eqb-suc-zero refl

array_type : (ty : JType) → is_array_name (field_descriptor ty) ≡ true → is_primitive_type ty ≡ false
unfolding field_descriptor
array_type ty h = array_base ty.depth ty.base h

pub class_shaped : (name : List ℕ) → IsClassName name → IsReferenceType (class_type name)
class_shaped name h = record { in_grammar = record { dimensions = omega arith; base = h }; no_primitive = refl }

pub type_shaped : (p : Pool) (k : ℕ) (ty : JType) → NamesType p k ty → IsReferenceType ty
type_shaped p k ty h =
    elim (split (is_array_name h.0) h.2) [
      | inl a ↦
          let spells = a.1 in
          record { in_grammar = spells.in_grammar; no_primitive = array_type ty (ap is_array_name spells.text_is ∙ a.0) }
      | inr a ↦
          let parts = a.1 in
          subst (λ (z : JType). IsReferenceType z) (sym parts.0) (class_shaped h.0 parts.1)
    ]

-- ---- the first frame

primitive_shaped : (insns : List Insn) (primitive : Primitive) → ShapedType insns (primitive_type primitive)
primitive_shaped insns primitives.Boolean = tt
primitive_shaped insns primitives.Byte = tt
primitive_shaped insns primitives.Char = tt
primitive_shaped insns primitives.Short = tt
primitive_shaped insns primitives.Int = tt
primitive_shaped insns primitives.Long = tt
primitive_shaped insns primitives.Float = tt
primitive_shaped insns primitives.Double = tt

is_reference : (ty : JType) (b : Bool) (base : BaseType) → (ty.depth == 0) ≡ b → ty.base ≡ base → b && is_primitive_base base ≡ false → IsFieldType ty → IsReferenceType ty
is_reference ty b base depth base_is apart h = record { in_grammar = h; no_primitive = ap (λ (z : Bool). z && is_primitive_base ty.base) depth ∙ ap (λ (z : BaseType). b && is_primitive_base z) base_is ∙ apart }

plain_shaped : (insns : List Insn) (ty : JType) (b : Bool) (base : BaseType) → (ty.depth == 0) ≡ b → ty.base ≡ base → IsFieldType ty → ShapedType insns (cond b (plain_type ty base) (Ref ty))
plain_shaped insns ty true (bases.Primitive primitive) depth base_is h = primitive_shaped insns primitive
plain_shaped insns ty true (bases.Class name) depth base_is h = is_reference ty true (bases.Class name) depth base_is refl h
plain_shaped insns ty false base depth base_is h = is_reference ty false base depth base_is refl h

param_shaped : (insns : List Insn) (ty : JType) → IsFieldType ty → ShapedType insns (param_type ty)
param_shaped insns ty h = plain_shaped insns ty (ty.depth == 0) ty.base refl refl h

params_shaped : (insns : List Insn) (params : List JType) → All IsFieldType params → All (λ ty. ShapedType insns (param_type ty)) params
params_shaped insns [] h = All-nil (λ ty. ShapedType insns (param_type ty))
params_shaped insns (ty ∷ params) h = All-cons (λ ty. ShapedType insns (param_type ty)) ty params (param_shaped insns ty (All-head IsFieldType ty params h)) (params_shaped insns params (All-tail IsFieldType ty params h))

receiver_shaped : (insns : List Insn) (class : List ℕ) (b : Bool) → IsClassName class → ShapedType insns (cond b UninitThis (Ref (class_type class)))
receiver_shaped insns class true h = tt
receiver_shaped insns class false h = class_shaped class h

receivers_shaped : (insns : List Insn) (b : Bool) (t : VType) → ShapedType insns t → All (ShapedType insns) (cond b [] (t ∷ []))
receivers_shaped insns true t h = All-nil (ShapedType insns)
receivers_shaped insns false t h = All-cons (ShapedType insns) t [] h (All-nil (ShapedType insns))

-- the first frame of a method of a class whose name a type can have
pub first_shaped : (insns : List Insn) (class : List ℕ) (head : MethodHead) → IsClassName class → IsMethodType head.desc → All (ShapedType insns) (first_types class head)
unfolding first_types
first_shaped insns class head name desc =
    All-append (ShapedType insns) (receiver class head) (map param_type head.desc.params)
    (receivers_shaped insns (is_static head) (receiver_type class head) (receiver_shaped insns class (begins_uninit class head) name))
    (All-map (ShapedType insns) param_type head.desc.params (params_shaped insns head.desc.params desc.params))
