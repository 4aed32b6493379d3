-- What is written for frames is these.
use Rattle.std.proofs.Common.{◌≡◌, ℕ, ◌-◌, List, [], ◌∷◌, ◌++◌, refl, sym, ap, subst}
use Rattle.std.specs.Prelude.{All}
use Rattle.std.proofs.lemmas.Option.{slice_get_within}
use Rattle.std.proofs.lemmas.List.Elements.{All-weaker}
use Rattle.class_input.specs.Grammar.{IsU16}
use Rattle.class_model.specs.declared.types.JType.{JType}
use Rattle.class_model.specs.declared.class.VType.{VType}
use Rattle.class_model.specs.declared.class.VType.TheVariants as types
use Rattle.class_model.specs.declared.class.Frame.{Frame}
use Rattle.class_model.specs.declared.insn.Insn.{Insn}
use Rattle.class_shape.specs.Shaped.{ShapedType, ShapedFrame}
use Rattle.class_limits.specs.Sizes.{CodeLayout, offset_at}
use Rattle.const_pool.specs.Pool.{Pool}
use Rattle.class_names.specs.Names.{NamesType}
use Rattle.class_names.specs.Pieces.{AtIndex, IsTable}
use Rattle.code_tables.specs.CodeTables.{Begins}
use Rattle.insn_code.specs.Linking.{Code}
use Rattle.frame_tables.specs.FrameTable.{IsVType}
use Rattle.stack_maps.specs.declared.frame.RawType.{RawType}
use Rattle.stack_maps.specs.declared.frame.RawType.TheVariants as raw
use Rattle.stack_maps.specs.Grammar as grammar
use Rattle.pool_names.specs.Adding.{Adding, done, spell_u16}
use Rattle.pool_names.specs.Spelling.{spell_type}
use Rattle.pool_names.specs.Claims.{Claims}
use Rattle.pool_names.proofs.Claiming.{claims_as, done_claims, Then, then_claims}
use Rattle.pool_names.proofs.Naming.{type_claims}
use Rattle.pool_names.proofs.Lists.{u16_claims}
use Rattle.class_spelling.specs.Forms.{spell_index}
use Rattle.class_spelling.proofs.Forms.{index_claims, table_claims}
use Rattle.insn_spelling.specs.Conditions.{LaysOut, offsets}
use Rattle.code_spelling.specs.Tables.{spell_offset}
use Rattle.code_spelling.specs.Frames.{tagged, spell_vtype, spell_vtypes, spell_frame}
use Rattle.code_spelling.proofs.TableLaws.{begins_claims}

-- ---- types

-- a type as it stands in the bytes, and what it stands for
abbrev pub IsRawType : Pool → Code → List VType → List ℕ → VType → Type 0
IsRawType r code first text t = (x : RawType) × grammar.IsType text x × IsVType r code first x t

tagged_claims : (C : Pool → List ℕ → Type 0) (D : Pool → List ℕ → Type 0) (tag : ℕ) (spell : Adding (List ℕ)) → ((r : Pool) (rest : List ℕ) → C r rest → D r (tag ∷ rest)) → Claims C spell → Claims D (tagged tag spell)
tagged_claims C D tag spell to claims =
    claims_as (Then C (λ rest r text. (tag ∷ rest) ≡ text)) D (tagged tag spell) (λ r text h. subst (λ (t : List ℕ). D r t) h.2 (to r h.0 h.1))
    (then_claims C _ spell _ claims (λ rest. done_claims (tag ∷ rest)))

alone_claims : (D : Pool → List ℕ → Type 0) (text : List ℕ) → ((r : Pool) → D r text) → Claims D (done text)
alone_claims D text holds = claims_as (λ r t. text ≡ t) D (done text) (λ r t h. subst (λ (z : List ℕ). D r z) h (holds r)) (done_claims text)

ref_type : (r : Pool) (code : Code) (first : List VType) (ty : JType) (rest : List ℕ) → AtIndex (NamesType r) rest ty → IsRawType r code first (7 ∷ rest) (types.Ref ty)
ref_type r code first ty rest h = (raw.Object h.0, (h.1.0, ap (λ (t : List ℕ). 7 ∷ t) h.1.1), (ty, h.2, refl))

vtype_claims : (layout : CodeLayout) (insns : List Insn) (first : List VType) (t : VType) → LaysOut layout insns → ShapedType insns t → Claims (λ r text. IsRawType r (insns, offsets layout) first text t) (spell_vtype layout t)
unfolding spell_vtype
vtype_claims layout insns first types.Top lays shaped = alone_claims _ (0 ∷ []) (λ r. (raw.Top, refl, refl))
vtype_claims layout insns first types.Int lays shaped = alone_claims _ (1 ∷ []) (λ r. (raw.Int, refl, refl))
vtype_claims layout insns first types.Long lays shaped = alone_claims _ (4 ∷ []) (λ r. (raw.Long, refl, refl))
vtype_claims layout insns first types.Null lays shaped = alone_claims _ (5 ∷ []) (λ r. (raw.Null, refl, refl))
vtype_claims layout insns first types.UninitThis lays shaped = alone_claims _ (6 ∷ []) (λ r. (raw.UninitThis, refl, refl))
vtype_claims layout insns first (types.Ref ty) lays shaped =
    tagged_claims (λ r rest. AtIndex (NamesType r) rest ty) (λ r text. IsRawType r (insns, offsets layout) first text (types.Ref ty)) 7 (spell_index (spell_type ty))
    (λ r rest h. ref_type r (insns, offsets layout) first ty rest h)
    (index_claims NamesType ty (spell_type ty) (type_claims ty shaped.no_primitive shaped.in_grammar))
vtype_claims layout insns first (types.Uninit at) lays shaped =
    tagged_claims (λ r rest. AtIndex (Begins (offsets layout)) rest at) (λ r text. IsRawType r (insns, offsets layout) first text (types.Uninit at)) 8 (spell_offset layout at)
    (λ r rest h. (raw.Uninit h.0, (h.1.0, ap (λ (t : List ℕ). 8 ∷ t) h.1.1), (at, h.2, shaped, refl)))
    (begins_claims layout insns at lays (slice_get_within insns at _ shaped.1))

vtypes_claims : (layout : CodeLayout) (insns : List Insn) (first ts : List VType) → LaysOut layout insns → All (ShapedType insns) ts → Claims (λ r text. IsTable (IsRawType r (insns, offsets layout) first) text ts) (spell_vtypes layout ts)
vtypes_claims layout insns first ts lays shaped =
    table_claims (λ r. IsRawType r (insns, offsets layout) first) (spell_vtype layout) ts
    (All-weaker (ShapedType insns) (λ (t : VType). Claims (λ r text. IsRawType r (insns, offsets layout) first text t) (spell_vtype layout t)) (λ t s. vtype_claims layout insns first t lays s) ts shaped)

-- ---- a frame

-- what is claimed of a frame where the one before it leaves `next`
pub record Spelled (r : Pool) (layout : CodeLayout) (insns : List Insn) (first : List VType) (text : List ℕ) (placed : ℕ × (ℕ × Frame)) : Type 0 where
  pub delta : List ℕ
  pub locals : List ℕ
  pub stack : List ℕ
  pub spelled : text ≡ 255 ∷ (delta ++ (locals ++ stack))
  pub delta_is : IsU16 delta (offset_at layout placed.1.0 - placed.0)
  pub locals_are : IsTable (IsRawType r (insns, offsets layout) first) locals placed.1.1.locals
  pub stack_is : IsTable (IsRawType r (insns, offsets layout) first) stack placed.1.1.stack

pub frame_claims : (layout : CodeLayout) (insns : List Insn) (first : List VType) (placed : ℕ × (ℕ × Frame)) → LaysOut layout insns → ShapedFrame insns placed.1 → Claims (λ r text. Spelled r layout insns first text placed) (spell_frame layout placed)
unfolding spell_frame
frame_claims layout insns first placed lays shaped =
    let R : Pool → List ℕ → VType → Type 0 = λ r. IsRawType r (insns, offsets layout) first in
    let frame = placed.1.1 in
    let delta_of : ℕ = offset_at layout placed.1.0 - placed.0 in
    claims_as
    (Then (λ r delta. IsU16 delta delta_of) (λ delta.
    Then (λ r locals. IsTable (R r) locals frame.locals) (λ locals.
    Then (λ r stack. IsTable (R r) stack frame.stack) (λ stack r text. (255 ∷ (delta ++ (locals ++ stack))) ≡ text))))
    (λ r text. Spelled r layout insns first text placed) (spell_frame layout placed)
    (λ r text h. record { delta = h.0; locals = h.2.0; stack = h.2.2.0; spelled = sym h.2.2.2; delta_is = h.1; locals_are = h.2.1; stack_is = h.2.2.1 })
    (then_claims _ _ (spell_u16 delta_of) _ (u16_claims delta_of)
    (λ delta. then_claims _ _ (spell_vtypes layout frame.locals) _ (vtypes_claims layout insns first frame.locals lays shaped.locals)
    (λ locals. then_claims _ _ (spell_vtypes layout frame.stack) _ (vtypes_claims layout insns first frame.stack lays shaped.stack)
    (λ stack. done_claims (255 ∷ (delta ++ (locals ++ stack)))))))
