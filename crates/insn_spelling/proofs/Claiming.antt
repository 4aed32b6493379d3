-- What is claimed of instructions that are written one after the other: they are these, in each pool that extends the one afterwards.
use Rattle.std.proofs.Common.{◌≡◌, ℕ, Bool, true, false, List, length, refl, subst}
use Rattle.std.specs.Prelude.{if◌then◌else◌}
use Rattle.class_model.specs.declared.insn.Insn.{Insn}
use Rattle.class_model.specs.declared.insn.Insn.TheVariants.{PushInt, PushLong, PushString, GetStatic, PutStatic, GetField, PutField, Invoke, New, ANewArray, CheckCast, InstanceOf, MultiNewArray}
use Rattle.class_model.specs.declared.insn.InvokeKind.{InvokeKind}
use Rattle.class_model.specs.declared.insn.InvokeKind.TheVariants as calls
use Rattle.class_model.specs.declared.types.MethodRef.{MethodRef}
use Rattle.class_names.specs.Names.{NamesLong, NamesPushed}
use Rattle.class_shape.specs.ShapedInsn.{ShapedInsn, FitsKind}
use Rattle.class_limits.specs.Sizes.{CodeLayout, is_small_long, size_at}
use Rattle.const_pool.specs.Pool.{Pool}
use Rattle.opcode_table.specs.Writing.{spelling}
use Rattle.insn_code.specs.InsnBytes.{IsUnlinked}
use Rattle.pool_names.specs.Adding.{Adding, done, unspelled}
use Rattle.pool_names.specs.Claims.{Claims, IsIndex, IsTaken}
use Rattle.pool_names.specs.Spelling.{spell_int, spell_long}
use Rattle.pool_names.proofs.Claiming.{claims_as, done_claims, Then, then_claims}
use Rattle.pool_names.proofs.Naming.{class_claims, type_claims, field_claims, method_claims, long_claims, int_claims, string_claims}
use Rattle.insn_spelling.specs.Raw.{fits_i16, raw_of}
use Rattle.insn_spelling.specs.Conditions.{is_in_range, Writable}
use Rattle.insn_spelling.specs.Spelling.{index_of, spell_indexed, spell_insn}
use Rattle.insn_spelling.proofs.OneInsn.{taken_by, Named, unlinked_of, stands}
use Rattle.insn_spelling.proofs.SizeLaws.{sized}

-- ---- the index

taken_is : (kind : InvokeKind) (method : MethodRef) → FitsKind kind method → IsTaken (taken_by kind) method.in_interface
taken_is calls.Virtual method fits = rw fits (λ c m. refl)
taken_is calls.Special method fits = either_taken method.in_interface
  where
    either_taken : (b : Bool) → IsTaken (taken_by calls.Special) b
    either_taken true = λ c m. refl
    either_taken false = λ c m. refl
taken_is calls.Static method fits = either_taken method.in_interface
  where
    either_taken : (b : Bool) → IsTaken (taken_by calls.Static) b
    either_taken true = λ c m. refl
    either_taken false = λ c m. refl
taken_is calls.Interface method fits = rw fits.0 (λ c m. refl)

-- an index only where a test fails
unless : (C : Pool → ℕ → Type 0) (b : Bool) (m : Adding ℕ) → Claims C m → Claims (λ r k. b ≡ false → C r k) (if b then done 0 else m)
unless C true m claims = claims_as (λ r k. 0 ≡ k) (λ r k. true ≡ false → C r k) (done 0) (λ r k h no. absurd cc) (done_claims 0)
unless C false m claims = claims_as C (λ r k. false ≡ false → C r k) m (λ r k h yes. h) claims

nothing : Claims {A = ℕ} (λ r k. Unit {0}) (done 0)
nothing = claims_as (λ r k. 0 ≡ k) (λ r k. Unit {0}) (done 0) (λ r k h. tt) (done_claims 0)

pub index_claims : (n : ℕ) (insn : Insn) → ShapedInsn n insn → Claims (λ r k. Named r k insn) (index_of insn)
unfolding index_of
index_claims n (PushInt m) shaped = unless (IsIndex NamesPushed (PushInt m)) (fits_i16 m) (spell_int m) (int_claims m)
index_claims n (PushLong m) shaped = unless (IsIndex NamesLong m) (is_small_long m) (spell_long m) (long_claims m)
index_claims n (PushString units) shaped = string_claims units
index_claims n (GetStatic field) shaped = field_claims field shaped
index_claims n (PutStatic field) shaped = field_claims field shaped
index_claims n (GetField field) shaped = field_claims field shaped
index_claims n (PutField field) shaped = field_claims field shaped
index_claims n (Invoke kind method) shaped = method_claims (taken_by kind) method (taken_is kind method shaped.fits) shaped.class.no_primitive shaped.class.in_grammar shaped.desc
index_claims n (New class) shaped = class_claims class
index_claims n (ANewArray ty) shaped = type_claims ty shaped.no_primitive shaped.in_grammar
index_claims n (CheckCast ty) shaped = type_claims ty shaped.no_primitive shaped.in_grammar
index_claims n (InstanceOf ty) shaped = type_claims ty shaped.no_primitive shaped.in_grammar
index_claims n (MultiNewArray ty count) shaped = type_claims ty shaped.class.no_primitive shaped.class.in_grammar
index_claims n insn shaped = nothing

-- ---- one instruction

-- it is this one, up to where its branches lead, and it has its size
abbrev pub IsWritten : CodeLayout → ℕ → Insn → Pool → List ℕ → Type 0
IsWritten layout pc insn r text = IsUnlinked r pc text (unlinked_of layout pc insn) × (length text ≡ size_at layout.wide_goto pc insn)

-- with an index that names what it has to
abbrev Indexed : CodeLayout → ℕ → Insn → ℕ → Pool → List ℕ → Type 0
Indexed layout pc insn k r text = (is_in_range insn ≡ true) × (spelling pc (raw_of layout pc k insn) ≡ text)

indexed_claims : (layout : CodeLayout) (pc : ℕ) (insn : Insn) (k : ℕ) (b : Bool) → is_in_range insn ≡ b → Claims (Indexed layout pc insn k) (if b then done (spelling pc (raw_of layout pc k insn)) else unspelled)
indexed_claims layout pc insn k true range =
    let text : List ℕ = spelling pc (raw_of layout pc k insn) in
    claims_as (λ r t. text ≡ t) (Indexed layout pc insn k) (done text) (λ r t h. (range, h)) (done_claims text)
indexed_claims layout pc insn k false range = record { each = λ p q text h. absurd cc }

pub insn_claims : (layout : CodeLayout) (n pc : ℕ) (insn : Insn) → Writable layout n pc insn → Claims (IsWritten layout pc insn) (spell_insn layout pc insn)
unfolding spell_insn
insn_claims layout n pc insn w =
    claims_as
    (Then (λ r k. Named r k insn) (λ k. Indexed layout pc insn k)) (IsWritten layout pc insn) (spell_insn layout pc insn)
    (λ r text h.
    let is = stands r layout pc h.0 n insn w.small w.near h.2.0 w.shaped w.branch w.size h.1 in
    subst (λ (t : List ℕ). IsWritten layout pc insn r t) h.2.1 (is, sized layout pc h.0 insn))
    (then_claims (λ r k. Named r k insn) (λ k. Indexed layout pc insn k) (index_of insn) (spell_indexed layout pc insn) (index_claims n insn w.shaped) (λ k. indexed_claims layout pc insn k (is_in_range insn) refl))
