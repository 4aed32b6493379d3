-- An index that is put for a text, a class, a type, a member or a constant names it.
use Rattle.std.proofs.Common.{◌≡◌, ◌≢◌, ◌∙◌, ℕ, zero, suc, ℤ, ◌<◌, ◌^◌, Bool, true, false, cond, eqb, List, [], ◌∷◌, ◌++◌, Option, Some, refl, ap, subst, arith}
use Rattle.std.specs.Prelude.{option_and_then, replicate}
use Rattle.std.proofs.lemmas.Grind.{common_steps}
use Rattle.std.specs.List.{list_all}
use Rattle.std.proofs.lemmas.List.Elements.{All-nil, All-cons, All-head}
use Rattle.pool_names.proofs.Texts.{both_true}
use Rattle.modified_utf8.specs.Text.{AreUnits, text_bytes}
use Rattle.class_model.specs.declared.types.BaseType.{BaseType}
use Rattle.class_model.specs.declared.types.BaseType.TheVariants as bases
use Rattle.class_model.specs.declared.types.JType.{JType}
use Rattle.class_model.specs.declared.types.MethodDesc.{MethodDesc}
use Rattle.class_model.specs.declared.types.FieldRef.{FieldRef}
use Rattle.class_model.specs.declared.types.MethodRef.{MethodRef}
use Rattle.class_model.specs.declared.class.Constant.{Constant}
use Rattle.class_model.specs.declared.class.Constant.TheVariants as constants
use Rattle.class_model.specs.declared.insn.Insn.TheVariants.{PushInt, PushString}
use Rattle.class_model.specs.Descriptor.{IsClassName, IsFieldType, IsMethodType, field_descriptor, base_descriptor, method_descriptor, is_primitive_type}
use Rattle.const_pool.specs.declared.entry.Entry.{Entry}
use Rattle.const_pool.specs.declared.entry.Entry.TheVariants as entries
use Rattle.const_pool.specs.Pool.{Pool, entry_at, as_text, as_class, as_name_and_type, names}
use Rattle.class_names.specs.declared.member.MethodEntry.{MethodEntry}
use Rattle.class_names.specs.Names.{NamesBytes, NamesText, NamesClass, is_array_name, class_type, IsClassType, NamesType, NamesFieldType, NamesMethodDesc, as_field, NamesField, as_method, NamesMethod, NamesLong, NamesPushed, NamesConstant}
use Rattle.pool_names.specs.Adding.{Adding, unspelled, add_entry}
use Rattle.pool_names.specs.Spelling.{is_unit, spell_bytes, spell_text, spell_class, class_text_of, class_text, spell_type, spell_field_type, spell_desc, spell_name_and_type, spell_field, method_entry, spell_method, spell_int, spell_long, spell_string, spell_constant}
use Rattle.pool_names.specs.Claims.{Claims, IsIndex, IsTaken}
use Rattle.const_pool.specs.Editor.{Extends}
use Rattle.const_pool.specs.Pool.{IsNamed}
use Rattle.const_pool.proofs.EditorLaws.{named_by}
use Rattle.pool_names.proofs.Claiming.{given, extends_then, added, bind_is, StandsAt, add_claims, claims_as, Then, then_claims}

-- what an entry that stands at an index is taken for
viewed : {A : Type 0} (view : Entry → Option A) (r : Pool) (k : ℕ) (e : Entry) → entry_at r k ≡ Some e → names view r k ≡ view e
viewed view r k e h = ap (option_and_then view) h

-- ---- what is put names something at once, as what refers to it needs

units_in_range : (units : List ℕ) → list_all is_unit units ≡ true → AreUnits units
units_in_range [] h = All-nil (λ u. u < 2 ^ 16)
units_in_range (unit ∷ units) h =
    let parts = both_true (is_unit unit) (list_all is_unit units) h in
    let first : unit < 2 ^ 16 = grind (arith, common_steps, parts.0) in
    All-cons (λ u. u < 2 ^ 16) unit units first (units_in_range units parts.1)

-- a text that is put has units, and its bytes are put
text_is : (units : List ℕ) (p q : Pool) (k : ℕ) → spell_text units p ≡ given q k → AreUnits units × (add_entry (entries.Utf8 (text_bytes units)) p ≡ given q k)
unfolding spell_text
text_is units p q k h = by (list_all is_unit units) refl h
  where
    by : (b : Bool) → list_all is_unit units ≡ b → (let m : Adding ℕ = cond b (spell_bytes (text_bytes units)) unspelled in m p) ≡ given q k → AreUnits units × (add_entry (entries.Utf8 (text_bytes units)) p ≡ given q k)
    by true is h = (units_in_range units is, h)
    by false is h = absurd cc

pub text_named : (units : List ℕ) (p q : Pool) (k : ℕ) → spell_text units p ≡ given q k → IsNamed as_text q k
text_named units p q k h = let e : Entry = entries.Utf8 (text_bytes units) in named_by as_text q k e (text_bytes units) (added e p q k (text_is units p q k h).1).1 refl

pub text_grows : (units : List ℕ) (p q : Pool) (k : ℕ) → spell_text units p ≡ given q k → Extends p q
text_grows units p q k h = (added (entries.Utf8 (text_bytes units)) p q k (text_is units p q k h).1).0

pub class_named : (name : List ℕ) (p q : Pool) (k : ℕ) → spell_class name p ≡ given q k → IsNamed as_class q k
unfolding spell_class
class_named name p q k h =
    let parts = bind_is (spell_text name p) (λ text. add_entry (entries.Class text)) q k h in
    named_by as_class q k (entries.Class parts.1) parts.1 (added (entries.Class parts.1) parts.0 q k parts.3).1 refl

pub type_named : (ty : JType) (p q : Pool) (k : ℕ) → spell_type ty p ≡ given q k → IsNamed as_class q k
unfolding spell_type
type_named ty p q k h = class_named (class_text ty) p q k h

pub pair_named : (name descriptor : List ℕ) (p q : Pool) (k : ℕ) → spell_name_and_type name descriptor p ≡ given q k → Extends p q × IsNamed as_name_and_type q k
unfolding spell_name_and_type
pair_named name descriptor p q k h =
    let first = bind_is (spell_text name p) _ q k h in
    let second = bind_is (spell_text descriptor first.0) (λ d. add_entry (entries.NameAndType first.1 d)) q k first.3 in
    let e : Entry = entries.NameAndType first.1 second.1 in
    let last = added e second.0 q k second.3 in (
      extends_then p first.0 q (text_grows name p first.0 first.1 first.2) (extends_then first.0 second.0 q (text_grows descriptor first.0 second.0 second.1 second.2) last.0),
      named_by as_name_and_type q k e (first.1, second.1) last.1 refl,
    )

-- ---- texts

pub bytes_claims : (bytes : List ℕ) → Claims (IsIndex NamesBytes bytes) (spell_bytes bytes)
bytes_claims bytes =
    claims_as (IsIndex StandsAt (entries.Utf8 bytes)) (IsIndex NamesBytes bytes) (spell_bytes bytes)
    (λ r k h. (h.0, viewed as_text r k (entries.Utf8 bytes) h.1))
    (add_claims (entries.Utf8 bytes))

pub text_claims : (units : List ℕ) → Claims (IsIndex NamesText units) (spell_text units)
text_claims units = record {
  each = λ p q k h.
      let is = text_is units p q k h in
      let bytes = (bytes_claims (text_bytes units)).each p q k is.1 in
      record {
        grows = bytes.grows;
        holds = λ r b. let there = bytes.holds r b in (there.0, (text_bytes units, there.1, record { in_range = is.0; spelled = refl }));
      };
}

-- ---- classes and types

pub class_claims : (name : List ℕ) → Claims (IsIndex NamesClass name) (spell_class name)
unfolding spell_class
class_claims name =
    claims_as (Then (IsIndex NamesText name) (λ text. IsIndex StandsAt (entries.Class text))) (IsIndex NamesClass name) (spell_class name)
    (λ r k h. (h.2.0, (h.0, viewed as_class r k (entries.Class h.0) h.2.1, h.1.1)))
    (then_claims (IsIndex NamesText name) (λ text. IsIndex StandsAt (entries.Class text)) (spell_text name) (λ text. add_entry (entries.Class text)) (text_claims name) (λ text. add_claims (entries.Class text)))

not_bracket : (unit : ℕ) → unit ≢ 91 → eqb unit 91 ≡ false
not_bracket unit h = grind (arith, common_steps)

no_array : (name : List ℕ) → IsClassName name → is_array_name name ≡ false
no_array [] h = refl
no_array (unit ∷ units) h = not_bracket unit (All-head (λ u. u ≢ 91) unit units h.no_array)

type_text : (depth : ℕ) (base : BaseType) (ty : JType) → ty.depth ≡ depth → ty.base ≡ base → is_primitive_type ty ≡ false → IsFieldType ty → IsClassType (class_text_of depth base (field_descriptor ty)) ty
unfolding field_descriptor
type_text zero (bases.Primitive primitive) ty d b h fits = absurd (let yes : is_primitive_type ty ≡ true = rw (d, b) refl in cc)
type_text zero (bases.Class name) ty d b h fits =
    let is : ty ≡ class_type name = ap (λ (k : ℕ). let t : JType = record { depth = k; base = ty.base } in t) d ∙ ap (λ (z : BaseType). let t : JType = record { depth = 0; base = z } in t) b in
    let named : IsClassName name = (subst (λ (t : JType). IsFieldType t) is fits).base in
    rw (no_array name named) (is, named)
type_text (suc depth) base ty d b h fits =
    let test : is_array_name (field_descriptor ty) ≡ true = ap (λ (k : ℕ). is_array_name (replicate k 91 ++ base_descriptor ty.base)) d in
    rw test (record { text_is = refl; in_grammar = fits })

-- a class or an array, which is no primitive type
pub type_claims : (ty : JType) → is_primitive_type ty ≡ false → IsFieldType ty → Claims (IsIndex NamesType ty) (spell_type ty)
unfolding spell_type
type_claims ty reference fits =
    claims_as (IsIndex NamesClass (class_text ty)) (IsIndex NamesType ty) (spell_class (class_text ty))
    (λ r k h. (h.0, (class_text ty, h.1, type_text ty.depth ty.base ty refl refl reference fits)))
    (class_claims (class_text ty))

pub field_type_claims : (ty : JType) → IsFieldType ty → Claims (IsIndex NamesFieldType ty) (spell_field_type ty)
unfolding spell_field_type
field_type_claims ty fits =
    claims_as (IsIndex NamesText (field_descriptor ty)) (IsIndex NamesFieldType ty) (spell_text (field_descriptor ty))
    (λ r k h. (h.0, (field_descriptor ty, h.1, record { text_is = refl; in_grammar = fits })))
    (text_claims (field_descriptor ty))

pub desc_claims : (desc : MethodDesc) → IsMethodType desc → Claims (IsIndex NamesMethodDesc desc) (spell_desc desc)
unfolding spell_desc
desc_claims desc fits =
    claims_as (IsIndex NamesText (method_descriptor desc)) (IsIndex NamesMethodDesc desc) (spell_text (method_descriptor desc))
    (λ r k h. (h.0, (method_descriptor desc, h.1, record { text_is = refl; in_grammar = fits })))
    (text_claims (method_descriptor desc))

-- ---- members

-- a name with a descriptor
abbrev pub NamesPair : List ℕ → Pool → ℕ → List ℕ → Type 0
NamesPair descriptor r k name = (n d : ℕ) × (names as_name_and_type r k ≡ Some (n, d)) × NamesText r n name × NamesText r d descriptor

pub pair_claims : (name descriptor : List ℕ) → Claims (IsIndex (NamesPair descriptor) name) (spell_name_and_type name descriptor)
unfolding spell_name_and_type
pair_claims name descriptor =
    claims_as
    (Then (IsIndex NamesText name) (λ n. Then (IsIndex NamesText descriptor) (λ d. IsIndex StandsAt (entries.NameAndType n d))))
    (IsIndex (NamesPair descriptor) name) (spell_name_and_type name descriptor)
    (λ r k h. (h.2.2.0, (h.0, h.2.0, viewed as_name_and_type r k (entries.NameAndType h.0 h.2.0) h.2.2.1, h.1.1, h.2.1.1)))
    (then_claims (IsIndex NamesText name) _ (spell_text name) _ (text_claims name)
    (λ n. then_claims (IsIndex NamesText descriptor) _ (spell_text descriptor) _ (text_claims descriptor)
    (λ d. add_claims (entries.NameAndType n d))))

pub field_claims : (field : FieldRef) → IsFieldType field.ty → Claims (IsIndex NamesField field) (spell_field field)
unfolding spell_field
field_claims field fits =
    claims_as
    (Then (IsIndex NamesClass field.class) (λ c. Then (IsIndex (NamesPair (field_descriptor field.ty)) field.name) (λ m. IsIndex StandsAt (entries.Field c m))))
    (IsIndex NamesField field) (spell_field field)
    (λ r k h. let pair = h.2.1.1 in (
      h.2.2.0,
      record {
        class_index = h.0;
        pair_index = h.2.0;
        name_index = pair.0;
        type_index = pair.1;
        entry = viewed as_field r k (entries.Field h.0 h.2.0) h.2.2.1;
        class_named = h.1.1;
        pair = pair.2;
        named = pair.3;
        typed = (field_descriptor field.ty, pair.4, record { text_is = refl; in_grammar = fits });
      },
    ))
    (then_claims (IsIndex NamesClass field.class) _ (spell_class field.class) _ (class_claims field.class)
    (λ c. then_claims (IsIndex (NamesPair (field_descriptor field.ty)) field.name) _ (spell_name_and_type field.name (field_descriptor field.ty)) _ (pair_claims field.name (field_descriptor field.ty))
    (λ m. add_claims (entries.Field c m))))

pub method_claims : (kind : MethodEntry) (method : MethodRef) → IsTaken kind method.in_interface → is_primitive_type method.class ≡ false → IsFieldType method.class → IsMethodType method.desc → Claims (IsIndex (NamesMethod kind) method) (spell_method method)
unfolding spell_method
method_claims kind method taken reference typed fits =
    claims_as
    (Then (IsIndex NamesType method.class) (λ c. Then (IsIndex (NamesPair (method_descriptor method.desc)) method.name) (λ m. IsIndex StandsAt (method_entry method.in_interface c m))))
    (IsIndex (NamesMethod kind) method) (spell_method method)
    (λ r k h. let pair = h.2.1.1 in (
      h.2.2.0,
      record {
        class_index = h.0;
        pair_index = h.2.0;
        name_index = pair.0;
        desc_index = pair.1;
        entry = viewed (as_method kind) r k (method_entry method.in_interface h.0 h.2.0) h.2.2.1 ∙ taken h.0 h.2.0;
        class_typed = h.1.1;
        pair = pair.2;
        named = pair.3;
        typed = (method_descriptor method.desc, pair.4, record { text_is = refl; in_grammar = fits });
      },
    ))
    (then_claims (IsIndex NamesType method.class) _ (spell_type method.class) _ (type_claims method.class reference typed)
    (λ c. then_claims (IsIndex (NamesPair (method_descriptor method.desc)) method.name) _ (spell_name_and_type method.name (method_descriptor method.desc)) _ (pair_claims method.name (method_descriptor method.desc))
    (λ m. add_claims (method_entry method.in_interface c m))))

-- ---- constants

pub long_claims : (n : ℤ) → Claims (IsIndex NamesLong n) (spell_long n)
long_claims n =
    claims_as (IsIndex StandsAt (entries.Long n)) (IsIndex NamesLong n) (spell_long n)
    (λ r k h. (h.0, ap (option_and_then _) h.1))
    (add_claims (entries.Long n))

pub int_claims : (n : ℤ) → Claims (IsIndex NamesPushed (PushInt n)) (spell_int n)
int_claims n =
    claims_as (IsIndex StandsAt (entries.Integer n)) (IsIndex NamesPushed (PushInt n)) (spell_int n)
    (λ r k h. (h.0, (entries.Integer n, h.1, refl)))
    (add_claims (entries.Integer n))

-- the text of a String
abbrev NamesTextEntry : Pool → ℕ → List ℕ → Type 0
NamesTextEntry r k units = (text : ℕ) × (entry_at r k ≡ Some (entries.Text text)) × NamesText r text units

text_entry_claims : (units : List ℕ) → Claims (IsIndex NamesTextEntry units) (spell_string units)
unfolding spell_string
text_entry_claims units =
    claims_as (Then (IsIndex NamesText units) (λ text. IsIndex StandsAt (entries.Text text))) (IsIndex NamesTextEntry units) (spell_string units)
    (λ r k h. (h.2.0, (h.0, h.2.1, h.1.1)))
    (then_claims (IsIndex NamesText units) _ (spell_text units) _ (text_claims units) (λ text. add_claims (entries.Text text)))

pub string_claims : (units : List ℕ) → Claims (IsIndex NamesPushed (PushString units)) (spell_string units)
string_claims units =
    claims_as (IsIndex NamesTextEntry units) (IsIndex NamesPushed (PushString units)) (spell_string units)
    (λ r k h. let e = h.1 in (h.0, (entries.Text e.0, e.1, (units, e.2, refl))))
    (text_entry_claims units)

pub constant_claims : (constant : Constant) → Claims (IsIndex NamesConstant constant) (spell_constant constant)
constant_claims (constants.Int n) =
    claims_as (IsIndex StandsAt (entries.Integer n)) (IsIndex NamesConstant (constants.Int n)) (spell_int n)
    (λ r k h. (h.0, (entries.Integer n, h.1, refl)))
    (add_claims (entries.Integer n))
constant_claims (constants.Long n) =
    claims_as (IsIndex StandsAt (entries.Long n)) (IsIndex NamesConstant (constants.Long n)) (spell_long n)
    (λ r k h. (h.0, (entries.Long n, h.1, refl)))
    (add_claims (entries.Long n))
constant_claims (constants.Text units) =
    claims_as (IsIndex NamesTextEntry units) (IsIndex NamesConstant (constants.Text units)) (spell_string units)
    (λ r k h. let e = h.1 in (h.0, (entries.Text e.0, e.1, (units, e.2, refl))))
    (text_entry_claims units)
