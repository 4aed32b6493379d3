-- Judging an index is exact for what it names.
use Rattle.std.proofs.Common.{◌≡◌, ◌≢◌, ℕ, Bool, true, false, cond, eqb, List, [], ◌∷◌, length, Option, Some, None, Result, refl, sym, ap, subst, arith, All}
use Rattle.std.specs.Prelude.{MatchBool, ◌==◌, ◌||◌, ◌&&◌, not, option_and_then}
use Rattle.std.specs.List.{list_any}
use Rattle.std.proofs.lemmas.Bool.{eqb-true, eqb-false}
use Rattle.std.proofs.lemmas.Grind.{common_steps}
use Rattle.std.proofs.lemmas.List.Elements.{All-nil, All-cons, All-weaker}
use Rattle.std.proofs.lemmas.List.Folds.{list_any_none}
use Rattle.class_input.specs.declared.bad_class.BadKind.TheVariants.{Text, Descriptor}
use Rattle.class_input.specs.Reading.{Fault, judging}
use Rattle.modified_utf8.specs.Text.{IsText}
use Rattle.class_model.specs.declared.types.JType.{JType}
use Rattle.class_model.specs.declared.types.MethodDesc.{MethodDesc}
use Rattle.class_model.specs.declared.types.FieldRef.{FieldRef}
use Rattle.class_model.specs.declared.types.MethodRef.{MethodRef}
use Rattle.class_model.specs.declared.class.Constant.TheVariants as constants
use Rattle.class_model.specs.declared.insn.Insn.TheVariants.{PushInt, PushString}
use Rattle.class_model.specs.Descriptor.{IsClassName, SpellsField, SpellsMethod}
use Rattle.class_model.specs.Reading.{field_of, method_of}
use Rattle.class_model.proofs.Laws.{field_of-spells, method_of-spells}
use Rattle.const_pool.specs.declared.entry.Entry.{Entry}
use Rattle.const_pool.specs.declared.entry.Entry.TheVariants as entries
use Rattle.const_pool.specs.Pool.{Pool, entry_at, names, as_text, as_class, as_name_and_type}
use Rattle.const_pool.specs.PoolReading.{named}
use Rattle.const_pool.proofs.PoolLaws.{named_is, is_named}
use Rattle.class_names.specs.declared.member.MethodEntry.{MethodEntry}
use Rattle.class_names.specs.Names.{NamesBytes, NamesText, MayName, NamesClass, is_array_name, class_type, IsClassType, NamesType, NamesFieldType, NamesMethodDesc, as_field, NamesField, as_method, NamesMethod, as_string, NamesString, as_long, NamesLong, IsPushed, NamesPushed, IsConstant, NamesConstant}
use Rattle.class_names.specs.Steps.{fit}
use Rattle.class_names.specs.NameReading.{units_in, text_at, some_of, optional, class_name_at, is_separator, is_plain_class, plain_class, class_type_of, class_type_at, field_type_at, method_desc_at, field_at, method_at, string_at, long_at, any_entry, wrong_kind, pushed, pushed_at, constant, constant_at}
use Rattle.class_names.proofs.StepLaws.{fine, Judges, After, judges_same, fine_judges, then_judges, fit_judges}
use Rattle.class_names.proofs.TextLaws.{units_found, units_spelled}

pub named_judges : {A : Type 0} (view : Entry → Option A) (p : Pool) (place k : ℕ) → Judges (λ a. names view p k ≡ Some a) (named view p place k)
named_judges view p place k = record { is = λ a h. named_is view p place k a h; again = λ a h. is_named view p place k a h }

-- what no entry of index 0 names
pub no_name : {A : Type 0} (view : Entry → Option A) (p : Pool) (a : A) → names view p 0 ≡ Some a → ⊥
no_name view p a h = absurd cc

-- ---- texts

units_judges : (place : ℕ) (bytes : List ℕ) → Judges (λ units. IsText bytes units) (fit place Text (units_in bytes))
units_judges place bytes = judges_same (λ units. units_in bytes ≡ Some units) (λ units. IsText bytes units) (fit place Text (units_in bytes)) (units_found bytes) (units_spelled bytes) (fit_judges place Text (units_in bytes))

pub text_judges : (p : Pool) (place k : ℕ) → Judges (NamesText p k) (text_at p place k)
unfolding text_at
text_judges p place k = then_judges (NamesBytes p k) IsText (named as_text p place k) (λ bytes. fit place Text (units_in bytes)) (named_judges as_text p place k) (units_judges place)

-- ---- an index that may be 0

some_judges : {A : Type 0} (a : A) → Judges (λ o. (let s : Option A = Some a in s) ≡ o) (some_of a)
some_judges {A} a = fine_judges (let s : Option A = Some a in s)

abbrev Picked : {A : Type 0} → (ℕ → A → Type 0) → Bool → ℕ → Option A → Type 0
Picked {A} Names b k o = MatchBool b (o ≡ None) ((a : A) × Names k a × ((let s : Option A = Some a in s) ≡ o))

none_judges : {A : Type 0} → Judges (λ (o : Option A). o ≡ None) (fine None)
none_judges = record { is = λ o h. let e : None ≡ o = cc in sym e; again = λ o h. ap fine (sym h) }

picked_judges : {A : Type 0} (Names : ℕ → A → Type 0) (judge : ℕ → ℕ → Result A Fault) (place k : ℕ) (b : Bool) → Judges (Names k) (judge place k)
    → Judges (Picked Names b k) (cond b (fine None) (judging (judge place k) some_of))
picked_judges Names judge place k true j = none_judges
picked_judges {A} Names judge place k false j = then_judges (Names k) (λ a o. (let s : Option A = Some a in s) ≡ o) (judge place k) some_of j some_judges

picked_may : {A : Type 0} (Names : ℕ → A → Type 0) (k : ℕ) (o : Option A) (b : Bool) → eqb k 0 ≡ b → Picked Names b k o → MayName Names k o
picked_may Names k None true is h = eqb-true _ _ is
picked_may Names k (Some a) true is h = absurd cc
picked_may Names k None false is h = absurd (let e = h.2 in cc)
picked_may Names k (Some a) false is h = let e : h.0 ≡ a = let e = h.2 in cc in subst (λ (z : _). Names k z) e h.1

may_picked : {A : Type 0} (Names : ℕ → A → Type 0) (k : ℕ) (o : Option A) (b : Bool) → ((a : A) → Names 0 a → ⊥) → eqb k 0 ≡ b → MayName Names k o → Picked Names b k o
may_picked Names k None true never is h = refl
may_picked Names k (Some a) true never is h = absurd (never a (subst (λ (z : ℕ). Names z a) (eqb-true _ _ is) h))
may_picked Names k None false never is h = absurd (eqb-false _ _ is h)
may_picked Names k (Some a) false never is h = (a, h, refl)

pub optional_judges : {A : Type 0} (Names : ℕ → A → Type 0) (judge : ℕ → ℕ → Result A Fault) (place k : ℕ) → ((a : A) → Names 0 a → ⊥) → Judges (Names k) (judge place k) → Judges (MayName Names k) (optional judge place k)
unfolding optional
optional_judges Names judge place k never j =
    judges_same (Picked Names (eqb k 0) k) (MayName Names k) (cond (eqb k 0) (fine None) (judging (judge place k) some_of))
    (λ o h. picked_may Names k o (eqb k 0) refl h)
    (λ o h. may_picked Names k o (eqb k 0) never refl h)
    (picked_judges Names judge place k (eqb k 0) j)

-- ---- classes and types

pub class_name_judges : (p : Pool) (place k : ℕ) → Judges (NamesClass p k) (class_name_at p place k)
unfolding class_name_at
class_name_judges p place k = then_judges (λ text. names as_class p k ≡ Some text) (NamesText p) (named as_class p place k) (text_at p place) (named_judges as_class p place k) (text_judges p place)

or_false : (a b : Bool) → (a || b) ≡ false → (a ≡ false) × (b ≡ false)
or_false true b h = absurd cc
or_false false b h = (refl, h)

and_true : (a b : Bool) → (a && b) ≡ true → (a ≡ true) × (b ≡ true)
and_true true b h = (refl, h)
and_true false b h = absurd cc

not_true : (a : Bool) → not a ≡ true → a ≡ false
not_true true h = absurd cc
not_true false h = refl

none_is : (p : ℕ → Bool) (xs : List ℕ) → list_any p xs ≡ false → All (λ x. p x ≡ false) xs
none_is p [] h = All-nil (λ x. p x ≡ false)
none_is p (x ∷ xs) h = let c = or_false (p x) (list_any p xs) h in All-cons (λ x. p x ≡ false) x xs c.0 (none_is p xs c.1)

no_separator : (unit : ℕ) → is_separator unit ≡ false → (unit ≢ 59) × (unit ≢ 91)
no_separator unit h = let c = or_false (eqb unit 59) (eqb unit 91) h in (eqb-false _ _ c.0, eqb-false _ _ c.1)

a_separator : (unit : ℕ) → unit ≢ 59 → unit ≢ 91 → is_separator unit ≡ false
a_separator unit h g = grind (arith, common_steps)

some_unit : (name : List ℕ) → name ≢ [] → not (length name == 0) ≡ true
some_unit [] h = absurd (h refl)
some_unit (unit ∷ units) h = let test : (length (unit ∷ units) == 0) ≡ false = grind (arith, common_steps) in rw test refl

plain_is : (name : List ℕ) → is_plain_class name ≡ true → IsClassName name
plain_is name h =
    let c = and_true (not (length name == 0)) (not (list_any is_separator name)) h in
    let none = none_is is_separator name (not_true (list_any is_separator name) c.1) in
    record {
      some_unit = λ e. let z : not (length name == 0) ≡ false = rw e refl in let t = c.0 in cc;
      no_end = All-weaker (λ u. is_separator u ≡ false) (λ u. u ≢ 59) (λ u e. (no_separator u e).0) name none;
      no_array = All-weaker (λ u. is_separator u ≡ false) (λ u. u ≢ 91) (λ u e. (no_separator u e).1) name none;
    }

is_plain : (name : List ℕ) → IsClassName name → is_plain_class name ≡ true
is_plain name h =
    let none : list_any is_separator name ≡ false = list_any_none is_separator name (λ k d lt. a_separator _ (h.no_end k d lt) (h.no_array k d lt)) in
    rw (some_unit name h.some_unit, none) refl

abbrev IsPlainType : List ℕ → JType → Type 0
IsPlainType name ty = (ty ≡ class_type name) × IsClassName name

plain_type : (name : List ℕ) (ty : JType) (b : Bool) → is_plain_class name ≡ b → cond b (let s : Option JType = Some (class_type name) in s) None ≡ Some ty → IsPlainType name ty
plain_type name ty true is h = (let e : class_type name ≡ ty = cc in sym e, plain_is name is)
plain_type name ty false is h = absurd cc

type_plain : (name : List ℕ) (ty : JType) → IsPlainType name ty → plain_class name ≡ Some ty
type_plain name ty h = rw (is_plain name h.1) (ap (λ (t : JType). Some t) (sym h.0))

class_type_is : (name : List ℕ) (ty : JType) (b : Bool) → cond b (field_of name) (plain_class name) ≡ Some ty → MatchBool b (SpellsField name ty) (IsPlainType name ty)
class_type_is name ty true h = (field_of-spells name ty).0 h
class_type_is name ty false h = plain_type name ty (is_plain_class name) refl h

is_class_type : (name : List ℕ) (ty : JType) (b : Bool) → MatchBool b (SpellsField name ty) (IsPlainType name ty) → cond b (field_of name) (plain_class name) ≡ Some ty
is_class_type name ty true h = (field_of-spells name ty).1 h
is_class_type name ty false h = type_plain name ty h

class_type_found : (name : List ℕ) (ty : JType) → class_type_of name ≡ Some ty → IsClassType name ty
unfolding class_type_of
class_type_found name ty h = class_type_is name ty (is_array_name name) h

class_type_spelled : (name : List ℕ) (ty : JType) → IsClassType name ty → class_type_of name ≡ Some ty
unfolding class_type_of
class_type_spelled name ty h = is_class_type name ty (is_array_name name) h

-- the value that a text spells, or a refusal of a descriptor
spelled_judges : {A : Type 0} (Spells : List ℕ → A → Type 0) (of : List ℕ → Option A) → ((text : List ℕ) (a : A) → of text ≡ Some a → Spells text a) → ((text : List ℕ) (a : A) → Spells text a → of text ≡ Some a)
    → (place : ℕ) (text : List ℕ) → Judges (Spells text) (fit place Descriptor (of text))
spelled_judges Spells of found spelled place text = judges_same (λ a. of text ≡ Some a) (Spells text) (fit place Descriptor (of text)) (found text) (spelled text) (fit_judges place Descriptor (of text))

pub class_type_judges : (p : Pool) (place k : ℕ) → Judges (NamesType p k) (class_type_at p place k)
unfolding class_type_at
class_type_judges p place k = then_judges (NamesClass p k) IsClassType (class_name_at p place k) (λ name. fit place Descriptor (class_type_of name)) (class_name_judges p place k) (spelled_judges IsClassType class_type_of class_type_found class_type_spelled place)

pub field_type_judges : (p : Pool) (place k : ℕ) → Judges (NamesFieldType p k) (field_type_at p place k)
unfolding field_type_at
field_type_judges p place k = then_judges (NamesText p k) SpellsField (text_at p place k) (λ text. fit place Descriptor (field_of text)) (text_judges p place k) (spelled_judges SpellsField field_of (λ t a. (field_of-spells t a).0) (λ t a. (field_of-spells t a).1) place)

pub method_desc_judges : (p : Pool) (place k : ℕ) → Judges (NamesMethodDesc p k) (method_desc_at p place k)
unfolding method_desc_at
method_desc_judges p place k = then_judges (NamesText p k) SpellsMethod (text_at p place k) (λ text. fit place Descriptor (method_of text)) (text_judges p place k) (spelled_judges SpellsMethod method_of (λ t a. (method_of-spells t a).0) (λ t a. (method_of-spells t a).1) place)

-- ---- members

abbrev Pair : Pool → ℕ → ℕ × ℕ → Type 0
Pair p k pair = names as_name_and_type p k ≡ Some pair

abbrev made_field : List ℕ → List ℕ → JType → FieldRef
made_field class name ty = record { class = class; name = name; ty = ty }

abbrev FieldEnd : Pool → List ℕ → List ℕ → ℕ → FieldRef → Type 0
FieldEnd p class name k = After (NamesFieldType p k) (λ ty field. made_field class name ty ≡ field)

abbrev FieldNamed : Pool → List ℕ → ℕ × ℕ → FieldRef → Type 0
FieldNamed p class pair = After (NamesText p pair.0) (λ name. FieldEnd p class name pair.1)

abbrev FieldPaired : Pool → List ℕ → ℕ → FieldRef → Type 0
FieldPaired p class k = After (Pair p k) (FieldNamed p class)

abbrev FieldParts : Pool → ℕ × ℕ → FieldRef → Type 0
FieldParts p parts = After (NamesClass p parts.0) (λ class. FieldPaired p class parts.1)

abbrev FieldOf : Pool → ℕ → FieldRef → Type 0
FieldOf p k = After (λ parts. names as_field p k ≡ Some parts) (FieldParts p)

field_to : (p : Pool) (k : ℕ) (field : FieldRef) → FieldOf p k field → NamesField p k field
field_to p k field h =
    let class = h.2 in
    let pair = class.2 in
    let name = pair.2 in
    let ty = name.2 in
    subst (λ (z : FieldRef). NamesField p k z) ty.2 (record {
      class_index = h.0.0;
      pair_index = h.0.1;
      name_index = pair.0.0;
      type_index = pair.0.1;
      entry = h.1;
      class_named = class.1;
      pair = pair.1;
      named = name.1;
      typed = ty.1;
    })

field_from : (p : Pool) (k : ℕ) (field : FieldRef) → NamesField p k field → FieldOf p k field
field_from p k field h =
    ((h.class_index, h.pair_index), h.entry, (field.class, h.class_named, ((h.name_index, h.type_index), h.pair, (field.name, h.named, (field.ty, h.typed, refl)))))

pub field_judges : (p : Pool) (place k : ℕ) → Judges (NamesField p k) (field_at p place k)
unfolding field_at
field_judges p place k =
    judges_same (FieldOf p k) (NamesField p k) _ (field_to p k) (field_from p k)
    (then_judges (λ parts. names as_field p k ≡ Some parts) (FieldParts p) (named as_field p place k) _ (named_judges as_field p place k) (λ parts.
    then_judges (NamesClass p parts.0) (λ class. FieldPaired p class parts.1) (class_name_at p place parts.0) _ (class_name_judges p place parts.0) (λ class.
    then_judges (Pair p parts.1) (FieldNamed p class) (named as_name_and_type p place parts.1) _ (named_judges as_name_and_type p place parts.1) (λ pair.
    then_judges (NamesText p pair.0) (λ name. FieldEnd p class name pair.1) (text_at p place pair.0) _ (text_judges p place pair.0) (λ name.
    then_judges (NamesFieldType p pair.1) (λ ty field. made_field class name ty ≡ field) (field_type_at p place pair.1) (λ ty. fine (made_field class name ty)) (field_type_judges p place pair.1) (λ ty. fine_judges (made_field class name ty)))))))

abbrev made_method : JType → List ℕ → MethodDesc → Bool → MethodRef
made_method class name desc in_interface = record { class = class; name = name; desc = desc; in_interface = in_interface }

abbrev MethodEnd : Pool → JType → List ℕ → Bool → ℕ → MethodRef → Type 0
MethodEnd p class name in_interface k = After (NamesMethodDesc p k) (λ desc method. made_method class name desc in_interface ≡ method)

abbrev MethodNamed : Pool → JType → Bool → ℕ × ℕ → MethodRef → Type 0
MethodNamed p class in_interface pair = After (NamesText p pair.0) (λ name. MethodEnd p class name in_interface pair.1)

abbrev MethodPaired : Pool → JType → Bool → ℕ → MethodRef → Type 0
MethodPaired p class in_interface k = After (Pair p k) (MethodNamed p class in_interface)

abbrev MethodParts : Pool → ℕ × ℕ × Bool → MethodRef → Type 0
MethodParts p parts = After (NamesType p parts.0) (λ class. MethodPaired p class parts.2 parts.1)

abbrev MethodOf : MethodEntry → Pool → ℕ → MethodRef → Type 0
MethodOf kind p k = After (λ parts. names (as_method kind) p k ≡ Some parts) (MethodParts p)

method_to : (kind : MethodEntry) (p : Pool) (k : ℕ) (method : MethodRef) → MethodOf kind p k method → NamesMethod kind p k method
method_to kind p k method h =
    let class = h.2 in
    let pair = class.2 in
    let name = pair.2 in
    let desc = name.2 in
    subst (λ (z : MethodRef). NamesMethod kind p k z) desc.2 (record {
      class_index = h.0.0;
      pair_index = h.0.1;
      name_index = pair.0.0;
      desc_index = pair.0.1;
      entry = h.1;
      class_typed = class.1;
      pair = pair.1;
      named = name.1;
      typed = desc.1;
    })

method_from : (kind : MethodEntry) (p : Pool) (k : ℕ) (method : MethodRef) → NamesMethod kind p k method → MethodOf kind p k method
method_from kind p k method h = (
  (h.class_index, h.pair_index, method.in_interface),
  h.entry,
  (method.class, h.class_typed, ((h.name_index, h.desc_index), h.pair, (method.name, h.named, (method.desc, h.typed, refl)))),
)

pub method_judges : (kind : MethodEntry) (p : Pool) (place k : ℕ) → Judges (NamesMethod kind p k) (method_at kind p place k)
unfolding method_at
method_judges kind p place k =
    judges_same (MethodOf kind p k) (NamesMethod kind p k) _ (method_to kind p k) (method_from kind p k)
    (then_judges (λ parts. names (as_method kind) p k ≡ Some parts) (MethodParts p) (named (as_method kind) p place k) _ (named_judges (as_method kind) p place k) (λ parts.
    then_judges (NamesType p parts.0) (λ class. MethodPaired p class parts.2 parts.1) (class_type_at p place parts.0) _ (class_type_judges p place parts.0) (λ class.
    then_judges (Pair p parts.1) (MethodNamed p class parts.2) (named as_name_and_type p place parts.1) _ (named_judges as_name_and_type p place parts.1) (λ pair.
    then_judges (NamesText p pair.0) (λ name. MethodEnd p class name parts.2 pair.1) (text_at p place pair.0) _ (text_judges p place pair.0) (λ name.
    then_judges (NamesMethodDesc p pair.1) (λ desc method. made_method class name desc parts.2 ≡ method) (method_desc_at p place pair.1) (λ desc. fine (made_method class name desc parts.2)) (method_desc_judges p place pair.1) (λ desc. fine_judges (made_method class name desc parts.2)))))))

-- ---- constants

pub string_judges : (p : Pool) (place k : ℕ) → Judges (NamesString p k) (string_at p place k)
unfolding string_at
string_judges p place k = then_judges (λ text. names as_string p k ≡ Some text) (NamesText p) (named as_string p place k) (text_at p place) (named_judges as_string p place k) (text_judges p place)

pub long_judges : (p : Pool) (place k : ℕ) → Judges (NamesLong p k) (long_at p place k)
long_judges p place k = named_judges as_long p place k

-- the entry that an index names is some entry
some_entry : (o : Option Entry) (e : Entry) → option_and_then any_entry o ≡ Some e → o ≡ Some e
some_entry None e h = absurd cc
some_entry (Some d) e h = h

entry_judges : (p : Pool) (place k : ℕ) → Judges (λ e. entry_at p k ≡ Some e) (named any_entry p place k)
entry_judges p place k =
    judges_same (λ e. names any_entry p k ≡ Some e) (λ e. entry_at p k ≡ Some e) (named any_entry p place k)
    (λ e h. some_entry (entry_at p k) e h)
    (λ e h. ap (option_and_then any_entry) h)
    (named_judges any_entry p place k)

refused_judges : {A : Type 0} (place k : ℕ) → Judges (λ (a : A). ⊥) (wrong_kind place k)
refused_judges place k = record { is = λ a h. absurd cc; again = λ a h. absurd h }

-- a value that an entry is by itself
value_judges : {A : Type 0} (x : A) → Judges (λ a. a ≡ x) (fine x)
value_judges x = judges_same (λ a. x ≡ a) (λ a. a ≡ x) (fine x) (λ a h. sym h) (λ a h. sym h) (fine_judges x)

-- the text of an entry, made a value
made_judges : {A : Type 0} (make : List ℕ → A) (p : Pool) (place k : ℕ) → Judges (λ a. (units : List ℕ) × NamesText p k units × (a ≡ make units)) (judging (text_at p place k) (λ units. fine (make units)))
made_judges make p place k = then_judges (NamesText p k) (λ units a. a ≡ make units) (text_at p place k) (λ units. fine (make units)) (text_judges p place k) (λ units. value_judges (make units))

entry_pushed : (p : Pool) (place k : ℕ) (e : Entry) → Judges (IsPushed p e) (pushed p place k e)
unfolding pushed
entry_pushed p place k (entries.Utf8 t) = refused_judges place k
entry_pushed p place k (entries.Integer n) = value_judges (PushInt n)
entry_pushed p place k (entries.Float n) = refused_judges place k
entry_pushed p place k (entries.Long n) = refused_judges place k
entry_pushed p place k (entries.Double n) = refused_judges place k
entry_pushed p place k (entries.Class c) = refused_judges place k
entry_pushed p place k (entries.Text t) = made_judges PushString p place t
entry_pushed p place k (entries.Field c m) = refused_judges place k
entry_pushed p place k (entries.Method c m) = refused_judges place k
entry_pushed p place k (entries.InterfaceMethod c m) = refused_judges place k
entry_pushed p place k (entries.NameAndType c m) = refused_judges place k
entry_pushed p place k (entries.Handle c m) = refused_judges place k
entry_pushed p place k (entries.MethodType c) = refused_judges place k
entry_pushed p place k (entries.Dynamic c m) = refused_judges place k

pub pushed_judges : (p : Pool) (place k : ℕ) → Judges (NamesPushed p k) (pushed_at p place k)
unfolding pushed_at
pushed_judges p place k = then_judges (λ e. entry_at p k ≡ Some e) (IsPushed p) (named any_entry p place k) (pushed p place k) (entry_judges p place k) (entry_pushed p place k)

entry_constant : (p : Pool) (place k : ℕ) (e : Entry) → Judges (IsConstant p e) (constant p place k e)
unfolding constant
entry_constant p place k (entries.Utf8 t) = refused_judges place k
entry_constant p place k (entries.Integer n) = value_judges (constants.Int n)
entry_constant p place k (entries.Float n) = refused_judges place k
entry_constant p place k (entries.Long n) = value_judges (constants.Long n)
entry_constant p place k (entries.Double n) = refused_judges place k
entry_constant p place k (entries.Class c) = refused_judges place k
entry_constant p place k (entries.Text t) = made_judges constants.Text p place t
entry_constant p place k (entries.Field c m) = refused_judges place k
entry_constant p place k (entries.Method c m) = refused_judges place k
entry_constant p place k (entries.InterfaceMethod c m) = refused_judges place k
entry_constant p place k (entries.NameAndType c m) = refused_judges place k
entry_constant p place k (entries.Handle c m) = refused_judges place k
entry_constant p place k (entries.MethodType c) = refused_judges place k
entry_constant p place k (entries.Dynamic c m) = refused_judges place k

pub constant_judges : (p : Pool) (place k : ℕ) → Judges (NamesConstant p k) (constant_at p place k)
unfolding constant_at
constant_judges p place k = then_judges (λ e. entry_at p k ≡ Some e) (IsConstant p) (named any_entry p place k) (constant p place k) (entry_judges p place k) (entry_constant p place k)
