-- A class that is spelled is the class that it is written for.
use Rattle.std.proofs.Common.{◌≡◌, ◌∙◌, ℕ, List, [], ◌∷◌, ◌++◌, Option, Some, None, Result, Ok, Err, refl, sym, ap, subst, append_assoc, arith}
use Rattle.std.specs.Prelude.{IfSome, IsErrAnd}
use Rattle.std.proofs.lemmas.List.{append-nil}
use Rattle.class_input.specs.Grammar.{IsU16, IsU32}
use Rattle.class_model.specs.declared.class.CodeDef.{CodeDef}
use Rattle.class_model.specs.declared.class.FieldDef.{FieldDef}
use Rattle.class_model.specs.declared.class.MethodDef.{MethodDef}
use Rattle.class_model.specs.declared.class.ClassDef.{ClassDef}
use Rattle.const_pool.specs.declared.editor.PoolStop.{PoolStop}
use Rattle.const_pool.specs.declared.editor.PoolStop.TheVariants.{Full, Memory}
use Rattle.const_pool.specs.Pool.{Pool, IsPool}
use Rattle.class_names.specs.Pieces.{joined, IsTable, AtIndex}
use Rattle.class_names.specs.Names.{NamesText, MayName, NamesClass, NamesFieldType, NamesMethodDesc}
use Rattle.class_attributes.specs.Attributes.{constant_value, exceptions, source_file, inner_classes, IsConstantValue, IsExceptions, IsSourceFile, IsInnerClasses, ReadsOne}
use Rattle.class_file.specs.declared.method.MethodHead.{MethodHead}
use Rattle.class_file.specs.ClassBytes.{code_name, IsField, head_of, IsMethod, IsClassBody, ClassBytes}
use Rattle.pool_names.specs.Adding.{Adding, spell_u16, spell_u32, PutsBy, Unfit}
use Rattle.pool_names.specs.Spelling.{spell_text, spell_class, spell_field_type, spell_desc}
use Rattle.pool_names.specs.Claims.{Becomes, Claims}
use Rattle.pool_names.proofs.Claiming.{given, claims_as, done_claims, extends_same, Then, then_claims}
use Rattle.pool_names.proofs.Naming.{text_claims, class_claims, field_type_claims, desc_claims}
use Rattle.pool_names.proofs.Lists.{u16_claims, u32_claims}
use Rattle.class_spelling.specs.Forms.{spell_index, spell_optional, spell_table}
use Rattle.class_spelling.specs.AttributeSpelling.{spell_classes, spell_field_attributes, spell_method_attributes, spell_class_attributes}
use Rattle.class_spelling.specs.ClassSpelling.{spell_field, spell_method, spell_class_head, spell_members, spell_class_body, spell_front, spell_sides, pool_bytes, spell_class_file, IsWritten}
use Rattle.class_spelling.specs.Writable.{WritableField, WritableMethod, Writable}
use Rattle.class_spelling.proofs.Forms.{index_claims, optional_claims, table_claims}
use Rattle.class_spelling.proofs.Attributes.{class_index_claims, classes_claims, field_attributes_claims, ReadsAny, method_attributes_claims, class_attributes_claims}

-- ---- members

field_claims : (field : FieldDef) → WritableField field → Claims (λ r text. IsField r text field) (spell_field field)
unfolding spell_field
field_claims field fits =
    let Named : Pool → List ℕ → Type 0 = λ r text. AtIndex (NamesText r) text field.name in
    let Typed : Pool → List ℕ → Type 0 = λ r text. AtIndex (NamesFieldType r) text field.ty in
    let Attributes : Pool → List ℕ → Type 0 = λ r text. ReadsOne r constant_value (IsConstantValue r) text field.constant in
    claims_as
    (Then (λ r flags. IsU16 flags field.flags) (λ flags. Then Named (λ name. Then Typed (λ descriptor. Then Attributes (λ attributes r text. joined (flags ∷ name ∷ descriptor ∷ attributes ∷ []) ≡ text)))))
    (λ r text. IsField r text field) (spell_field field)
    (λ r text h. record {
      flags = h.0;
      name = h.2.0;
      descriptor = h.2.2.0;
      attributes = h.2.2.2.0;
      spelled = sym h.2.2.2.2;
      flags_are = h.1;
      named = h.2.1;
      typed = h.2.2.1;
      attributes_are = h.2.2.2.1;
    })
    (then_claims (λ r flags. IsU16 flags field.flags) _ (spell_u16 field.flags) _ (u16_claims field.flags)
    (λ flags. then_claims Named _ (spell_index (spell_text field.name)) _ (index_claims NamesText field.name (spell_text field.name) (text_claims field.name))
    (λ name. then_claims Typed _ (spell_index (spell_field_type field.ty)) _ (index_claims NamesFieldType field.ty (spell_field_type field.ty) (field_type_claims field.ty fits.typed))
    (λ descriptor. then_claims Attributes _ (spell_field_attributes field.constant) _ (field_attributes_claims field.constant)
    (λ attributes. done_claims (joined (flags ∷ name ∷ descriptor ∷ attributes ∷ [])))))))

-- how the content of a Code attribute is written, and what it then is
pub record Writes (IsCode : Pool → List ℕ → MethodHead → List ℕ → CodeDef → Type 0) (WritableCode : CodeDef → Type 0) (spell : CodeDef → Adding (List ℕ)) : Type 0 where
  pub claims : (class : List ℕ) (head : MethodHead) (code : CodeDef) → WritableCode code → Claims (λ r text. IsCode r class head text code) (spell code)

code_at : (WritableCode : CodeDef → Type 0) (o : Option CodeDef) (code : CodeDef) → IfSome o WritableCode → o ≡ Some code → WritableCode code
code_at WritableCode None code h is = absurd cc
code_at WritableCode (Some x) code h is = let same : x ≡ code = cc in subst WritableCode same h

method_claims : (IsCode : Pool → List ℕ → MethodHead → List ℕ → CodeDef → Type 0) (WritableCode : CodeDef → Type 0) (spell : CodeDef → Adding (List ℕ)) → Writes IsCode WritableCode spell → (class : List ℕ) (method : MethodDef) → WritableMethod WritableCode method
    → Claims (λ r text. IsMethod IsCode r class text method) (spell_method spell method)
unfolding spell_method
method_claims IsCode WritableCode spell writes class method fits =
    let Named : Pool → List ℕ → Type 0 = λ r text. AtIndex (NamesText r) text method.name in
    let Typed : Pool → List ℕ → Type 0 = λ r text. AtIndex (NamesMethodDesc r) text method.desc in
    let Content : Pool → List ℕ → CodeDef → Type 0 = λ r text code. IsCode r class (head_of method) text code in
    let Attributes : Pool → List ℕ → Type 0 = λ r text. ReadsAny r code_name (Content r) exceptions (IsExceptions r) text method.code method.throws in
    claims_as
    (Then (λ r flags. IsU16 flags method.flags) (λ flags. Then Named (λ name. Then Typed (λ descriptor. Then Attributes (λ attributes r text. joined (flags ∷ name ∷ descriptor ∷ attributes ∷ []) ≡ text)))))
    (λ r text. IsMethod IsCode r class text method) (spell_method spell method)
    (λ r text h. record {
      flags = h.0;
      name = h.2.0;
      descriptor = h.2.2.0;
      attributes = h.2.2.2.0;
      throws = h.2.2.2.1.rows;
      spelled = sym h.2.2.2.2;
      flags_are = h.1;
      named = h.2.1;
      typed = h.2.2.1;
      attributes_are = h.2.2.2.1.reads;
      throws_are = h.2.2.2.1.listed_are;
    })
    (then_claims (λ r flags. IsU16 flags method.flags) _ (spell_u16 method.flags) _ (u16_claims method.flags)
    (λ flags. then_claims Named _ (spell_index (spell_text method.name)) _ (index_claims NamesText method.name (spell_text method.name) (text_claims method.name))
    (λ name. then_claims Typed _ (spell_index (spell_desc method.desc)) _ (index_claims NamesMethodDesc method.desc (spell_desc method.desc) (desc_claims method.desc fits.typed))
    (λ descriptor. then_claims Attributes _ (spell_method_attributes spell method.code method.throws) _ (method_attributes_claims Content spell method.code method.throws (λ code is. writes.claims class (head_of method) code (code_at WritableCode method.code code fits.code is)))
    (λ attributes. done_claims (joined (flags ∷ name ∷ descriptor ∷ attributes ∷ [])))))))

-- ---- what stands behind the constant pool

-- the class itself
record IsHead (r : Pool) (class : ClassDef) (text : List ℕ) : Type 0 where
  pub flags : List ℕ
  pub name : List ℕ
  pub super_name : List ℕ
  pub interfaces : List ℕ
  pub spelled : text ≡ joined (flags ∷ name ∷ super_name ∷ interfaces ∷ [])
  pub flags_are : IsU16 flags class.flags
  pub named : AtIndex (NamesClass r) name class.name
  pub super_named : AtIndex (MayName (NamesClass r)) super_name class.super_name
  pub interfaces_are : IsTable (AtIndex (NamesClass r)) interfaces class.interfaces

head_claims : (class : ClassDef) → Claims (λ r text. IsHead r class text) (spell_class_head class)
unfolding spell_class_head
head_claims class =
    let Named : Pool → List ℕ → Type 0 = λ r text. AtIndex (NamesClass r) text class.name in
    let Super : Pool → List ℕ → Type 0 = λ r text. AtIndex (MayName (NamesClass r)) text class.super_name in
    let Interfaces : Pool → List ℕ → Type 0 = λ r text. IsTable (AtIndex (NamesClass r)) text class.interfaces in
    claims_as
    (Then (λ r flags. IsU16 flags class.flags) (λ flags. Then Named (λ name. Then Super (λ super. Then Interfaces (λ interfaces r text. joined (flags ∷ name ∷ super ∷ interfaces ∷ []) ≡ text)))))
    (λ r text. IsHead r class text) (spell_class_head class)
    (λ r text h. record {
      flags = h.0;
      name = h.2.0;
      super_name = h.2.2.0;
      interfaces = h.2.2.2.0;
      spelled = sym h.2.2.2.2;
      flags_are = h.1;
      named = h.2.1;
      super_named = h.2.2.1;
      interfaces_are = h.2.2.2.1;
    })
    (then_claims (λ r flags. IsU16 flags class.flags) _ (spell_u16 class.flags) _ (u16_claims class.flags)
    (λ flags. then_claims Named _ (spell_index (spell_class class.name)) _ (class_index_claims class.name)
    (λ name. then_claims Super _ (spell_index (spell_optional spell_class class.super_name)) _ (index_claims (λ r. MayName (NamesClass r)) class.super_name (spell_optional spell_class class.super_name) (optional_claims NamesClass spell_class class.super_name class_claims))
    (λ super. then_claims Interfaces _ (spell_classes class.interfaces) _ (classes_claims class.interfaces)
    (λ interfaces. done_claims (joined (flags ∷ name ∷ super ∷ interfaces ∷ [])))))))

-- what the class has
record AreMembers (IsCode : Pool → List ℕ → MethodHead → List ℕ → CodeDef → Type 0) (r : Pool) (class : ClassDef) (text : List ℕ) : Type 0 where
  pub fields : List ℕ
  pub methods : List ℕ
  pub attributes : List ℕ
  pub spelled : text ≡ joined (fields ∷ methods ∷ attributes ∷ [])
  pub fields_are : IsTable (IsField r) fields class.fields
  pub methods_are : IsTable (IsMethod IsCode r class.name) methods class.methods
  pub attributes_are : ReadsAny r source_file (IsSourceFile r) inner_classes (IsInnerClasses r) attributes class.source class.inner

members_claims : (IsCode : Pool → List ℕ → MethodHead → List ℕ → CodeDef → Type 0) (WritableCode : CodeDef → Type 0) (spell : CodeDef → Adding (List ℕ)) → Writes IsCode WritableCode spell → (class : ClassDef) → Writable WritableCode class
    → Claims (λ r text. AreMembers IsCode r class text) (spell_members spell class)
unfolding spell_members
members_claims IsCode WritableCode spell writes class fits =
    let Fields : Pool → List ℕ → Type 0 = λ r text. IsTable (IsField r) text class.fields in
    let Methods : Pool → List ℕ → Type 0 = λ r text. IsTable (IsMethod IsCode r class.name) text class.methods in
    let Attributes : Pool → List ℕ → Type 0 = λ r text. ReadsAny r source_file (IsSourceFile r) inner_classes (IsInnerClasses r) text class.source class.inner in
    claims_as
    (Then Fields (λ fields. Then Methods (λ methods. Then Attributes (λ attributes r text. joined (fields ∷ methods ∷ attributes ∷ []) ≡ text))))
    (λ r text. AreMembers IsCode r class text) (spell_members spell class)
    (λ r text h. record {
      fields = h.0;
      methods = h.2.0;
      attributes = h.2.2.0;
      spelled = sym h.2.2.2;
      fields_are = h.1;
      methods_are = h.2.1;
      attributes_are = h.2.2.1;
    })
    (then_claims Fields _ (spell_table spell_field class.fields) _ (table_claims IsField spell_field class.fields (λ k d lt. field_claims _ (fits.each_field k d lt)))
    (λ fields. then_claims Methods _ (spell_table (spell_method spell) class.methods) _ (table_claims (λ r. IsMethod IsCode r class.name) (spell_method spell) class.methods (λ k d lt. method_claims IsCode WritableCode spell writes class.name _ (fits.each_method k d lt)))
    (λ methods. then_claims Attributes _ (spell_class_attributes class.source class.inner) _ (class_attributes_claims class.source class.inner)
    (λ attributes. done_claims (joined (fields ∷ methods ∷ attributes ∷ []))))))

regrouped : (a b c d rest : List ℕ) → (a ++ (b ++ (c ++ (d ++ [])))) ++ rest ≡ a ++ (b ++ (c ++ (d ++ rest)))
regrouped a b c d rest =
    append_assoc a (b ++ (c ++ (d ++ []))) rest
    ∙ ap (λ (z : List ℕ). a ++ z) (append_assoc b (c ++ (d ++ [])) rest
    ∙ ap (λ (z : List ℕ). b ++ z) (append_assoc c (d ++ []) rest
    ∙ ap (λ (z : List ℕ). c ++ z) (ap (λ (z : List ℕ). z ++ rest) (append-nil d))))

pub body_claims : (IsCode : Pool → List ℕ → MethodHead → List ℕ → CodeDef → Type 0) (WritableCode : CodeDef → Type 0) (spell : CodeDef → Adding (List ℕ)) → Writes IsCode WritableCode spell → (class : ClassDef) → Writable WritableCode class
    → Claims (λ r text. IsClassBody IsCode r text class) (spell_class_body spell class)
unfolding spell_class_body
body_claims IsCode WritableCode spell writes class fits =
    let Head : Pool → List ℕ → Type 0 = λ r text. IsHead r class text in
    let Members : Pool → List ℕ → Type 0 = λ r text. AreMembers IsCode r class text in
    claims_as
    (Then Head (λ head. Then Members (λ members r text. (head ++ members) ≡ text)))
    (λ r text. IsClassBody IsCode r text class) (spell_class_body spell class)
    (λ r text h.
    let head = h.1 in
    let members = h.2.1 in
    let rest = joined (members.fields ∷ members.methods ∷ members.attributes ∷ []) in
    record {
      flags = head.flags;
      name = head.name;
      super_name = head.super_name;
      interfaces = head.interfaces;
      fields = members.fields;
      methods = members.methods;
      attributes = members.attributes;
      rows = members.attributes_are.rows;
      spelled = sym h.2.2 ∙ ap (λ (z : List ℕ). z ++ h.2.0) head.spelled ∙ ap (λ (z : List ℕ). joined (head.flags ∷ head.name ∷ head.super_name ∷ head.interfaces ∷ []) ++ z) members.spelled ∙ regrouped head.flags head.name head.super_name head.interfaces rest;
      flags_are = head.flags_are;
      named = head.named;
      super_named = head.super_named;
      interfaces_are = head.interfaces_are;
      fields_are = members.fields_are;
      methods_are = members.methods_are;
      attributes_are = members.attributes_are.reads;
      inner_are = members.attributes_are.listed_are;
    })
    (then_claims Head _ (spell_class_head class) _ (head_claims class)
    (λ head. then_claims Members _ (spell_members spell class) _ (members_claims IsCode WritableCode spell writes class fits)
    (λ members. done_claims (head ++ members))))

-- ---- the file

abbrev IsFront : ClassDef → Pool → List ℕ → Type 0
IsFront class r text = (magic minor major : List ℕ) × (text ≡ joined (magic ∷ minor ∷ major ∷ [])) × IsU32 magic 0xCAFEBABE × IsU16 minor class.minor × IsU16 major class.major

front_claims : (class : ClassDef) → Claims (IsFront class) (spell_front class)
unfolding spell_front
front_claims class =
    claims_as
    (Then (λ r magic. IsU32 magic 0xCAFEBABE) (λ magic. Then (λ r minor. IsU16 minor class.minor) (λ minor. Then (λ r major. IsU16 major class.major) (λ major r text. joined (magic ∷ minor ∷ major ∷ []) ≡ text))))
    (IsFront class) (spell_front class)
    (λ r text h. (h.0, h.2.0, h.2.2.0, sym h.2.2.2, h.1, h.2.1, h.2.2.1))
    (then_claims (λ r magic. IsU32 magic 0xCAFEBABE) _ (spell_u32 0xCAFEBABE) _ (u32_claims 0xCAFEBABE)
    (λ magic. then_claims (λ r minor. IsU16 minor class.minor) _ (spell_u16 class.minor) _ (u16_claims class.minor)
    (λ minor. then_claims (λ r major. IsU16 major class.major) _ (spell_u16 class.major) _ (u16_claims class.major)
    (λ major. done_claims (joined (magic ∷ minor ∷ major ∷ []))))))

pub file_is : (IsCode : Pool → List ℕ → MethodHead → List ℕ → CodeDef → Type 0) (WritableCode : CodeDef → Type 0) (spell : CodeDef → Adding (List ℕ)) → Writes IsCode WritableCode spell → (class : ClassDef) → Writable WritableCode class
    → (q : Pool) (front pool_text body : List ℕ) → spell_front class q ≡ given q front → spell_class_body spell class [] ≡ given q body → IsPool pool_text q → ClassBytes IsCode (joined (front ∷ pool_text ∷ body ∷ [])) class
file_is IsCode WritableCode spell writes class fits q front pool_text body before behind pool =
    let same : Becomes q q = record { extends = extends_same q; small = omega (arith, pool.small) } in
    let f = ((front_claims class).each q q front before).holds q same in
    let is = ((body_claims IsCode WritableCode spell writes class fits).each [] q body behind).holds q same in
    let rest = pool_text ++ (body ++ []) in
    record {
      magic = f.0;
      minor = f.1;
      major = f.2;
      pool_text = pool_text;
      body = body;
      pool = q;
      spelled = ap (λ (z : List ℕ). z ++ rest) f.3 ∙ append_assoc f.0 (f.1 ++ (f.2 ++ [])) rest ∙ ap (λ (z : List ℕ). f.0 ++ z) (append_assoc f.1 (f.2 ++ []) rest ∙ ap (λ (z : List ℕ). f.1 ++ z) (ap (λ (z : List ℕ). z ++ rest) (append-nil f.2)));
      magic_is = f.4;
      minor_is = f.5;
      major_is = f.6;
      pool_is = pool;
      body_is = is;
    }

-- ---- what the definition gives

pub file_spelled : (spell : CodeDef → Adding (List ℕ)) (class : ClassDef) (q : Pool) (front body : List ℕ) → spell_class_body spell class [] ≡ given q body → spell_front class q ≡ given q front → spell_class_file spell class ≡ Ok (joined (front ∷ pool_bytes q ∷ body ∷ []))
unfolding spell_class_file spell_sides
file_spelled spell class q front body behind before = rw (behind, before) refl

stopped : (stop : PoolStop) (result : Result (List ℕ) PoolStop) (spelled : Result (List ℕ) Unfit) → IsErrAnd result (λ e. e ≡ stop) → IsWritten (Err stop) spelled → IsWritten result spelled
stopped stop (Ok bytes) spelled is h = absurd is
stopped stop (Err e) spelled is h = subst (λ (z : PoolStop). IsWritten (Err z) spelled) (sym is) h

pub file_stops : {C : Type 0} (view : C → List ℕ) (stop : PoolStop) (result : Result (List ℕ) PoolStop) (spell : CodeDef → Adding (List ℕ)) (class : ClassDef) (q : Pool) → PutsBy view (Err stop) q (spell_class_body spell class []) → IsErrAnd result (λ e. e ≡ stop) → IsWritten result (spell_class_file spell class)
unfolding spell_class_file spell_sides
file_stops view (Full last) result spell class q h is = stopped (Full last) result _ is (rw h refl)
file_stops view Memory result spell class q h is = stopped Memory result _ is tt
