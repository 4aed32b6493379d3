-- Reading a class file is exact for what its bytes are, where reading the content of a Code attribute is.
use Rattle.std.proofs.Common.{◌≡◌, inl, inr, ℕ, Bool, true, false, cond, eqb, List, [], ◌∷◌, ◌++◌, length, Option, Some, None, Result, Ok, Err, refl, sym, ap, subst, ◌∙◌, append_assoc}
use Rattle.std.specs.Prelude.{MatchBool, MatchResult, IfOk, ◌==◌}
use Rattle.std.specs.Int.{w16, w32}
use Rattle.std.proofs.lemmas.Bool.{eqb-true}
use Rattle.std.proofs.lemmas.List.{append-nil, nil_from_length}
use Rattle.class_input.specs.declared.bad_class.BadKind.TheVariants.{Magic}
use Rattle.class_input.specs.declared.bad_class.BadClass.{BadClass}
use Rattle.class_input.specs.declared.bad_class.BadClass.TheVariants as errors
use Rattle.class_input.specs.Reading.{In, Fault, Reading, ◌>>=◌, done, refused, here, number, Answers}
use Rattle.class_input.specs.Grammar.{IsBytes, IsU16, IsU32}
use Rattle.class_input.proofs.Laws.{IsDone, Then, Exact, Exact-same, done_exact, refused_exact, then_exact, mapped_exact, here_exact, if_exact, u16_exact, u32_exact, from, answer}
use Rattle.class_model.specs.declared.class.CodeDef.{CodeDef}
use Rattle.class_model.specs.declared.class.FieldDef.{FieldDef}
use Rattle.class_model.specs.declared.class.Constant.{Constant}
use Rattle.class_model.specs.declared.class.MethodDef.{MethodDef}
use Rattle.class_model.specs.declared.class.InnerRow.{InnerRow}
use Rattle.class_model.specs.declared.class.ClassDef.{ClassDef}
use Rattle.class_model.specs.declared.types.JType.{JType}
use Rattle.class_model.specs.declared.types.MethodDesc.{MethodDesc}
use Rattle.const_pool.specs.Pool.{Pool, IsPool}
use Rattle.const_pool.specs.PoolReading.{pool}
use Rattle.const_pool.proofs.PoolLaws.{pool_exact}
use Rattle.class_names.specs.Pieces.{IsTable, AtIndex}
use Rattle.class_names.specs.Names.{NamesText, MayName, NamesClass, NamesFieldType, NamesMethodDesc}
use Rattle.class_names.specs.Steps.{table, at_index}
use Rattle.class_names.specs.NameReading.{text_at, optional, class_name_at, field_type_at, method_desc_at}
use Rattle.class_names.proofs.StepLaws.{split, front_alone, table_exact, at_index_exact}
use Rattle.class_names.proofs.NameLaws.{field_type_judges, method_desc_judges}
use Rattle.class_attributes.specs.Attributes.{ReadsOne, ReadsTwo, constant_value, exceptions, source_file, inner_classes, IsConstantValue, IsExceptions, IsSourceFile, IsInnerClasses}
use Rattle.class_attributes.specs.AttributeReading.{one_read, two_read, constant_content, exceptions_content, source_content, inner_content}
use Rattle.class_attributes.proofs.AttributeLaws.{then_joined, last_joined, two_read_exact}
use Rattle.class_attributes.proofs.ContentLaws.{class_index_exact, optional_class_exact, text_index_exact, exceptions_exact, field_attributes_exact, class_attributes_exact}
use Rattle.class_file.specs.declared.method.MethodHead.{MethodHead}
use Rattle.class_file.specs.ClassBytes.{code_name, listed, head_of, IsField, IsMethod, IsClassBody, ClassBytes}
use Rattle.class_file.specs.ClassReading.{field, method_head, method_attributes, method, class_body, magic_of, magic, class_file, ended, closing, file}

-- ---- a field

abbrev made_field : ℕ → List ℕ → JType → Option Constant → FieldDef
made_field flags name ty constant = record { flags = flags; name = name; ty = ty; constant = constant }

abbrev FieldAttributes : Pool → List ℕ → Option Constant → Type 0
FieldAttributes p = ReadsOne p constant_value (IsConstantValue p)

abbrev FieldEnd : Pool → ℕ → List ℕ → JType → List ℕ → FieldDef → Type 0
FieldEnd p flags name ty text field = (constant : Option Constant) × FieldAttributes p text constant × (made_field flags name ty constant ≡ field)

abbrev FieldR : Pool → List ℕ → FieldDef → Type 0
FieldR p = Then IsU16 (λ flags. Then (AtIndex (NamesText p)) (λ name. Then (AtIndex (NamesFieldType p)) (FieldEnd p flags name)))

field_to : (p : Pool) (text : List ℕ) (field : FieldDef) → FieldR p text field → IsField p text field
field_to p text field h =
    let a = h.5 in
    let b = a.5 in
    subst (λ (z : FieldDef). IsField p text z) b.5.2 (record {
      flags = h.1;
      name = a.1;
      descriptor = b.1;
      attributes = b.2;
      spelled = then_joined _ _ _ _ h.3 (then_joined _ _ _ _ a.3 (then_joined _ _ _ _ b.3 (last_joined b.2)));
      flags_are = h.4;
      named = a.4;
      typed = b.4;
      attributes_are = b.5.1;
    })

field_from : (p : Pool) (text : List ℕ) (field : FieldDef) → IsField p text field → FieldR p text field
field_from p text field h =
    let end : FieldAttributes p (h.attributes ++ []) field.constant = subst (λ (z : List ℕ). FieldAttributes p z field.constant) (sym (append-nil h.attributes)) h.attributes_are in
    (field.flags, h.flags, _, h.spelled, h.flags_are, (field.name, h.name, _, refl, h.named, (field.ty, h.descriptor, _, refl, h.typed, (field.constant, end, refl))))

field_exact : (p : Pool) → Exact (IsField p) (field p)
unfolding field
field_exact p =
    Exact-same (FieldR p) (IsField p) _ (field_to p) (field_from p)
    (then_exact IsU16 _ (number w16) _ u16_exact (λ flags.
    then_exact (AtIndex (NamesText p)) _ (at_index (text_at p)) _ (text_index_exact p) (λ name.
    then_exact (AtIndex (NamesFieldType p)) _ (at_index (field_type_at p)) _ (at_index_exact (NamesFieldType p) (field_type_at p) (field_type_judges p)) (λ ty.
    mapped_exact (FieldAttributes p) (one_read p constant_value (constant_content p)) (made_field flags name ty) (field_attributes_exact p)))))

-- ---- a method, over the content of its code

abbrev CodeRelation : Type 1
CodeRelation = Pool → List ℕ → MethodHead → List ℕ → CodeDef → Type 0

abbrev CodeReading : Type 0
CodeReading = Pool → List ℕ → MethodHead → Reading CodeDef

abbrev ReadsCode : CodeRelation → CodeReading → Type 0
ReadsCode IsCode code = (p : Pool) (class : List ℕ) (head : MethodHead) → Exact (IsCode p class head) (code p class head)

abbrev made_head : ℕ → List ℕ → MethodDesc → MethodHead
made_head flags name desc = record { flags = flags; name = name; desc = desc }

abbrev HeadEnd : Pool → ℕ → List ℕ → List ℕ → MethodHead → Type 0
HeadEnd p flags name text head = (desc : MethodDesc) × AtIndex (NamesMethodDesc p) text desc × (made_head flags name desc ≡ head)

abbrev HeadR : Pool → List ℕ → MethodHead → Type 0
HeadR p = Then IsU16 (λ flags. Then (AtIndex (NamesText p)) (HeadEnd p flags))

head_exact : (p : Pool) → Exact (HeadR p) (method_head p)
unfolding method_head
head_exact p =
    then_exact IsU16 _ (number w16) _ u16_exact (λ flags.
    then_exact (AtIndex (NamesText p)) _ (at_index (text_at p)) _ (text_index_exact p) (λ name.
    mapped_exact (AtIndex (NamesMethodDesc p)) (at_index (method_desc_at p)) (made_head flags name) (at_index_exact (NamesMethodDesc p) (method_desc_at p) (method_desc_judges p))))

abbrev Found : Type 0
Found = Option CodeDef × Option (List (List ℕ))

abbrev MethodAttributes : CodeRelation → Pool → List ℕ → MethodHead → List ℕ → Found → Type 0
MethodAttributes IsCode p class head = ReadsTwo p code_name (IsCode p class head) exceptions (IsExceptions p)

method_attributes_exact : (IsCode : CodeRelation) (code : CodeReading) → ReadsCode IsCode code → (p : Pool) (class : List ℕ) (head : MethodHead) → Exact (MethodAttributes IsCode p class head) (method_attributes code p class head)
unfolding method_attributes
method_attributes_exact IsCode code e p class head =
    two_read_exact p code_name (IsCode p class head) (code p class head) exceptions (IsExceptions p) (exceptions_content p) (λ e. absurd cc) (e p class head) (exceptions_exact p)

abbrev made_method : MethodHead → Found → MethodDef
made_method head found = record { flags = head.flags; name = head.name; desc = head.desc; throws = listed found.1; code = found.0 }

abbrev MethodEnd : CodeRelation → Pool → List ℕ → MethodHead → List ℕ → MethodDef → Type 0
MethodEnd IsCode p class head text method = (found : Found) × MethodAttributes IsCode p class head text found × (made_method head found ≡ method)

abbrev MethodR : CodeRelation → Pool → List ℕ → List ℕ → MethodDef → Type 0
MethodR IsCode p class = Then (HeadR p) (MethodEnd IsCode p class)

four_joined : (text a b c d front rest : List ℕ) → text ≡ front ++ d → front ≡ a ++ rest → rest ≡ b ++ c → text ≡ a ++ (b ++ (c ++ (d ++ [])))
four_joined text a b c d front rest whole first second =
    let inner : (b ++ c) ++ d ≡ b ++ (c ++ (d ++ [])) = append_assoc b c d ∙ ap (λ (z : List ℕ). b ++ (c ++ z)) (sym (append-nil d)) in
    whole ∙ ap (λ (z : List ℕ). z ++ d) (first ∙ ap (λ (z : List ℕ). a ++ z) second) ∙ append_assoc a (b ++ c) d ∙ ap (λ (z : List ℕ). a ++ z) inner

joined_four : (text a b c d : List ℕ) → text ≡ a ++ (b ++ (c ++ (d ++ []))) → text ≡ (a ++ (b ++ c)) ++ d
joined_four text a b c d whole = whole ∙ sym (four_joined ((a ++ (b ++ c)) ++ d) a b c d (a ++ (b ++ c)) (b ++ c) refl refl refl)

made_throws : (method : MethodDef) (throws : List (List ℕ)) → method.throws ≡ throws → (let made : MethodDef = record { flags = method.flags; name = method.name; desc = method.desc; throws = throws; code = method.code } in made) ≡ method
made_throws method throws h = ap (λ (z : List (List ℕ)). let made : MethodDef = record { flags = method.flags; name = method.name; desc = method.desc; throws = z; code = method.code } in made) (sym h)

method_to : (IsCode : CodeRelation) (p : Pool) (class text : List ℕ) (method : MethodDef) → MethodR IsCode p class text method → IsMethod IsCode p class text method
method_to IsCode p class text method h =
    let flags = h.4 in
    let name = flags.5 in
    let end = name.5 in
    let found = h.5.0 in
    let desc = end.0 in
    let head : made_head flags.0 name.0 desc ≡ h.0 = end.2 in
    let made : made_method (made_head flags.0 name.0 desc) found ≡ method = ap (λ (z : MethodHead). made_method z found) head ∙ h.5.2 in
    let attributes : MethodAttributes IsCode p class (made_head flags.0 name.0 desc) h.2 found = subst (λ (z : MethodHead). MethodAttributes IsCode p class z h.2 found) (sym head) h.5.1 in
    subst (λ (z : MethodDef). IsMethod IsCode p class text z) made (record {
      flags = flags.1;
      name = name.1;
      descriptor = name.2;
      attributes = h.2;
      throws = found.1;
      spelled = four_joined text flags.1 name.1 name.2 h.2 h.1 flags.2 h.3 flags.3 name.3;
      flags_are = flags.4;
      named = name.4;
      typed = end.1;
      attributes_are = attributes;
      throws_are = refl;
    })

method_from : (IsCode : CodeRelation) (p : Pool) (class text : List ℕ) (method : MethodDef) → IsMethod IsCode p class text method → MethodR IsCode p class text method
method_from IsCode p class text method h =
    let head = h.flags ++ (h.name ++ h.descriptor) in
    let made : made_method (head_of method) (method.code, h.throws) ≡ method = made_throws method (listed h.throws) h.throws_are in (
      head_of method,
      head,
      h.attributes,
      joined_four text h.flags h.name h.descriptor h.attributes h.spelled,
      (method.flags, h.flags, h.name ++ h.descriptor, refl, h.flags_are, (method.name, h.name, h.descriptor, refl, h.named, (method.desc, h.typed, refl))),
      ((method.code, h.throws), h.attributes_are, made),
    )

method_exact : (IsCode : CodeRelation) (code : CodeReading) → ReadsCode IsCode code → (p : Pool) (class : List ℕ) → Exact (IsMethod IsCode p class) (method code p class)
unfolding method
method_exact IsCode code e p class =
    Exact-same (MethodR IsCode p class) (IsMethod IsCode p class) (method_head p >>= λ head. method_attributes code p class head >>= λ found. done (made_method head found))
    (method_to IsCode p class)
    (method_from IsCode p class)
    (then_exact (HeadR p) (MethodEnd IsCode p class) (method_head p) (λ head. method_attributes code p class head >>= λ found. done (made_method head found)) (head_exact p) (λ head.
    mapped_exact (MethodAttributes IsCode p class head) (method_attributes code p class head) (made_method head) (method_attributes_exact IsCode code e p class head)))

-- ---- a class behind its constant pool

abbrev made_class : ℕ → ℕ → ℕ → List ℕ → Option (List ℕ) → List (List ℕ) → List FieldDef → List MethodDef → Option (List ℕ) → List InnerRow → ClassDef
made_class minor major flags name super_name interfaces fields methods source inner = record { minor = minor; major = major; flags = flags; name = name; super_name = super_name; interfaces = interfaces; fields = fields; methods = methods; source = source; inner = inner }

abbrev ClassFound : Type 0
ClassFound = Option (List ℕ) × Option (List InnerRow)

abbrev ClassAttributes : Pool → List ℕ → ClassFound → Type 0
ClassAttributes p = ReadsTwo p source_file (IsSourceFile p) inner_classes (IsInnerClasses p)

abbrev BodyEnd : Pool → ℕ → ℕ → ℕ → List ℕ → Option (List ℕ) → List (List ℕ) → List FieldDef → List MethodDef → List ℕ → ClassDef → Type 0
BodyEnd p minor major flags name super_name interfaces fields methods text class = (found : ClassFound) × ClassAttributes p text found × (made_class minor major flags name super_name interfaces fields methods found.0 (listed found.1) ≡ class)

abbrev BodyR : CodeRelation → ℕ → ℕ → Pool → List ℕ → ClassDef → Type 0
BodyR IsCode minor major p =
    Then IsU16 (λ flags.
    Then (AtIndex (NamesClass p)) (λ name.
    Then (AtIndex (MayName (NamesClass p))) (λ super_name.
    Then (IsTable (AtIndex (NamesClass p))) (λ interfaces.
    Then (IsTable (IsField p)) (λ fields.
    Then (IsTable (IsMethod IsCode p name)) (BodyEnd p minor major flags name super_name interfaces fields))))))

-- a class behind its constant pool, with the version that stands before it
record IsVersioned (IsCode : CodeRelation) (minor major : ℕ) (p : Pool) (text : List ℕ) (class : ClassDef) : Type 0 where
  minor_is : class.minor ≡ minor
  major_is : class.major ≡ major
  stands : IsClassBody IsCode p text class

body_to : (IsCode : CodeRelation) (minor major : ℕ) (p : Pool) (text : List ℕ) (class : ClassDef) → BodyR IsCode minor major p text class → IsVersioned IsCode minor major p text class
body_to IsCode minor major p text class h =
    let a = h.5 in
    let b = a.5 in
    let c = b.5 in
    let d = c.5 in
    let e = d.5 in
    subst (λ (z : ClassDef). IsVersioned IsCode minor major p text z) e.5.2 (record {
      minor_is = refl;
      major_is = refl;
      stands = record {
        flags = h.1;
        name = a.1;
        super_name = b.1;
        interfaces = c.1;
        fields = d.1;
        methods = e.1;
        attributes = e.2;
        rows = e.5.0.1;
        spelled = then_joined _ _ _ _ h.3 (then_joined _ _ _ _ a.3 (then_joined _ _ _ _ b.3 (then_joined _ _ _ _ c.3 (then_joined _ _ _ _ d.3 (then_joined _ _ _ _ e.3 (last_joined e.2))))));
        flags_are = h.4;
        named = a.4;
        super_named = b.4;
        interfaces_are = c.4;
        fields_are = d.4;
        methods_are = e.4;
        attributes_are = e.5.1;
        inner_are = refl;
      };
    })

made_is : (minor major : ℕ) (class : ClassDef) (inner : List InnerRow) → class.minor ≡ minor → class.major ≡ major → class.inner ≡ inner
    → made_class minor major class.flags class.name class.super_name class.interfaces class.fields class.methods class.source inner ≡ class
made_is minor major class inner a b n =
    rw (← a, ← b) (ap (λ (z : List InnerRow). made_class class.minor class.major class.flags class.name class.super_name class.interfaces class.fields class.methods class.source z) (sym n))

body_from : (IsCode : CodeRelation) (minor major : ℕ) (p : Pool) (text : List ℕ) (class : ClassDef) → IsVersioned IsCode minor major p text class → BodyR IsCode minor major p text class
body_from IsCode minor major p text class v =
    let h = v.stands in
    let found : ClassFound = (class.source, h.rows) in
    let end : ClassAttributes p (h.attributes ++ []) found = subst (λ (z : List ℕ). ClassAttributes p z found) (sym (append-nil h.attributes)) h.attributes_are in
    let made = made_is minor major class (listed h.rows) v.minor_is v.major_is h.inner_are in (
      class.flags,
      h.flags,
      _,
      h.spelled,
      h.flags_are,
      (
        class.name,
        h.name,
        _,
        refl,
        h.named,
        (
          class.super_name,
          h.super_name,
          _,
          refl,
          h.super_named,
          (
            class.interfaces,
            h.interfaces,
            _,
            refl,
            h.interfaces_are,
            (
              class.fields,
              h.fields,
              _,
              refl,
              h.fields_are,
              (class.methods, h.methods, _, refl, h.methods_are, (found, end, made)),
            ),
          ),
        ),
      ),
    )

body_exact : (IsCode : CodeRelation) (code : CodeReading) → ReadsCode IsCode code → (minor major : ℕ) (p : Pool) → Exact (IsVersioned IsCode minor major p) (class_body code minor major p)
unfolding class_body
body_exact IsCode code e minor major p =
    Exact-same (BodyR IsCode minor major p) (IsVersioned IsCode minor major p) _ (body_to IsCode minor major p) (body_from IsCode minor major p)
    (then_exact IsU16 _ (number w16) _ u16_exact (λ flags.
    then_exact (AtIndex (NamesClass p)) _ (at_index (class_name_at p)) _ (class_index_exact p) (λ name.
    then_exact (AtIndex (MayName (NamesClass p))) _ (at_index (optional (class_name_at p))) _ (optional_class_exact p) (λ super_name.
    then_exact (IsTable (AtIndex (NamesClass p))) _ (table (at_index (class_name_at p))) _ (table_exact (AtIndex (NamesClass p)) (at_index (class_name_at p)) (class_index_exact p)) (λ interfaces.
    then_exact (IsTable (IsField p)) _ (table (field p)) _ (table_exact (IsField p) (field p) (field_exact p)) (λ fields.
    then_exact (IsTable (IsMethod IsCode p name)) _ (table (method code p name)) _ (table_exact (IsMethod IsCode p name) (method code p name) (method_exact IsCode code e p name)) (λ methods.
    mapped_exact (ClassAttributes p) (two_read p source_file (source_content p) inner_classes (inner_content p)) (λ found. made_class minor major flags name super_name interfaces fields methods found.0 (listed found.1)) (class_attributes_exact p))))))))

-- ---- a class

abbrev IsMagic : List ℕ → Unit {0} → Type 0
IsMagic text u = IsU32 text 0xCAFEBABE

abbrev MagicR : ℕ → List ℕ → Unit {0} → Type 0
MagicR n text u = MatchBool (eqb n 0xCAFEBABE) (IsDone tt text u) ⊥

magic_to : (text : List ℕ) (u : Unit {0}) → Then IsU32 MagicR text u → IsMagic text u
magic_to text u h =
    elim (split (eqb h.0 0xCAFEBABE) h.5) [
      | inl a ↦ subst (λ (z : List ℕ). IsU32 z 0xCAFEBABE) (front_alone text h.1 h.2 h.3 a.1.0) (subst (λ (k : ℕ). IsU32 h.1 k) (eqb-true _ _ a.0) h.4)
      | inr a ↦ absurd a.1
    ]

magic_exact : Exact IsMagic magic
unfolding magic
magic_exact =
    Exact-same (Then IsU32 MagicR) IsMagic (here >>= λ at. number w32 >>= λ n. magic_of at n)
    magic_to
    (λ text u h. (0xCAFEBABE, text, [], sym (append-nil text), h, (refl, refl)))
    (here_exact (Then IsU32 MagicR) (λ at. number w32 >>= λ n. magic_of at n) (λ at.
    then_exact IsU32 MagicR (number w32) (magic_of at) u32_exact (λ n.
    if_exact (eqb n 0xCAFEBABE) (IsDone tt) (λ text u. ⊥) (done tt) (refused at Magic) (done_exact tt) (refused_exact (λ text u. ⊥) at Magic (λ text u h. h)))))

abbrev PoolR : CodeRelation → ℕ → ℕ → List ℕ → ClassDef → Type 0
PoolR IsCode minor major = Then IsPool (IsVersioned IsCode minor major)

abbrev ClassR : CodeRelation → List ℕ → ClassDef → Type 0
ClassR IsCode = Then IsMagic (λ _. Then IsU16 (λ minor. Then IsU16 (PoolR IsCode minor)))

class_to : (IsCode : CodeRelation) (text : List ℕ) (class : ClassDef) → ClassR IsCode text class → ClassBytes IsCode text class
class_to IsCode text class h =
    let a = h.5 in
    let b = a.5 in
    let c = b.5 in
    record {
      magic = h.1;
      minor = a.1;
      major = b.1;
      pool_text = c.1;
      body = c.2;
      pool = c.0;
      spelled = then_joined _ _ _ _ h.3 (then_joined _ _ _ _ a.3 (then_joined _ _ _ _ b.3 (then_joined _ _ _ _ c.3 (last_joined c.2))));
      magic_is = h.4;
      minor_is = subst (λ (k : ℕ). IsU16 a.1 k) (sym c.5.minor_is) a.4;
      major_is = subst (λ (k : ℕ). IsU16 b.1 k) (sym c.5.major_is) b.4;
      pool_is = c.4;
      body_is = c.5.stands;
    }

class_from : (IsCode : CodeRelation) (text : List ℕ) (class : ClassDef) → ClassBytes IsCode text class → ClassR IsCode text class
class_from IsCode text class h =
    let end : IsClassBody IsCode h.pool (h.body ++ []) class = subst (λ (z : List ℕ). IsClassBody IsCode h.pool z class) (sym (append-nil h.body)) h.body_is in (
      tt,
      h.magic,
      _,
      h.spelled,
      h.magic_is,
      (
        class.minor,
        h.minor,
        _,
        refl,
        h.minor_is,
        (
          class.major,
          h.major,
          _,
          refl,
          h.major_is,
          (h.pool, h.pool_text, _, refl, h.pool_is, record { minor_is = refl; major_is = refl; stands = end }),
        ),
      ),
    )

class_exact : (IsCode : CodeRelation) (code : CodeReading) → ReadsCode IsCode code → Exact (ClassBytes IsCode) (class_file code)
unfolding class_file
class_exact IsCode code e =
    Exact-same (ClassR IsCode) (ClassBytes IsCode) _ (class_to IsCode) (class_from IsCode)
    (then_exact IsMagic _ magic _ magic_exact (λ u.
    then_exact IsU16 _ (number w16) _ u16_exact (λ minor.
    then_exact IsU16 _ (number w16) _ u16_exact (λ major.
    then_exact IsPool (IsVersioned IsCode minor major) pool (λ p. class_body code minor major p) pool_exact (body_exact IsCode code e minor major)))))

-- ---- a file

abbrev whole : ClassDef → Result ClassDef Fault
whole class = Ok class

ended_when : (b : Bool) (c d : ClassDef) (e : Fault) → cond b (whole c) (Err e) ≡ whole d → (b ≡ true) × (c ≡ d)
ended_when true c d e h = (refl, cc)
ended_when false c d e h = absurd cc

ended_is : (c d : ClassDef) (i : In) → ended c i ≡ whole d → (i.rest ≡ []) × (c ≡ d)
ended_is c d i h = let g = ended_when (eqb (length i.rest) 0) c d _ h in (nil_from_length i.rest (eqb-true _ _ g.0), g.1)

closing_is : (r : Result (ClassDef × In) Fault) (d : ClassDef) → closing r ≡ whole d → (i : In) × (r ≡ answer d i) × (i.rest ≡ [])
closing_is (Ok x) d h = let e = ended_is x.0 d x.1 h in (x.1, ap (λ (c : ClassDef). answer c x.1) e.1, e.0)
closing_is (Err e) d h = absurd cc

file_takes : (IsCode : CodeRelation) (code : CodeReading) → ReadsCode IsCode code → (text : List ℕ) (c : ClassDef) → IsBytes text → file code text ≡ whole c → ClassBytes IsCode text c
unfolding file
file_takes IsCode code e text c fits h =
    let closed = closing_is (class_file code (from 0 text)) c h in
    let t = (class_exact IsCode code e).takes (from 0 text) c closed.0 fits closed.1 in
    subst (λ (z : List ℕ). ClassBytes IsCode z c) (sym (t.parts ∙ ap (λ (z : List ℕ). t.text ++ z) closed.2 ∙ append-nil t.text)) t.stands

file_again : (IsCode : CodeRelation) (code : CodeReading) → ReadsCode IsCode code → (text : List ℕ) (c : ClassDef) → ClassBytes IsCode text c → file code text ≡ whole c
unfolding file
file_again IsCode code e text c h =
    ap (λ (z : List ℕ). closing (class_file code (from 0 z))) (sym (append-nil text)) ∙ ap closing ((class_exact IsCode code e).again 0 text [] c h)

-- ---- what the reader of a file answered

pub is_found : (IsCode : CodeRelation) (code : CodeReading) → ReadsCode IsCode code → (text : List ℕ) (r : Result ClassDef BadClass) → IsBytes text → Answers (λ c. c) r (file code text) → IfOk r (λ c. ClassBytes IsCode text c)
is_found IsCode code e text (Ok c) fits given = file_takes IsCode code e text c fits given
is_found IsCode code e text (Err stop) fits given = tt

pub is_only : (IsCode : CodeRelation) (code : CodeReading) → ReadsCode IsCode code → (text : List ℕ) (r : Result ClassDef BadClass) (c : ClassDef) → ClassBytes IsCode text c → Answers (λ c. c) r (file code text)
    → MatchResult r (λ d. d ≡ c) (λ stop. stop ≡ errors.Memory)
is_only IsCode code e text (Ok d) c is given = let again = file_again IsCode code e text c is in cc
is_only IsCode code e text (Err errors.Memory) c is given = refl
is_only IsCode code e text (Err (errors.Bad place kind)) c is given = absurd (let again = file_again IsCode code e text c is in cc)

same_whole : (c d : ClassDef) → whole c ≡ whole d → c ≡ d
same_whole c d h = cc

-- the bytes of a class are the bytes of no other
pub one_of_two : (IsCode : CodeRelation) (code : CodeReading) → ReadsCode IsCode code → (text : List ℕ) (c d : ClassDef) → ClassBytes IsCode text c → ClassBytes IsCode text d → c ≡ d
one_of_two IsCode code e text c d h g = same_whole c d (sym (file_again IsCode code e text c h) ∙ file_again IsCode code e text d g)
