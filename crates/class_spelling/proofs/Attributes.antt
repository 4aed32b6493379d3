-- The attributes outside code that are spelled are what they are written for.
use Rattle.std.proofs.Common.{◌≡◌, ℕ, ◌+◌, true, false, List, [], ◌∷◌, ◌++◌, Option, Some, None, refl, sym, subst}
use Rattle.class_input.specs.Grammar.{IsU16}
use Rattle.class_model.specs.declared.class.Constant.{Constant}
use Rattle.class_model.specs.declared.class.CodeDef.{CodeDef}
use Rattle.class_model.specs.declared.class.InnerRow.{InnerRow}
use Rattle.const_pool.specs.Pool.{Pool}
use Rattle.class_names.specs.Pieces.{joined, IsTable, AtIndex}
use Rattle.class_names.specs.Names.{NamesBytes, NamesText, MayName, NamesClass, NamesConstant}
use Rattle.class_attributes.specs.Attributes.{is_named, constant_value, exceptions, source_file, inner_classes, IsConstantValue, IsExceptions, IsSourceFile, IsInnerRow, IsInnerClasses, ReadsOne, ReadsTwo}
use Rattle.class_file.specs.ClassBytes.{code_name, listed}
use Rattle.pool_names.specs.Adding.{Adding, ◌>>=◌, done, spell_u16}
use Rattle.pool_names.specs.Spelling.{spell_bytes, spell_text, spell_class, spell_constant}
use Rattle.pool_names.specs.Claims.{Claims}
use Rattle.pool_names.proofs.Claiming.{claims_as, done_claims, Then, then_claims}
use Rattle.pool_names.proofs.Naming.{bytes_claims, text_claims, class_claims, constant_claims}
use Rattle.pool_names.proofs.Lists.{u16_claims}
use Rattle.class_spelling.specs.Forms.{spell_index, spell_optional, spell_when_some, count_some, spell_when_any, count_any}
use Rattle.class_spelling.specs.AttributeSpelling.{spell_constant_value, spell_class_index, spell_classes, spell_source_file, spell_inner_row, spell_inner_classes, spell_field_attributes, spell_method_attributes, spell_class_attributes}
use Rattle.class_spelling.proofs.Forms.{index_claims, optional_claims, table_claims, attribute_claims, WhenSome, some_claims, one_reads, two_reads}

-- ---- contents

pub class_index_claims : (name : List ℕ) → Claims (λ r text. AtIndex (NamesClass r) text name) (spell_class_index name)
class_index_claims name = index_claims NamesClass name (spell_class name) (class_claims name)

pub classes_claims : (names : List (List ℕ)) → Claims (λ r text. IsTable (AtIndex (NamesClass r)) text names) (spell_classes names)
unfolding spell_classes
classes_claims names = table_claims (λ r. AtIndex (NamesClass r)) spell_class_index names (λ k d lt. class_index_claims _)

constant_value_claims : (constant : Constant) → Claims (λ r text. IsConstantValue r text constant) (spell_constant_value constant)
constant_value_claims constant = index_claims NamesConstant constant (spell_constant constant) (constant_claims constant)

source_claims : (bytes : List ℕ) → Claims (λ r text. IsSourceFile r text bytes) (spell_source_file bytes)
source_claims bytes = index_claims NamesBytes bytes (spell_bytes bytes) (bytes_claims bytes)

row_claims : (row : InnerRow) → Claims (λ r text. IsInnerRow r text row) (spell_inner_row row)
unfolding spell_inner_row
row_claims row =
    let Inner : Pool → List ℕ → Type 0 = λ r text. AtIndex (NamesClass r) text row.inner in
    let Outer : Pool → List ℕ → Type 0 = λ r text. AtIndex (MayName (NamesClass r)) text row.outer in
    let Simple : Pool → List ℕ → Type 0 = λ r text. AtIndex (MayName (NamesText r)) text row.name in
    claims_as
    (Then Inner (λ inner. Then Outer (λ outer. Then Simple (λ name. Then (λ r flags. IsU16 flags row.flags) (λ flags r text. joined (inner ∷ outer ∷ name ∷ flags ∷ []) ≡ text)))))
    (λ r text. IsInnerRow r text row) (spell_inner_row row)
    (λ r text h. record {
      inner = h.0;
      outer = h.2.0;
      name = h.2.2.0;
      flags = h.2.2.2.0;
      spelled = sym h.2.2.2.2;
      inner_is = h.1;
      outer_is = h.2.1;
      name_is = h.2.2.1;
      flags_are = h.2.2.2.1;
    })
    (then_claims Inner _ (spell_class_index row.inner) _ (class_index_claims row.inner)
    (λ inner. then_claims Outer _ (spell_index (spell_optional spell_class row.outer)) _ (index_claims (λ r. MayName (NamesClass r)) row.outer (spell_optional spell_class row.outer) (optional_claims NamesClass spell_class row.outer class_claims))
    (λ outer. then_claims Simple _ (spell_index (spell_optional spell_text row.name)) _ (index_claims (λ r. MayName (NamesText r)) row.name (spell_optional spell_text row.name) (optional_claims NamesText spell_text row.name text_claims))
    (λ name. then_claims (λ r flags. IsU16 flags row.flags) _ (spell_u16 row.flags) _ (u16_claims row.flags)
    (λ flags. done_claims (joined (inner ∷ outer ∷ name ∷ flags ∷ [])))))))

rows_claims : (rows : List InnerRow) → Claims (λ r text. IsInnerClasses r text rows) (spell_inner_classes rows)
rows_claims rows = table_claims IsInnerRow spell_inner_row rows (λ k d lt. row_claims _)

-- ---- tables of attributes

pub field_attributes_claims : (constant : Option Constant) → Claims (λ r text. ReadsOne r constant_value (IsConstantValue r) text constant) (spell_field_attributes constant)
unfolding spell_field_attributes
field_attributes_claims constant =
    let C : Constant → Pool → List ℕ → Type 0 = λ x r content. IsConstantValue r content x in
    claims_as
    (Then (λ r count. IsU16 count (count_some constant)) (λ count. Then (WhenSome C constant_value constant) (λ first r text. (count ++ first) ≡ text)))
    (λ r text. ReadsOne r constant_value (IsConstantValue r) text constant) (spell_field_attributes constant)
    (λ r text h. one_reads (IsConstantValue r) constant_value r constant h.0 h.2.0 text refl h.1 (sym h.2.2) (at_pool r constant h.2.0 h.2.1))
    (then_claims (λ r count. IsU16 count (count_some constant)) _ (spell_u16 (count_some constant)) _ (u16_claims (count_some constant))
    (λ count. then_claims (WhenSome C constant_value constant) _ (spell_when_some constant_value spell_constant_value constant) _ (some_claims C constant_value spell_constant_value constant (λ x is. constant_value_claims x))
    (λ first. done_claims (count ++ first))))
  where
    at_pool : (r : Pool) (o : Option Constant) (text : List ℕ) → WhenSome (λ x p content. IsConstantValue p content x) constant_value o r text → WhenSome (λ x p content. IsConstantValue r content x) constant_value o r text
    at_pool r None text h = h
    at_pool r (Some x) text h = h

-- ---- two attributes

-- one of a list is one of what is there, or of none
abbrev any_found : {A : Type 0} → List A → Option (List A)
any_found [] = None
any_found (x ∷ xs) = Some (x ∷ xs)

pub found_listed : {A : Type 0} (xs : List A) → xs ≡ listed (any_found xs)
found_listed [] = refl
found_listed (x ∷ xs) = refl

any_count : {A : Type 0} (xs : List A) → count_any xs ≡ count_some (any_found xs)
any_count [] = refl
any_count (x ∷ xs) = refl

any_claims : {A : Type 0} (C : List A → Pool → List ℕ → Type 0) (name : List ℕ) (spell : List A → Adding (List ℕ)) (xs : List A) → Claims (C xs) (spell xs) → Claims (WhenSome C name (any_found xs)) (spell_when_any name spell xs)
unfolding spell_when_any
any_claims C name spell [] claims = claims_as (λ r text. [] ≡ text) (λ r text. text ≡ []) (done []) (λ r text h. sym h) (done_claims [])
any_claims C name spell (x ∷ xs) claims = attribute_claims (C (x ∷ xs)) name (spell (x ∷ xs)) claims

at_pool : {A : Type 0} (R : Pool → List ℕ → A → Type 0) (name : List ℕ) (r : Pool) (o : Option A) (text : List ℕ) → WhenSome (λ x p content. R p content x) name o r text → WhenSome (λ x p content. R r content x) name o r text
at_pool R name r None text h = h
at_pool R name r (Some x) text h = h

-- the rows of an attribute that is there where they are some
pub record ReadsAny {A B : Type 0} (r : Pool) (one : List ℕ) (R : List ℕ → A → Type 0) (two : List ℕ) (S : List ℕ → List B → Type 0) (text : List ℕ) (a : Option A) (xs : List B) : Type 0 where
  pub rows : Option (List B)
  pub listed_are : xs ≡ listed rows
  pub reads : ReadsTwo r one R two S text (a, rows)

two_claims : {A B : Type 0} (R : Pool → List ℕ → A → Type 0) (S : Pool → List ℕ → List B → Type 0) (one two : List ℕ) (spell : A → Adding (List ℕ)) (spell_any : List B → Adding (List ℕ)) (a : Option A) (xs : List B)
    → is_named one one ≡ true → is_named one two ≡ false → is_named two one ≡ false → is_named two two ≡ true
    → ((x : A) → a ≡ Some x → Claims (λ r text. R r text x) (spell x)) → Claims (λ r text. S r text xs) (spell_any xs)
    → Claims (λ r text. ReadsAny r one (R r) two (S r) text a xs)
    (spell_u16 (count_some a + count_any xs) >>= λ count. spell_when_some one spell a >>= λ first. spell_when_any two spell_any xs >>= λ second. done (joined (count ∷ first ∷ second ∷ [])))
two_claims {A} {B} R S one two spell spell_any a xs t11 t12 t21 t22 some any =
    let C : A → Pool → List ℕ → Type 0 = λ x r content. R r content x in
    let D : List B → Pool → List ℕ → Type 0 = λ x r content. S r content x in
    let n = count_some a + count_any xs in
    let m : Adding (List ℕ) = spell_u16 n >>= λ count. spell_when_some one spell a >>= λ first. spell_when_any two spell_any xs >>= λ second. done (joined (count ∷ first ∷ second ∷ [])) in
    claims_as
    (Then (λ r count. IsU16 count n) (λ count. Then (WhenSome C one a) (λ first. Then (WhenSome D two (any_found xs)) (λ second r text. joined (count ∷ first ∷ second ∷ []) ≡ text))))
    (λ r text. ReadsAny r one (R r) two (S r) text a xs) m
    (λ r text h. record {
      rows = any_found xs;
      listed_are = found_listed xs;
      reads = two_reads (R r) (S r) one two r a (any_found xs) h.0 h.2.0 h.2.2.0 text t11 t12 t21 t22 (subst (λ (k : ℕ). IsU16 h.0 (count_some a + k)) (any_count xs) h.1) (sym h.2.2.2) (at_pool R one r a h.2.0 h.2.1) (at_pool S two r (any_found xs) h.2.2.0 h.2.2.1);
    })
    (then_claims (λ r count. IsU16 count n) _ (spell_u16 n) _ (u16_claims n)
    (λ count. then_claims (WhenSome C one a) _ (spell_when_some one spell a) _ (some_claims C one spell a some)
    (λ first. then_claims (WhenSome D two (any_found xs)) _ (spell_when_any two spell_any xs) _ (any_claims D two spell_any xs any)
    (λ second. done_claims (joined (count ∷ first ∷ second ∷ []))))))

pub method_attributes_claims : (IsCode : Pool → List ℕ → CodeDef → Type 0) (spell : CodeDef → Adding (List ℕ)) (code : Option CodeDef) (throws : List (List ℕ)) → ((x : CodeDef) → code ≡ Some x → Claims (λ r text. IsCode r text x) (spell x))
    → Claims (λ r text. ReadsAny r code_name (IsCode r) exceptions (IsExceptions r) text code throws) (spell_method_attributes spell code throws)
unfolding spell_method_attributes
method_attributes_claims IsCode spell code throws claims = two_claims IsCode IsExceptions code_name exceptions spell spell_classes code throws refl refl refl refl claims (classes_claims throws)

pub class_attributes_claims : (source : Option (List ℕ)) (rows : List InnerRow) → Claims (λ r text. ReadsAny r source_file (IsSourceFile r) inner_classes (IsInnerClasses r) text source rows) (spell_class_attributes source rows)
unfolding spell_class_attributes
class_attributes_claims source rows = two_claims IsSourceFile IsInnerClasses source_file inner_classes spell_source_file spell_inner_classes source rows refl refl refl refl (λ bytes is. source_claims bytes) (rows_claims rows)
