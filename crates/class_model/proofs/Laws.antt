-- What a descriptor's text is read as, and what the parsers' answers say of it.
use Rattle.std.proofs.Common.{◌≡◌, ◌≢◌, ◌∙◌, ℕ, List, [], ◌∷◌, Option, Some, None, Result, Ok, Err, refl, sym, ap, subst}
use Rattle.std.specs.Prelude.{◌↔◌, IfOk, MatchResult}
use Rattle.class_model.specs.declared.descriptor.DescStop.{DescStop}
use Rattle.class_model.specs.declared.descriptor.DescStop.TheVariants.{Bad, Memory}
use Rattle.class_model.specs.declared.types.JType.{JType}
use Rattle.class_model.specs.declared.types.MethodDesc.{MethodDesc}
use Rattle.class_model.specs.Descriptor.{SpellsField, SpellsMethod, IsLongest}
use Rattle.class_model.specs.Reading.{Dimensions, front, read, value_of, InField, FieldRead, read_field, Opening, MethodRead, read_method, field_of, method_of}
use Rattle.class_model.specs.Answer.{GoesOn, Agrees}
use Rattle.class_model.proofs.Machine.{Exact}
use Rattle.class_model.proofs.Fields.{behind, read_field_front, field_exact}
use Rattle.class_model.proofs.Methods.{method_exact}

read_value : {A : Type 0} (r : Result A ℕ) (value : A) → value_of r ≡ Some value → r ≡ Ok value
read_value (Ok x) value e = cc
read_value (Err place) value e = absurd cc

-- the type that a text is read as is the one that it spells
pub field_of-spells : (text : List ℕ) (ty : JType) → (field_of text ≡ Some ty) ↔ SpellsField text ty
unfolding field_of
field_of-spells text ty =
    (λ e. field_exact.spelled text ty (read_value (read_field (InField (Dimensions 0)) 0 text) ty e), λ s. ap value_of (field_exact.reads text ty s))

pub method_of-spells : (text : List ℕ) (desc : MethodDesc) → (method_of text ≡ Some desc) ↔ SpellsMethod text desc
unfolding method_of
method_of-spells text desc =
    (λ e. method_exact.spelled text desc (read_value (read_method Opening 0 text) desc e), λ s. ap value_of (method_exact.reads text desc s))

none_from : {A : Type 0} (o : Option A) → ((value : A) → o ≡ Some value → ⊥) → o ≡ None
none_from None h = refl
none_from (Some value) h = absurd (h value refl)

-- what spells no type is read as none
pub field_of-none : (text : List ℕ) → ((ty : JType) → SpellsField text ty → ⊥) → field_of text ≡ None
field_of-none text h = none_from (field_of text) (λ ty e. h ty ((field_of-spells text ty).0 e))

pub method_of-none : (text : List ℕ) → ((desc : MethodDesc) → SpellsMethod text desc → ⊥) → method_of text ≡ None
method_of-none text h = none_from (method_of text) (λ desc e. h desc ((method_of-spells text desc).0 e))

-- what a parser's answer says of the text
pub record Clauses {A : Type 0} (Spells : List ℕ → A → Type 0) (text : List ℕ) (result : Result A DescStop) (read : Option A) : Type 0 where
  pub ok : IfOk result (Spells text)
  pub only : (value : A) → Spells text value → MatchResult result (λ read. read ≡ value) (λ stop. stop ≡ Memory)
  pub bad : (place : ℕ) → result ≡ Err (Bad place) → ((value : A) → Spells text value → ⊥) × IsLongest Spells text place
  pub reads : Agrees result read

same_value : {A : Type 0} (x y : A) (r : Result A ℕ) → r ≡ Ok x → r ≡ Ok y → x ≡ y
same_value {A = A} x y r e f = let g : (let k : Result A ℕ = Ok x in k) ≡ Ok y = sym e ∙ f in cc

same_place : {A : Type 0} (x y : ℕ) → (let k : Result A DescStop = Err (Bad x) in k) ≡ Err (Bad y) → x ≡ y
same_place x y e = cc

clauses : {S A : Type 0} (step : S → ℕ → Option S) (finish : S → Option A) (start : S) (Spells : List ℕ → A → Type 0) → Exact step finish start Spells
    → (text : List ℕ) (result : Result A DescStop) → GoesOn result (read step finish start 0 text) (λ value. Ok value) → Clauses Spells text result (value_of (read step finish start 0 text))
clauses step finish start Spells exact text (Ok value) h = record {
  ok = exact.spelled text value h;
  only = λ other s. same_value value other (read step finish start 0 text) h (exact.reads text other s);
  bad = λ place e. absurd cc;
  reads = ap value_of h;
}
clauses {A = A} step finish start Spells exact text (Err (Bad place)) h = record {
  ok = tt;
  only = λ other s. absurd (let e = exact.reads text other s in let f : (let k : Result A ℕ = Ok other in k) ≡ Err place = sym e ∙ h in cc);
  bad = λ place' e. (λ other s. let g = exact.reads text other s in let f : (let k : Result A ℕ = Ok other in k) ≡ Err place = sym g ∙ h in cc, subst (IsLongest Spells text) (same_place {A = A} place place' e) (exact.longest text place h));
  reads = ap value_of h;
}
clauses step finish start Spells exact text (Err Memory) h = record {
  ok = tt;
  only = λ other s. refl;
  bad = λ place e. absurd cc;
  reads = tt;
}

pub type_clauses : (text : List ℕ) (result : Result JType DescStop) → GoesOn result (read_field (InField (Dimensions 0)) 0 text) (λ ty. Ok ty) → Clauses SpellsField text result (field_of text)
unfolding field_of
type_clauses text result h = clauses _ _ (InField (Dimensions 0)) SpellsField field_exact text result h

pub method_clauses : (text : List ℕ) (result : Result MethodDesc DescStop) → GoesOn result (read_method Opening 0 text) (λ desc. Ok desc) → Clauses SpellsMethod text result (method_of text)
unfolding method_of
method_clauses text result h = clauses _ _ Opening SpellsMethod method_exact text result h

-- ---- the end of a text

pub field_whole : (at after : ℕ) (units rest : List ℕ) (ty : JType) → front (Dimensions 0) at units ≡ Ok (ty, record { at = after; units = rest }) → rest ≡ [] → read_field (InField (Dimensions 0)) at units ≡ Ok ty
unfolding read
field_whole at after units rest ty f e = read_field_front at units ∙ ap (λ r. behind r (λ ty rest. read_field (FieldRead ty) rest.at rest.units)) f ∙ ap (read_field (FieldRead ty) after) e

field_behind : (ty : JType) (at : ℕ) (units : List ℕ) → units ≢ [] → read_field (FieldRead ty) at units ≡ Err at
unfolding read
field_behind ty at [] e = absurd (e refl)
field_behind ty at (unit ∷ units) e = refl

pub field_longer : (at after : ℕ) (units rest : List ℕ) (ty : JType) → front (Dimensions 0) at units ≡ Ok (ty, record { at = after; units = rest }) → rest ≢ [] → read_field (InField (Dimensions 0)) at units ≡ Err after
field_longer at after units rest ty f e = read_field_front at units ∙ ap (λ r. behind r (λ ty rest. read_field (FieldRead ty) rest.at rest.units)) f ∙ field_behind ty after rest e

pub field_refused : (at place : ℕ) (units : List ℕ) → front (Dimensions 0) at units ≡ Err place → read_field (InField (Dimensions 0)) at units ≡ Err place
field_refused at place units f = read_field_front at units ∙ ap (λ r. behind r (λ ty rest. read_field (FieldRead ty) rest.at rest.units)) f

pub method_whole : (at : ℕ) (desc : MethodDesc) → read_method (MethodRead desc) at [] ≡ Ok desc
unfolding read
method_whole at desc = refl

pub method_longer : (at : ℕ) (units : List ℕ) (desc : MethodDesc) → units ≢ [] → read_method (MethodRead desc) at units ≡ Err at
unfolding read
method_longer at [] desc e = absurd (e refl)
method_longer at (unit ∷ units) desc e = refl
