-- The class of a file has the counts that a class file can have.
use Rattle.std.proofs.Common.{◌≡◌, ℕ, ◌+◌, ◌≤◌, List, [], ◌∷◌, length, All, Option, Some, None, refl, sym, ap, arith, length-append}
use Rattle.std.specs.Prelude.{IfSome, IfOk, Result, Ok, Err, option_and_then}
use Rattle.std.specs.Option.{option_map}
use Rattle.std.proofs.lemmas.List.Elements.{All-nil, All-cons}
use Rattle.class_input.specs.Grammar.{Each}
use Rattle.class_input.specs.declared.bad_class.BadClass.{BadClass}
use Rattle.class_model.specs.declared.class.CodeDef.{CodeDef}
use Rattle.class_model.specs.declared.class.MethodDef.{MethodDef}
use Rattle.class_model.specs.declared.class.ClassDef.{ClassDef}
use Rattle.class_model.specs.declared.insn.Insn.{Insn}
use Rattle.const_pool.specs.Pool.{Pool}
use Rattle.class_names.specs.Pieces.{IsTable, AtIndex}
use Rattle.class_names.specs.Names.{NamesClass}
use Rattle.class_attributes.specs.Attributes.{contents, AtMostOne}
use Rattle.insn_code.specs.Linking.{Placed, link_placed, all_of, ArePlaced, AreInsns}
use Rattle.insn_code.proofs.CodeLaws.{has_bytes}
use Rattle.code_tables.specs.CodeTables.{IsHandler}
use Rattle.class_file.specs.declared.method.MethodHead.{MethodHead}
use Rattle.class_file.specs.ClassBytes.{code_name, head_of, IsField, IsMethod}
use Rattle.profile_check.specs.Profile.{IsCodeCounted, IsCounted}
use Rattle.code_attribute.specs.CodeContent.{IsCodeContent}
use Rattle.code_attribute.specs.WholeClass.{IsClassFile}

few_rows : {A : Type 0} (R : List ℕ → A → Type 0) (text : List ℕ) (items : List A) → IsTable R text items → length items ≤ 65535
few_rows R text items h = let c = h.counted.0 in omega (arith, c)

-- ---- instructions: each takes a byte or more

few_placed : (p : Pool) (pc : ℕ) (text : List ℕ) (xs : List Placed) → ArePlaced p pc text xs → length xs ≤ length text
few_placed p pc text [] h = omega arith
few_placed p pc text (x ∷ xs) h =
    let one = has_bytes p pc h.0 x.1 h.3.1 in
    let more = few_placed p (pc + length h.0) h.1 xs h.4 in
    let whole = ap length h.2 in
    omega (arith, one, more, whole, length-append h.0 h.1)

-- a list of which a first thing gives the first, and the others the rest
abbrev pub First : {B : Type 0} → Option B → Option (List B) → List B → Type 0
First {B} z o ys = (y : B) × (zs : List B) × (z ≡ Some y) × (o ≡ Some zs) × (y ∷ zs ≡ ys)

pub first_of : {B : Type 0} (z : Option B) (o : Option (List B)) (ys : List B) → option_and_then (λ y. option_map (λ zs. y ∷ zs) o) z ≡ Some ys → First z o ys
first_of None o ys h = absurd cc
first_of (Some y) None ys h = absurd cc
first_of (Some y) (Some zs) ys h = (y, zs, refl, refl, cc)

pub as_many : {A B : Type 0} (f : A → Option B) (xs : List A) (ys : List B) → all_of f xs ≡ Some ys → length ys ≡ length xs
unfolding all_of
as_many {A} {B} f [] ys h = let none : (let empty : List B = [] in empty) ≡ ys = cc in ap length (sym none)
as_many f (x ∷ xs) ys h =
    let c = first_of (f x) (all_of f xs) ys h in
    let more = as_many f xs c.1 c.3 in
    let len = ap length c.4 in
    omega (arith, more, len)

few_insns : (p : Pool) (text starts : List ℕ) (insns : List Insn) → AreInsns p text starts insns → length insns ≤ length text
few_insns p text starts insns h = let same = as_many (link_placed starts) h.placed insns h.linked in let few = few_placed p 0 text h.placed h.placed_are in omega (arith, same, few)

-- ---- code, methods, the class

code_counted : (p : Pool) (class : List ℕ) (head : MethodHead) (text : List ℕ) (code : CodeDef) → IsCodeContent p class head text code → IsCodeCounted code
code_counted p class head text code h =
    let are = h.insns_are in
    let few = few_insns p h.insns h.offsets.starts code.insns are.insns_are in
    let long = are.long in
    let limit = h.not_long in
    record { insns = omega (arith, few, long, limit); handlers = few_rows (IsHandler p h.offsets) h.handlers code.handlers h.handlers_are }

pub of_one : {A : Type 0} (R : List ℕ → A → Type 0) (Q : A → Type 0) → ((content : List ℕ) (a : A) → R content a → Q a) → (cs : List (List ℕ)) (found : Option A) → AtMostOne R cs found → IfSome found Q
of_one R Q to [] None h = tt
of_one R Q to [] (Some a) h = absurd h
of_one R Q to (c ∷ []) None h = absurd h
of_one R Q to (c ∷ []) (Some a) h = to c a h
of_one R Q to (c ∷ d ∷ cs) None h = absurd h
of_one R Q to (c ∷ d ∷ cs) (Some a) h = absurd h

pub of_each : {A : Type 0} (R : List ℕ → A → Type 0) (Q : A → Type 0) → ((text : List ℕ) (a : A) → R text a → Q a) → (text : List ℕ) (xs : List A) → Each R text xs → All Q xs
of_each R Q to text [] h = All-nil Q
of_each R Q to text (x ∷ xs) h = All-cons Q x xs (to h.0 x h.3) (of_each R Q to h.1 xs h.4)

abbrev MethodCounted : MethodDef → Type 0
MethodCounted method = IfSome method.code IsCodeCounted

method_counted : (p : Pool) (class text : List ℕ) (method : MethodDef) → IsMethod IsCodeContent p class text method → MethodCounted method
method_counted p class text method h =
    let found = h.attributes_are in
    of_one (IsCodeContent p class (head_of method)) IsCodeCounted (code_counted p class (head_of method)) (contents code_name found.attributes) method.code found.first_is

pub class_counted : (bytes : List ℕ) (class : ClassDef) → IsClassFile bytes class → IsCounted class
class_counted bytes class h =
    let p = h.pool in
    let body = h.body_is in
    record {
      interfaces = few_rows (AtIndex (NamesClass p)) body.interfaces class.interfaces body.interfaces_are;
      fields = few_rows (IsField p) body.fields class.fields body.fields_are;
      methods = few_rows (IsMethod IsCodeContent p class.name) body.methods class.methods body.methods_are;
      codes = of_each (IsMethod IsCodeContent p class.name) MethodCounted (method_counted p class.name) body.methods_are.rest class.methods body.methods_are.each_is;
    }

pub read_counted : (bytes : List ℕ) (r : Result ClassDef BadClass) → IfOk r (λ class. IsClassFile bytes class) → IfOk r IsCounted
read_counted bytes (Ok class) h = class_counted bytes class h
read_counted bytes (Err stop) h = tt
