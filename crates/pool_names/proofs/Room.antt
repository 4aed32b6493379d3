-- How many indices are enough for what is put into a constant pool.
use Rattle.std.proofs.Common.{◌≡◌, ℕ, ◌+◌, ◌*◌, ◌≤◌, Bool, true, false, List, [], ◌∷◌, ◌++◌, length, Option, Some, None, Result, Ok, Err, refl, arith, length-append}
use Rattle.std.specs.Prelude.{cond, nat_lt, All}
use Rattle.std.specs.List.{list_all}
use Rattle.std.proofs.lemmas.Bool.{le-ltb}
use Rattle.std.proofs.lemmas.List.Elements.{All-head, All-tail}
use Rattle.modified_utf8.specs.Text.{text_bytes}
use Rattle.class_model.specs.declared.types.JType.{JType}
use Rattle.class_model.specs.declared.types.MethodDesc.{MethodDesc}
use Rattle.class_model.specs.declared.types.MethodRef.{MethodRef}
use Rattle.class_model.specs.Descriptor.{field_descriptor, method_descriptor}
use Rattle.const_pool.specs.declared.entry.Entry.{Entry}
use Rattle.const_pool.specs.declared.entry.Entry.TheVariants as entries
use Rattle.const_pool.specs.Pool.{Pool, slots_of}
use Rattle.const_pool.specs.Editor.{last_index}
use Rattle.pool_names.specs.Adding.{Adding, Unfit, OutOfRange, Past, bind, ◌>>=◌, done, unspelled, spell_u16, spell_u32, index_from, found_or_new, add_entry, spell_each}
use Rattle.pool_names.specs.Spelling.{spell_text, spell_class, class_text, spell_type, spell_field_type, spell_desc, spell_name_and_type, spell_method, method_entry, spell_int, spell_bytes, is_unit}

-- a pool grows by at most so many indices, and none of them passes 65,534
abbrev pub Grows : {A : Type 0} → ℕ → Pool → Result (Pool × A) Unfit → Type 0
Grows n p (Ok x) = length x.0 ≤ length p + n
Grows n p (Err OutOfRange) = Unit {0}
Grows n p (Err (Past last)) = ⊥

-- so many indices are enough
pub record Room {A : Type 0} (n : ℕ) (m : Adding A) : Type 0 where
  pub each : (p : Pool) → length p + n ≤ 65534 → Grows n p (m p)

grows_more : {A : Type 0} (n k : ℕ) (p q : Pool) (o : Result (Pool × A) Unfit) → length q ≤ length p + n → Grows k q o → Grows (n + k) p o
grows_more n k p q (Ok x) few g = omega (arith, few, g)
grows_more n k p q (Err OutOfRange) few g = tt
grows_more n k p q (Err (Past last)) few g = g

grows_on : {A B : Type 0} (n k : ℕ) (p : Pool) (o : Result (Pool × A) Unfit) (f : A → Adding B) → length p + (n + k) ≤ 65534 → Grows n p o → ((a : A) → Room k (f a)) → Grows (n + k) p (bind o f)
grows_on n k p (Ok x) f room g next = grows_more n k p x.0 (f x.1 x.0) g ((next x.1).each x.0 (omega (arith, room, g)))
grows_on n k p (Err OutOfRange) f room g next = tt
grows_on n k p (Err (Past last)) f room g next = g

-- one thing, and what goes on from it
pub then_room : {A B : Type 0} (n k : ℕ) (m : Adding A) (f : A → Adding B) → Room n m → ((a : A) → Room k (f a)) → Room (n + k) (m >>= f)
then_room n k m f first next = record { each = λ p room. grows_on n k p (m p) f room (first.each p (omega (arith, room))) next }

grows_wider : {A : Type 0} (n k : ℕ) (p : Pool) (o : Result (Pool × A) Unfit) → n ≤ k → Grows n p o → Grows k p o
grows_wider n k p (Ok x) le g = omega (arith, le, g)
grows_wider n k p (Err OutOfRange) le g = tt
grows_wider n k p (Err (Past last)) le g = g

pub wider_room : {A : Type 0} (n k : ℕ) (m : Adding A) → n ≤ k → Room n m → Room k m
wider_room n k m le room = record { each = λ p few. grows_wider n k p (m p) le (room.each p (omega (arith, le, few))) }

pub done_room : {A : Type 0} (a : A) → Room 0 (done a)
done_room a = record { each = λ p few. omega arith }

pub unspelled_room : {A : Type 0} → Room 0 (unspelled {A = A})
unspelled_room = record { each = λ p few. tt }

pub if_room : {A : Type 0} (n : ℕ) (b : Bool) (x y : Adding A) → Room n x → Room n y → Room n (cond b x y)
if_room n true x y h g = h
if_room n false x y h g = g

-- ---- numbers

pub u16_room : (n : ℕ) → Room 0 (spell_u16 n)
unfolding spell_u16
u16_room n = if_room 0 (nat_lt n 65536) _ unspelled (done_room _) unspelled_room

pub u32_room : (n : ℕ) → Room 0 (spell_u32 n)
unfolding spell_u32
u32_room n = if_room 0 (nat_lt n 4294967296) _ unspelled (done_room _) unspelled_room

-- ---- entries

found_room : (n : ℕ) (e : Entry) (p : Pool) (o : Option ℕ) → length (slots_of e) ≤ n → length p + n ≤ 65534 → Grows n p (found_or_new e p o)
found_room n e p (Some k) few room = omega arith
found_room n e p None few room = rw (le-ltb 65534 (last_index p e) (omega (arith, few, room))) (let len = length-append p (slots_of e) in omega (arith, len, few))

pub entry_room : (n : ℕ) (e : Entry) → length (slots_of e) ≤ n → Room n (add_entry e)
unfolding add_entry
entry_room n e few = record { each = λ p room. found_room n e p (index_from 1 e p) few room }

pub text_room : (units : List ℕ) → Room 1 (spell_text units)
unfolding spell_text
text_room units =
    if_room 1 (list_all is_unit units) (spell_bytes (text_bytes units)) unspelled (entry_room 1 (entries.Utf8 (text_bytes units)) (omega arith)) (wider_room 0 1 unspelled (omega arith) unspelled_room)

pub class_room : (name : List ℕ) → Room 2 (spell_class name)
unfolding spell_class
class_room name = then_room 1 1 (spell_text name) (λ text. add_entry (entries.Class text)) (text_room name) (λ text. entry_room 1 (entries.Class text) (omega arith))

pub type_room : (ty : JType) → Room 2 (spell_type ty)
unfolding spell_type
type_room ty = class_room (class_text ty)

pub field_type_room : (ty : JType) → Room 1 (spell_field_type ty)
unfolding spell_field_type
field_type_room ty = text_room (field_descriptor ty)

pub desc_room : (desc : MethodDesc) → Room 1 (spell_desc desc)
unfolding spell_desc
desc_room desc = text_room (method_descriptor desc)

name_and_type_room : (name descriptor : List ℕ) → Room 3 (spell_name_and_type name descriptor)
unfolding spell_name_and_type
name_and_type_room name descriptor =
    then_room 1 2 (spell_text name) _ (text_room name) (λ n. then_room 1 1 (spell_text descriptor) _ (text_room descriptor) (λ t. entry_room 1 (entries.NameAndType n t) (omega arith)))

method_entry_small : (b : Bool) (k m : ℕ) → length (slots_of (method_entry b k m)) ≤ 1
method_entry_small true k m = omega arith
method_entry_small false k m = omega arith

pub method_room : (method : MethodRef) → Room 6 (spell_method method)
unfolding spell_method
method_room method =
    then_room 2 4 (spell_type method.class) _ (type_room method.class) (λ k. then_room 3 1 (spell_name_and_type method.name (method_descriptor method.desc)) _
    (name_and_type_room method.name (method_descriptor method.desc)) (λ m. entry_room 1 (method_entry method.in_interface k m) (method_entry_small method.in_interface k m)))

-- ---- lists

pub each_room : {A : Type 0} (n : ℕ) (spell : A → Adding (List ℕ)) (xs : List A) → All (λ x. Room n (spell x)) xs → Room (n * length xs) (spell_each spell xs)
unfolding spell_each
each_room {A} n spell [] rooms = wider_room 0 (n * 0) (spell_each spell []) (omega arith) (done_room [])
each_room {A} n spell (x ∷ xs) rooms =
    let P : A → Type 0 = λ y. Room n (spell y) in
    wider_room (n + (n * length xs + 0)) (n * length (x ∷ xs)) (spell_each spell (x ∷ xs)) (omega arith)
    (then_room n (n * length xs + 0) (spell x) _ (All-head P x xs rooms)
    (λ first. then_room (n * length xs) 0 (spell_each spell xs) _ (each_room n spell xs (All-tail P x xs rooms)) (λ others. done_room (first ++ others))))
