-- What the bytes of a constant pool are (JVMS 4.4), and what its indices name.
use Rattle.std.specs.Prelude.{◌≡◌, ℕ, ◌+◌, ◌-◌, ◌==◌, if◌then◌else◌, ◌<◌, ◌^◌, List, [], ◌∷◌, ◌++◌, length, Option, Some, None, option_and_then, slice_get, All, FitsSigned}
use Rattle.std.specs.List.{flat_map}
use Rattle.std.specs.Int.{w8, w16, w32, w64, to_be_bytes, cast_unsigned}
use Rattle.class_input.specs.Grammar.{IsBytes, IsU16}
use Rattle.modified_utf8.specs.Text.{IsText}
use Rattle.const_pool.specs.declared.entry.Entry.{Entry}
use Rattle.const_pool.specs.declared.entry.Entry.TheVariants.{Utf8, Integer, Float, Long, Double, Class, Text, Field, Method, InterfaceMethod, NameAndType, Handle, MethodType, Dynamic}

-- ---- an entry: its tag, and what stands behind it, numbers with the highest byte first

abbrev pub tag_of : Entry → ℕ
tag_of (Utf8 text) = 1
tag_of (Integer n) = 3
tag_of (Float bits) = 4
tag_of (Long n) = 5
tag_of (Double bits) = 6
tag_of (Class k) = 7
tag_of (Text k) = 8
tag_of (Field k m) = 9
tag_of (Method k m) = 10
tag_of (InterfaceMethod k m) = 11
tag_of (NameAndType k m) = 12
tag_of (Handle k m) = 15
tag_of (MethodType k) = 16
tag_of (Dynamic k m) = 18

abbrev pub one_index : ℕ → List ℕ
one_index k = to_be_bytes w16 k

abbrev pub two_indices : ℕ → ℕ → List ℕ
two_indices k m = to_be_bytes w16 k ++ to_be_bytes w16 m

abbrev pub body_of : Entry → List ℕ
body_of (Utf8 text) = to_be_bytes w16 (length text) ++ text
body_of (Integer n) = to_be_bytes w32 (cast_unsigned w32 n)
body_of (Float bits) = bits
body_of (Long n) = to_be_bytes w64 (cast_unsigned w64 n)
body_of (Double bits) = bits
body_of (Class k) = one_index k
body_of (Text k) = one_index k
body_of (Field k m) = two_indices k m
body_of (Method k m) = two_indices k m
body_of (InterfaceMethod k m) = two_indices k m
body_of (NameAndType k m) = two_indices k m
body_of (Handle k m) = to_be_bytes w8 k ++ to_be_bytes w16 m
body_of (MethodType k) = one_index k
body_of (Dynamic k m) = two_indices k m

abbrev pub entry_bytes : Entry → List ℕ
entry_bytes e = tag_of e ∷ body_of e

-- numbers in the range of their fields
abbrev pub InRange : Entry → Type 0
InRange (Utf8 text) = IsBytes text
InRange (Integer n) = FitsSigned w32 n
InRange (Float bits) = (length bits ≡ 4) × IsBytes bits
InRange (Long n) = FitsSigned w64 n
InRange (Double bits) = (length bits ≡ 8) × IsBytes bits
InRange (Class k) = k < 2 ^ 16
InRange (Text k) = k < 2 ^ 16
InRange (Field k m) = (k < 2 ^ 16) × (m < 2 ^ 16)
InRange (Method k m) = (k < 2 ^ 16) × (m < 2 ^ 16)
InRange (InterfaceMethod k m) = (k < 2 ^ 16) × (m < 2 ^ 16)
InRange (NameAndType k m) = (k < 2 ^ 16) × (m < 2 ^ 16)
InRange (Handle k m) = (k < 2 ^ 8) × (m < 2 ^ 16)
InRange (MethodType k) = k < 2 ^ 16
InRange (Dynamic k m) = (k < 2 ^ 16) × (m < 2 ^ 16)

-- the bytes of a Utf8 entry are modified UTF-8, and their number has two bytes
abbrev pub HasText : Entry → Type 0
HasText (Utf8 text) = (length text < 2 ^ 16) × ((units : List ℕ) × IsText text units)
HasText e = Unit {0}

-- ---- what indices name

-- the entries by their indices, from 1 on; the second index of a Long or a Double has none
abbrev pub Pool : Type 0
Pool = List (Option Entry)

-- the indices that an entry takes: a Long or a Double takes two (JVMS 4.4.5)
abbrev pub slots_of : Entry → Pool
slots_of (Long n) = Some (Long n) ∷ None ∷ []
slots_of (Double bits) = Some (Double bits) ∷ None ∷ []
slots_of e = Some e ∷ []

abbrev pub slot_entry : Option (Option Entry) → Option Entry
slot_entry None = None
slot_entry (Some slot) = slot

-- the entry that an index names, if any
abbrev pub entry_at : Pool → ℕ → Option Entry
entry_at p k = if k == 0 then None else slot_entry (slice_get p (k - 1))

-- what an index names, where that entry is of the kind that `view` takes
abbrev pub names : {A : Type 0} → (Entry → Option A) → Pool → ℕ → Option A
names view p k = option_and_then view (entry_at p k)

abbrev pub as_text : Entry → Option (List ℕ)
as_text (Utf8 text) = Some text
as_text e = None

abbrev pub as_class : Entry → Option ℕ
as_class (Class k) = Some k
as_class e = None

abbrev pub as_name_and_type : Entry → Option (ℕ × ℕ)
as_name_and_type (NameAndType k m) = Some (k, m)
as_name_and_type e = None

abbrev pub IsNamed : {A : Type 0} → (Entry → Option A) → Pool → ℕ → Type 0
IsNamed {A} view p k = (a : A) × (names view p k ≡ Some a)

-- two bytes, the index of what they stand for
abbrev pub Indexes : {A : Type 0} → (Entry → Option A) → Pool → List ℕ → A → Type 0
Indexes view p text a = (k : ℕ) × IsU16 text k × (names view p k ≡ Some a)

abbrev pub IsMember : Pool → ℕ → ℕ → Type 0
IsMember p k m = IsNamed as_class p k × IsNamed as_name_and_type p m

-- each index that an entry holds names an entry of the kind that is needed there; handles, method types and
-- dynamic call sites are not judged
abbrev pub Refers : Pool → Entry → Type 0
Refers p (Class k) = IsNamed as_text p k
Refers p (Text k) = IsNamed as_text p k
Refers p (Field k m) = IsMember p k m
Refers p (Method k m) = IsMember p k m
Refers p (InterfaceMethod k m) = IsMember p k m
Refers p (NameAndType k m) = IsNamed as_text p k × IsNamed as_text p m
Refers p e = Unit {0}

-- ---- a pool: a count, one more than its indices, and its entries, each of which refers to what it needs

pub record IsPool (text : List ℕ) (p : Pool) : Type 0 where
  pub entries : List Entry
  pub small : length p + 1 < 2 ^ 16
  pub spelled : text ≡ to_be_bytes w16 (length p + 1) ++ flat_map entry_bytes entries
  pub in_range : All InRange entries
  pub texts : All HasText entries
  pub indices : p ≡ flat_map slots_of entries
  pub refers : All (Refers p) entries
