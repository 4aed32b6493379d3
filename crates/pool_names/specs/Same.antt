-- Whether two entries are the same.
use Rattle.std.specs.Prelude.{ℕ, Bool, false, ◌&&◌, ◌==◌, Option, Some, None, bytes_eq}
use Rattle.std.specs.Ordering.{int_eq}
use Rattle.const_pool.specs.declared.entry.Entry.{Entry}
use Rattle.const_pool.specs.declared.entry.Entry.TheVariants.{Utf8, Integer, Float, Long, Double, Class, Text, Field, Method, InterfaceMethod, NameAndType, Handle, MethodType, Dynamic}

abbrev pub same_pair : ℕ → ℕ → ℕ → ℕ → Bool
same_pair k m k' m' = (k == k') && (m == m')

-- entries of one kind that hold the same
abbrev pub same_entry : Entry → Entry → Bool
same_entry (Utf8 text) (Utf8 text') = bytes_eq text text'
same_entry (Integer n) (Integer n') = int_eq n n'
same_entry (Float bits) (Float bits') = bytes_eq bits bits'
same_entry (Long n) (Long n') = int_eq n n'
same_entry (Double bits) (Double bits') = bytes_eq bits bits'
same_entry (Class k) (Class k') = k == k'
same_entry (Text k) (Text k') = k == k'
same_entry (Field k m) (Field k' m') = same_pair k m k' m'
same_entry (Method k m) (Method k' m') = same_pair k m k' m'
same_entry (InterfaceMethod k m) (InterfaceMethod k' m') = same_pair k m k' m'
same_entry (NameAndType k m) (NameAndType k' m') = same_pair k m k' m'
same_entry (Handle k m) (Handle k' m') = same_pair k m k' m'
same_entry (MethodType k) (MethodType k') = k == k'
same_entry (Dynamic k m) (Dynamic k' m') = same_pair k m k' m'
same_entry _ _ = false

-- what stands at an index is this entry
abbrev pub is_slot : Entry → Option Entry → Bool
is_slot e None = false
is_slot e (Some x) = same_entry e x
