-- Access flags (JVMS 4.1, 4.5, 4.6), as the numbers of their bits.
use Rattle.std.specs.Prelude.{ℕ, ◌+◌, ◌==◌, ◌&&◌, ◌||◌, Bool, not, bit_and, bit_or}

abbrev pub public_flag : ℕ
public_flag = 1

abbrev pub private_flag : ℕ
private_flag = 2

abbrev pub protected_flag : ℕ
protected_flag = 4

abbrev pub static_flag : ℕ
static_flag = 8

abbrev pub final_flag : ℕ
final_flag = 16

-- also that a superclass's method is called in the modern way, which each class may say
abbrev pub super_flag : ℕ
super_flag = 32

-- of a method: that it is a bridge
abbrev pub volatile_flag : ℕ
volatile_flag = 64

-- of a method: that it takes a variable number of arguments
abbrev pub transient_flag : ℕ
transient_flag = 128

abbrev pub native_flag : ℕ
native_flag = 256

abbrev pub interface_flag : ℕ
interface_flag = 512

abbrev pub abstract_flag : ℕ
abstract_flag = 1024

abbrev pub strict_flag : ℕ
strict_flag = 2048

abbrev pub synthetic_flag : ℕ
synthetic_flag = 4096

-- a flag is set
abbrev pub has : ℕ → ℕ → Bool
has flags flag = not (bit_and flags flag == 0)

-- a flag other than the allowed ones is set
abbrev pub has_other : ℕ → ℕ → Bool
has_other flags allowed = not (bit_or flags allowed == allowed)

-- two of public, private and protected are set
abbrev pub has_two_kinds_of_access : ℕ → Bool
has_two_kinds_of_access flags =
    (has flags public_flag && has flags private_flag) || (has flags public_flag && has flags protected_flag) || (has flags private_flag && has flags protected_flag)

abbrev pub class_allowed : ℕ
class_allowed = public_flag + final_flag + super_flag + interface_flag + abstract_flag + synthetic_flag

-- of a class: a flag that a class may not have; an interface that is not abstract; an abstract class that is final
abbrev pub has_bad_class_flags : ℕ → Bool
has_bad_class_flags flags =
    has_other flags class_allowed || (has flags interface_flag && not (has flags abstract_flag)) || (has flags abstract_flag && has flags final_flag)

abbrev pub field_allowed : ℕ
field_allowed = public_flag + private_flag + protected_flag + static_flag + final_flag + volatile_flag + transient_flag + synthetic_flag

-- what a field of an interface has to be: public, static and final
abbrev pub is_interface_constant : ℕ → Bool
is_interface_constant flags = has flags public_flag && has flags static_flag && has flags final_flag

-- of a field: a flag that a field may not have; two kinds of access; in an interface, one that is not public, static and final
abbrev pub has_bad_field_flags : (in_interface : Bool) → ℕ → Bool
has_bad_field_flags in_interface flags =
    has_other flags field_allowed || has_two_kinds_of_access flags || (in_interface && not (is_interface_constant flags))

abbrev pub method_allowed : ℕ
method_allowed = public_flag + private_flag + protected_flag + static_flag + final_flag + volatile_flag + transient_flag + native_flag + abstract_flag + strict_flag + synthetic_flag

-- private, static, final or native, with which a method is not abstract
abbrev pub is_concrete : ℕ → Bool
is_concrete flags = has flags private_flag || has flags static_flag || has flags final_flag || has flags native_flag

-- of a method: a flag that a method may not have; two kinds of access; abstract and concrete at once
abbrev pub has_bad_method_flags : ℕ → Bool
has_bad_method_flags flags =
    has_other flags method_allowed || has_two_kinds_of_access flags || (has flags abstract_flag && is_concrete flags)
