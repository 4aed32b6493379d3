-- Access flags (JVMS 4.1, 4.5, 4.6).
use Rattle.std.specs.Prelude.{ℕ, ◌==◌, ◌&&◌, Bool, not, bit_and}
use Rattle.class_model.specs.declared.class.MethodDef.{MethodDef}
use Rattle.class_model.specs.declared.class.ClassDef.{ClassDef}

abbrev pub has : ℕ → ℕ → Bool
has flags flag = not (bit_and flags flag == 0)

abbrev pub is_private : ℕ → Bool
is_private flags = has flags 2

abbrev pub is_static : ℕ → Bool
is_static flags = has flags 8

abbrev pub is_final : ℕ → Bool
is_final flags = has flags 16

abbrev pub is_abstract : ℕ → Bool
is_abstract flags = has flags 1024

abbrev pub is_interface : ClassDef → Bool
is_interface class = has class.flags 512

-- neither private nor static: what a class has from those above it, and what selection finds
abbrev pub is_inherited : MethodDef → Bool
is_inherited method = not (is_private method.flags) && not (is_static method.flags)
