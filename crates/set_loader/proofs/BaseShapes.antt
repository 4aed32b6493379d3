-- The classes of the small base have shapes that bytes give.
use Rattle.std.proofs.Common.{ℕ, List, [], ◌∷◌, None, refl, arith}
use Rattle.std.specs.Prelude.{All}
use Rattle.std.specs.Str.{chars}
use Rattle.std.proofs.lemmas.List.Elements.{All-from_recursion}
use Rattle.class_model.specs.declared.insn.Kind.TheVariants as kinds
use Rattle.class_model.specs.declared.insn.InvokeKind.TheVariants as invokes
use Rattle.class_model.specs.declared.insn.Insn.TheVariants.{Invoke, Load, Return}
use Rattle.class_model.specs.Descriptor.{IsClassName, IsFieldType, IsMethodType}
use Rattle.class_shape.specs.ShapedInsn.{ShapedInsn}
use Rattle.class_shape.specs.Shaped.{Shaped, ShapedMethod, ShapedField}
use Rattle.small_base.specs.Members.{object_name, int_type, class_type, takes_nothing, gives_int, takes_int, takes_arrays, init_ref, super_init}
use Rattle.small_base.specs.Base.{small_base, object_class, string_class, system_class, native_methods, native_class, thrown_class, exception_name, runtime_exception_name, out_of_bounds_name, throwable_name, linkage_error_name, error_name, illegal_argument_name}
use Rattle.set_loader.proofs.Profiles.{name_good}

-- ---- names of superclasses

object_good : IsClassName object_name
unfolding chars
object_good = name_good object_name refl

exception_good : IsClassName exception_name
unfolding chars
exception_good = name_good exception_name refl

runtime_good : IsClassName runtime_exception_name
unfolding chars
runtime_good = name_good runtime_exception_name refl

bounds_good : IsClassName out_of_bounds_name
unfolding chars
bounds_good = name_good out_of_bounds_name refl

throwable_good : IsClassName throwable_name
unfolding chars
throwable_good = name_good throwable_name refl

linkage_good : IsClassName linkage_error_name
unfolding chars
linkage_good = name_good linkage_error_name refl

error_good : IsClassName error_name
unfolding chars
error_good = name_good error_name refl

argument_good : IsClassName illegal_argument_name
unfolding chars
argument_good = name_good illegal_argument_name refl

-- ---- types

int_field : IsFieldType int_type
int_field = record { dimensions = omega arith; base = tt }

class_field : (name : List ℕ) → IsClassName name → IsFieldType (class_type name)
class_field name good = record { dimensions = omega arith; base = good }

nothing_taken : IsMethodType takes_nothing
nothing_taken = record { params = All-from_recursion IsFieldType [] tt; result = tt }

int_given : IsMethodType gives_int
int_given = record { params = All-from_recursion IsFieldType [] tt; result = int_field }

int_taken : IsMethodType takes_int
int_taken = record { params = All-from_recursion IsFieldType takes_int.params (int_field, tt); result = tt }

arrays_taken : IsMethodType takes_arrays
arrays_taken =
    let object = class_field object_name object_good in
    record { params = All-from_recursion IsFieldType takes_arrays.params (object, (int_field, (object, (int_field, (int_field, tt))))); result = tt }

-- ---- classes

object_shaped : Shaped object_class
object_shaped = record {
  fields = All-from_recursion ShapedField [] tt;
  methods = All-from_recursion ShapedMethod object_class.methods (
    record {
      desc = nothing_taken;
      code = record {
        insns = All-from_recursion (ShapedInsn 1) (Return None ∷ []) (tt, tt);
        handlers = All-from_recursion _ [] tt;
        frames = All-from_recursion _ [] tt;
        ascend = tt;
        lines = All-from_recursion _ [] tt;
      };
    },
    tt,
  );
  source = tt;
}

super_shaped : (above : List ℕ) → IsClassName above → ShapedMethod (super_init above)
super_shaped above good = record {
  desc = nothing_taken;
  code = record {
    insns = All-from_recursion (ShapedInsn 3) (Load kinds.Ref 0 ∷ Invoke invokes.Special (init_ref above) ∷ Return None ∷ [])
        (tt, (record { class = record { in_grammar = class_field above good; no_primitive = refl }; desc = nothing_taken; fits = tt }, (tt, tt)));
    handlers = All-from_recursion _ [] tt;
    frames = All-from_recursion _ [] tt;
    ascend = tt;
    lines = All-from_recursion _ [] tt;
  };
}

thrown_shaped : (name above : List ℕ) → IsClassName above → Shaped (thrown_class name above)
thrown_shaped name above good = record {
  fields = All-from_recursion ShapedField [] tt;
  methods = All-from_recursion ShapedMethod (super_init above ∷ []) (super_shaped above good, tt);
  source = tt;
}

string_shaped : Shaped string_class
string_shaped = record {
  fields = All-from_recursion ShapedField string_class.fields (record { dimensions = omega arith; base = tt }, tt);
  methods = All-from_recursion ShapedMethod [] tt;
  source = tt;
}

system_shaped : Shaped system_class
system_shaped = record {
  fields = All-from_recursion ShapedField [] tt;
  methods = All-from_recursion ShapedMethod system_class.methods (record { desc = arrays_taken; code = tt }, tt);
  source = tt;
}

native_shaped : Shaped native_class
native_shaped = record {
  fields = All-from_recursion ShapedField [] tt;
  methods = All-from_recursion ShapedMethod native_methods
      (record { desc = int_given; code = tt }, (record { desc = int_taken; code = tt }, (record { desc = int_taken; code = tt }, tt)));
  source = tt;
}

pub base_shaped : All Shaped small_base
unfolding small_base
base_shaped = All-from_recursion Shaped small_base (
  thrown_shaped _ _ exception_good,
  (
    thrown_shaped _ _ runtime_good,
    (
      thrown_shaped _ _ bounds_good,
      (
        thrown_shaped _ _ runtime_good,
        (
          thrown_shaped _ _ runtime_good,
          (
            thrown_shaped _ _ throwable_good,
            (
              thrown_shaped _ _ throwable_good,
              (
                thrown_shaped _ _ runtime_good,
                (
                  thrown_shaped _ _ runtime_good,
                  (
                    thrown_shaped _ _ linkage_good,
                    (
                      thrown_shaped _ _ runtime_good,
                      (
                        thrown_shaped _ _ error_good,
                        (
                          thrown_shaped _ _ runtime_good,
                          (
                            thrown_shaped _ _ runtime_good,
                            (
                              thrown_shaped _ _ argument_good,
                              (object_shaped, (thrown_shaped _ _ exception_good, (string_shaped, (system_shaped, (thrown_shaped _ _ object_good, (native_shaped, tt)))))),
                            ),
                          ),
                        ),
                      ),
                    ),
                  ),
                ),
              ),
            ),
          ),
        ),
      ),
    ),
  ),
)
