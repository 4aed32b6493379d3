use Rattle.std.proofs.Common.{List, Some, [], refl}
use Rattle.class_model.specs.declared.class.MethodDef.{MethodDef}
use Rattle.small_base.specs.Members.{native_name, object_name}
use Rattle.small_base.specs.Base.{class_with, native_methods}
use Rattle.small_base.proofs.Tested.{with_methods, other_bare}
use Rattle.small_base.proofs.class_tests.is_native_class.Goals as goal

pub returns-then-is_bare_below : goal.returns-then-is_bare_below
returns-then-is_bare_below c =
    with_methods c.args.class.now (λ (ms : List MethodDef). class_with 33 native_name (Some object_name) [] ms) native_methods c.as_slice.result.now c.is_bare_below.result c.are_natives.result (λ ms. refl)
    c.is_bare_below.ensures c.as_slice.ensures c.are_natives.ensures c.if-is_bare_below.true

pub returns-else-is_bare_below : goal.returns-else-is_bare_below
returns-else-is_bare_below c =
    other_bare c.args.class.now (λ (ms : List MethodDef). class_with 33 native_name (Some object_name) [] ms) native_methods c.is_bare_below.result (λ ms. refl) c.is_bare_below.ensures c.if-is_bare_below.false
