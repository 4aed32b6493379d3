-- The small base, and classes with it behind them, have the counts that a set can have, and their code is such as the check of types takes.
use Rattle.std.proofs.Common.{◌≡◌, ℕ, ◌≤◌, Bool, true, false, cond, List, [], ◌∷◌, ◌++◌, length, get_or, None, refl, arith, length-append}
use Rattle.std.specs.Prelude.{All, IfSome}
use Rattle.std.proofs.lemmas.List.Elements.{All-nil, All-cons, All-append, All-weaker, All-from_recursion}
use Rattle.std.proofs.lemmas.List.Sorted.{IsNonDecreasingBy-short}
use Rattle.class_model.specs.declared.class.CodeDef.{CodeDef}
use Rattle.class_model.specs.declared.class.MethodDef.{MethodDef}
use Rattle.class_model.specs.declared.class.ClassDef.{ClassDef}
use Rattle.profile_check.specs.declared.profile.Names.{Names}
use Rattle.profile_check.specs.Profile as profile
use Rattle.set_lookups.specs.Counts.{IsCounted, IsCodeCounted, AreCounted}
use Rattle.small_base.specs.Members.{object_init, super_init}
use Rattle.small_base.specs.Base.{small_base, object_class, string_class, system_class, native_class, native_methods, thrown_class}
use Rattle.verifier.specs.Set.{place_of, IsCheckable, IsCheckableClass, IsCheckableSet}
use Rattle.set_loader.specs.Loads.{has_object, with_base}
use Rattle.class_shape.specs.Shaped.{Shaped}
use Rattle.set_loader.proofs.Files.{IsShapedNamed}
use Rattle.set_loader.proofs.Profiles.{class_named}
use Rattle.set_loader.proofs.BaseProfile.{base_in_profile}
use Rattle.set_loader.proofs.BaseShapes.{base_shaped}
use Rattle.set_loader.proofs.Counts.{class_counted, classes_checkable}

-- ---- each class of the base

small_all : (P : ClassDef → Type 0) → ((name above : List ℕ) → P (thrown_class name above)) → P object_class → P string_class → P system_class → P native_class → All P small_base
unfolding small_base
small_all P thrown object string system native =
    All-from_recursion P small_base (
      thrown _ _,
      (
        thrown _ _,
        (
          thrown _ _,
          (
            thrown _ _,
            (
              thrown _ _,
              (
                thrown _ _,
                (
                  thrown _ _,
                  (
                    thrown _ _,
                    (
                      thrown _ _,
                      (
                        thrown _ _,
                        (
                          thrown _ _,
                          (
                            thrown _ _,
                            (
                              thrown _ _,
                              (
                                thrown _ _,
                                (
                                  thrown _ _,
                                  (object, (thrown _ _, (string, (system, (thrown _ _, (native, tt)))))),
                                ),
                              ),
                            ),
                          ),
                        ),
                      ),
                    ),
                  ),
                ),
              ),
            ),
          ),
        ),
      ),
    )

small_length : length small_base ≡ 21
unfolding small_base
small_length = refl

-- a class has one method, with this code
one_method : (P : CodeDef → Type 0) (method : MethodDef) → IfSome method.code P → All (λ (m : MethodDef). IfSome m.code P) (method ∷ [])
one_method P method is = All-cons (λ m. IfSome m.code P) method [] is (All-nil _)

no_code : (P : CodeDef → Type 0) (methods : List MethodDef) → All (λ m. m.code ≡ None) methods → All (λ (m : MethodDef). IfSome m.code P) methods
no_code P methods none = All-weaker (λ m. m.code ≡ None) (λ m. IfSome m.code P) (λ m e. rw e tt) methods none

natives_none : All (λ (m : MethodDef). m.code ≡ None) native_methods
natives_none = All-from_recursion (λ m. m.code ≡ None) native_methods (refl, (refl, (refl, tt)))

thrown_counted : (name above : List ℕ) → IsCounted (thrown_class name above)
thrown_counted name above = record {
  interfaces = omega arith;
  fields = omega arith;
  methods = omega arith;
  codes = one_method IsCodeCounted (super_init above) (record { insns = omega arith; handlers = omega arith });
}

object_counted : IsCounted object_class
object_counted = record {
  interfaces = omega arith;
  fields = omega arith;
  methods = omega arith;
  codes = one_method IsCodeCounted object_init (record { insns = omega arith; handlers = omega arith });
}

string_counted : IsCounted string_class
string_counted = record { interfaces = omega arith; fields = omega arith; methods = omega arith; codes = All-nil _ }

system_counted : IsCounted system_class
system_counted = record { interfaces = omega arith; fields = omega arith; methods = omega arith; codes = one_method IsCodeCounted _ tt }

native_counted : IsCounted native_class
native_counted = record { interfaces = omega arith; fields = omega arith; methods = omega arith; codes = no_code IsCodeCounted native_methods natives_none }

thrown_checkable : (name above : List ℕ) → IsCheckableClass (thrown_class name above)
thrown_checkable name above = record {
  methods = omega arith;
  codes = one_method IsCheckable (super_init above) (record { counted = omega arith; ordered = IsNonDecreasingBy-short place_of [] (omega arith) });
}

object_checkable : IsCheckableClass object_class
object_checkable = record {
  methods = omega arith;
  codes = one_method IsCheckable object_init (record { counted = omega arith; ordered = IsNonDecreasingBy-short place_of [] (omega arith) });
}

string_checkable : IsCheckableClass string_class
string_checkable = record { methods = omega arith; codes = All-nil _ }

system_checkable : IsCheckableClass system_class
system_checkable = record { methods = omega arith; codes = one_method IsCheckable _ tt }

native_checkable : IsCheckableClass native_class
native_checkable = record { methods = omega arith; codes = no_code IsCheckable native_methods natives_none }

-- ---- classes with the base behind them

all_completed : (P : ClassDef → Type 0) (has : Bool) (classes : List ClassDef) → All P classes → All P small_base → All P (cond has classes (classes ++ small_base))
all_completed P true classes all base = all
all_completed P false classes all base = All-append P classes small_base all base

few_completed : (has : Bool) (classes : List ClassDef) → length classes ≤ 1000000 → length (cond has classes (classes ++ small_base)) ≤ 1001000
few_completed true classes few = omega (arith, few)
few_completed false classes few = omega (arith, few, small_length, length-append classes small_base)

all_with_base : (P : ClassDef → Type 0) (classes : List ClassDef) → All P classes → All P small_base → All P (with_base classes)
unfolding with_base
all_with_base P classes all base = all_completed P (has_object classes) classes all base

few_with_base : (classes : List ClassDef) → length classes ≤ 1000000 → length (with_base classes) ≤ 1001000
unfolding with_base
few_with_base classes few = few_completed (has_object classes) classes few

pub base_counted : (classes set : List ClassDef) → length classes ≤ 1000000 → All profile.IsCounted classes → set ≡ with_base classes → AreCounted set
base_counted classes set few counted is = rw is (record {
  number = few_with_base classes few;
  each = all_with_base IsCounted classes (All-weaker profile.IsCounted IsCounted class_counted classes counted)
      (small_all IsCounted thrown_counted object_counted string_counted system_counted native_counted);
})

pub base_checkable : (names : Names) (classes set : List ClassDef) → length classes ≤ 1000000 → All profile.IsCounted classes → All IsShapedNamed classes → All (profile.Profile names) classes
    → set ≡ with_base classes → IsCheckableSet set
base_checkable names classes set few counted shaped in_profile is = rw is (record {
  classes = few_with_base classes few;
  each = all_with_base IsCheckableClass classes (classes_checkable names classes counted shaped in_profile)
      (small_all IsCheckableClass thrown_checkable object_checkable string_checkable system_checkable native_checkable);
})

pub all_in_profile : (names : Names) (classes set : List ClassDef) → All (profile.Profile names) classes → set ≡ with_base classes → All (profile.Profile names) set
all_in_profile names classes set inside is = rw is (all_with_base (profile.Profile names) classes inside (base_in_profile names))

pub all_shaped : (names : Names) (classes set : List ClassDef) → All IsShapedNamed classes → All (profile.Profile names) classes → set ≡ with_base classes → All Shaped set
all_shaped names classes set shaped inside is =
    rw is (all_with_base Shaped classes (λ k d lt. shaped k d lt (class_named names (get_or classes k d) (inside k d lt))) base_shaped)
