-- What is shown of each class that stands beside a written class.
use Rattle.std.proofs.Common.{◌≡◌, ℕ, zero, suc, ◌≤◌, ◌<◌, ◌&&◌, Bool, true, false, List, [], ◌∷◌, length, Some, refl, sym, ap, subst, arith, inl, inr}
use Rattle.std.specs.Prelude.{◌⊎◌, ◌==◌, not, cond, All, codes, slice_get}
use Rattle.std.specs.List.{Contains, list_all}
use Rattle.std.specs.Str.{chars}
use Rattle.std.proofs.lemmas.Option.{same_Some}
use Rattle.std.proofs.lemmas.List.Elements.{All-cons, All-from_recursion, All-weaker}
use Rattle.lists.specs.Texts.{units_of}
use Rattle.class_model.specs.declared.class.ClassDef.{ClassDef}
use Rattle.small_base.specs.Members.{object_name, native_name}
use Rattle.small_base.specs.Base.{small_base, object_class, string_class, system_class, native_class, thrown_class, throwable_name, exception_name, runtime_exception_name, error_name, linkage_error_name, illegal_argument_name, out_of_bounds_name}
use Rattle.first_form.specs.Base.{report_class}
use Rattle.instrument_set.specs.WrittenSet.{written_base}
use Rattle.instrument_set.proofs.Formed.{all_inserted, all_none}

-- ---- rules for all of them

-- a name without ';' and '[', with some unit
abbrev pub is_written_name : List ℕ → Bool
is_written_name name = not (length name == 0) && (list_all (λ unit. not (unit == 59)) name && list_all (λ unit. not (unit == 91)) name)

-- a rule for the classes of the small base: for those below `java/lang/Throwable` by their names, and for each other
pub each_of_base : (P : ClassDef → Type 0) → ((name above : List ℕ) → is_written_name above ≡ true → P (thrown_class name above))
    → P object_class → P string_class → P system_class → P native_class → All P small_base
unfolding small_base chars
each_of_base P thrown object string system native =
    All-from_recursion P small_base (
      thrown (units_of (codes "java/io/IOException")) exception_name refl,
      (
        thrown (units_of (codes "java/lang/ArithmeticException")) runtime_exception_name refl,
        (
          thrown (units_of (codes "java/lang/ArrayIndexOutOfBoundsException")) out_of_bounds_name refl,
          (
            thrown (units_of (codes "java/lang/ArrayStoreException")) runtime_exception_name refl,
            (
              thrown (units_of (codes "java/lang/ClassCastException")) runtime_exception_name refl,
              (
                thrown error_name throwable_name refl,
                (
                  thrown exception_name throwable_name refl,
                  (
                    thrown illegal_argument_name runtime_exception_name refl,
                    (
                      thrown (units_of (codes "java/lang/IllegalStateException")) runtime_exception_name refl,
                      (
                        thrown (units_of (codes "java/lang/IncompatibleClassChangeError")) linkage_error_name refl,
                        (
                          thrown out_of_bounds_name runtime_exception_name refl,
                          (
                            thrown linkage_error_name error_name refl,
                            (
                              thrown (units_of (codes "java/lang/NegativeArraySizeException")) runtime_exception_name refl,
                              (
                                thrown (units_of (codes "java/lang/NullPointerException")) runtime_exception_name refl,
                                (
                                  thrown (units_of (codes "java/lang/NumberFormatException")) illegal_argument_name refl,
                                  (
                                    object,
                                    (
                                      thrown runtime_exception_name exception_name refl,
                                      (
                                        string,
                                        (
                                          system,
                                          (
                                            thrown throwable_name object_name refl,
                                            (native, tt),
                                          ),
                                        ),
                                      ),
                                    ),
                                  ),
                                ),
                              ),
                            ),
                          ),
                        ),
                      ),
                    ),
                  ),
                ),
              ),
            ),
          ),
        ),
      ),
    )
