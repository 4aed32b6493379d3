-- A name of a user is none of those that the classes beside a written class have.
use Rattle.std.proofs.Common.{◌≡◌, ℕ, ◌<◌, List, length, sym, inl, arith}
use Rattle.std.specs.Prelude.{codes}
use Rattle.std.specs.Str.{chars}
use Rattle.std.specs.List.{All, slice_index_or}
use Rattle.std.proofs.lemmas.List.Elements.{All-from_recursion}
use Rattle.lists.specs.Texts.{units_of}
use Rattle.class_model.specs.declared.class.ClassDef.{ClassDef}
use Rattle.small_base.specs.Base.{small_base, base_names}
use Rattle.profile_check.specs.declared.profile.Names.TheVariants.{Written}
use Rattle.first_form.specs.Naming.{IsUserName}
use Rattle.first_form.specs.Base.{report_class}
use Rattle.first_form.specs.FormOne.{FormOne}
use Rattle.first_form_laws.specs.WrittenForm.{written_base, IsWrittenClass}

no_base : (name : List ℕ) → IsUserName name → (place : ℕ) → place < length base_names → slice_index_or base_names place name ≡ name → ⊥
no_base name user place within is = user.no_base (place, within, is)

no_report : (name : List ℕ) → IsUserName name → report_class.name ≡ name → ⊥
unfolding chars report_class
no_report name user e = user.not_reserved (inl (units_of (codes "Report"), sym e))

apart : (name : List ℕ) → IsUserName name → All (λ other. other.name ≡ name → ⊥) written_base
unfolding written_base small_base
apart name user =
    All-from_recursion (λ (other : ClassDef). other.name ≡ name → ⊥) written_base (
      no_base name user 0 (omega arith),
      (
        no_base name user 1 (omega arith),
        (
          no_base name user 2 (omega arith),
          (
            no_base name user 3 (omega arith),
            (
              no_base name user 4 (omega arith),
              (
                no_base name user 5 (omega arith),
                (
                  no_base name user 6 (omega arith),
                  (
                    no_base name user 7 (omega arith),
                    (
                      no_base name user 8 (omega arith),
                      (
                        no_base name user 9 (omega arith),
                        (
                          no_base name user 10 (omega arith),
                          (
                            no_base name user 11 (omega arith),
                            (
                              no_base name user 12 (omega arith),
                              (
                                no_base name user 13 (omega arith),
                                (
                                  no_base name user 14 (omega arith),
                                  (
                                    no_base name user 15 (omega arith),
                                    (
                                      no_base name user 16 (omega arith),
                                      (
                                        no_base name user 17 (omega arith),
                                        (
                                          no_base name user 18 (omega arith),
                                          (
                                            no_base name user 19 (omega arith),
                                            (no_report name user, (no_base name user 20 (omega arith), tt)),
                                          ),
                                        ),
                                      ),
                                    ),
                                  ),
                                ),
                              ),
                            ),
                          ),
                        ),
                      ),
                    ),
                  ),
                ),
              ),
            ),
          ),
        ),
      ),
    )

pub user_class : (class : ClassDef) → FormOne Written class → IsUserName class.name → IsWrittenClass class
user_class class form user = record { form = form; named = user.class_name; apart = apart class.name user }
