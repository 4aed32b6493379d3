-- A written class of the first form is in the profile.
use Rattle.std.proofs.Common.{◌≡◌, ◌∙◌, ℕ, ◌+◌, ◌≤◌, true, false, not, ◌&&◌, ◌||◌, List, [], ◌∷◌, ◌++◌, drop, refl, ap, Option, None, arith, inl, inr, append-nil}
use Rattle.std.specs.Prelude.{if◌then◌else◌}
use Rattle.std.specs.Str.{chars}
use Rattle.std.proofs.lemmas.Bool.Decides.{nat_tests}
use Rattle.std.proofs.lemmas.List.Elements.{All-from_recursion}
use Rattle.class_model.specs.declared.insn.Insn.{Insn}
use Rattle.class_model.specs.declared.insn.Insn.TheVariants.{Invoke}
use Rattle.class_model.specs.declared.insn.InvokeKind.TheVariants as invokes
use Rattle.class_model.specs.declared.class.CodeDef.{CodeDef}
use Rattle.class_model.specs.declared.class.ClassDef.{ClassDef}
use Rattle.profile_check.specs.declared.profile.Names.TheVariants.{Written}
use Rattle.profile_check.specs.declared.profile.OutOfProfile.{OutOfProfile}
use Rattle.profile_check.specs.declared.rule.Rule.{Rule}
use Rattle.profile_check.specs.declared.rule.Rule.TheVariants.{FloatType, BadName, OutName, ArrayMember}
use Rattle.profile_check.specs.Flags.{has, public_flag, abstract_flag, interface_flag, has_bad_class_flags}
use Rattle.profile_check.specs.Names.{same_name, is_clinit, is_bad_class}
use Rattle.profile_check.specs.Members.{is_interface}
use Rattle.profile_check.specs.First.{first, flat_from}
use Rattle.profile_check.specs.Mentions.{ClassName, Placed, outside, insn_placed, class_mentions}
use Rattle.profile_check.specs.declared.profile.ProfileKind.TheVariants as kinds
use Rattle.profile_check.specs.Walks.{judge, judge_placed, fault_if, walk_row}
use Rattle.profile_check.specs.Rows.{is_known_version, first_again, method_row, interface_method_row, super_row}
use Rattle.profile_check.specs.Profile.{rows, Profile}
use Rattle.profile_check.proofs.First.{first_append}
use Rattle.first_form.specs.declared.natives.Native.{Native}
use Rattle.first_form.specs.declared.natives.Native.TheVariants.{Read, Write, Report}
use Rattle.first_form.specs.Natives.{ref_of}
use Rattle.small_base.specs.Members.{object_name}
use Rattle.first_form.specs.FormOne.{IsPlainClass}
use Rattle.first_form_laws.proofs.Tests.{and_false}
use Rattle.first_form_laws.proofs.Firsts.{two_none}
use Rattle.first_form_laws.proofs.Written.{Header, class_of, code_of, Straight, pushes, loads, stores, drops, joins, calls, returns, AllStraight}

known_version : (major : ℕ) → 50 ≤ major → major ≤ 52 → is_known_version major ≡ true
known_version major low high = grind (arith, nat_tests)

flags_fine : (flags : ℕ) → IsPlainClass flags → has_bad_class_flags flags ≡ false
flags_fine flags plain = elim plain [ inl one ↦ ap has_bad_class_flags one | inr two ↦ elim two [ inl e ↦ ap has_bad_class_flags e | inr e ↦ ap has_bad_class_flags e ] ]

no_interface : (flags : ℕ) → IsPlainClass flags → has flags interface_flag ≡ false
no_interface flags plain = elim plain [ inl one ↦ ap (λ f. has f interface_flag) one | inr two ↦ elim two [ inl e ↦ ap (λ f. has f interface_flag) e | inr e ↦ ap (λ f. has f interface_flag) e ] ]

-- ---- what the class names

-- a rule takes a call of each native
abbrev TakesCalls : Rule → Type 0
TakesCalls rule = (native : Native) (at : ℕ) → first (judge_placed rule) (insn_placed 0 at (Invoke invokes.Static (ref_of native))) ≡ None

insn_taken : (rule : Rule) → TakesCalls rule → (at : ℕ) (insn : Insn) → Straight insn → first (judge_placed rule) (insn_placed 0 at insn) ≡ None
unfolding first
insn_taken rule h at insn pushes = refl
insn_taken rule h at insn loads = refl
insn_taken rule h at insn stores = refl
insn_taken rule h at insn drops = refl
insn_taken rule h at insn joins = refl
insn_taken rule h at insn (calls native) = h native at
insn_taken rule h at insn returns = refl

code_taken : (rule : Rule) → TakesCalls rule → (at : ℕ) (insns : List Insn) → AllStraight insns → first (judge_placed rule) (flat_from (insn_placed 0) at insns) ≡ None
unfolding first flat_from
code_taken rule h at [] all = refl
code_taken rule h at (insn ∷ insns) all =
    first_append (judge_placed rule) (insn_placed 0 at insn) (flat_from (insn_placed 0) (at + 1) insns)
    ∙ two_none (first (judge_placed rule) (insn_placed 0 at insn)) (first (judge_placed rule) (flat_from (insn_placed 0) (at + 1) insns)) (insn_taken rule h at insn all.0) (code_taken rule h (at + 1) insns all.1)

ended : (f : Placed → Option OutOfProfile) (xs : List Placed) → first f ((((xs ++ []) ++ []) ++ []) ++ []) ≡ first f xs
ended f xs = ap (first f) (append-nil (((xs ++ []) ++ []) ++ []) ∙ append-nil ((xs ++ []) ++ []) ∙ append-nil (xs ++ []) ∙ append-nil xs)

floats_taken : TakesCalls FloatType
unfolding chars first judge
floats_taken Read at = refl
floats_taken Write at = refl
floats_taken Report at = refl

names_taken : TakesCalls BadName
unfolding chars first judge
names_taken Read at = refl
names_taken Write at = refl
names_taken Report at = refl

out_taken : TakesCalls OutName
unfolding chars first judge
out_taken Read at = refl
out_taken Write at = refl
out_taken Report at = refl

arrays_taken : TakesCalls ArrayMember
unfolding chars first judge
arrays_taken Read at = refl
arrays_taken Write at = refl
arrays_taken Report at = refl

module _ (header : Header) (code : CodeDef) (straight : AllStraight code.insns) where
  abbrev class : ClassDef
  class = class_of header (code_of code)

  float_row : walk_row FloatType class ≡ None
  unfolding chars first flat_from judge
  float_row = ended (judge_placed FloatType) (flat_from (insn_placed 0) 0 code.insns) ∙ code_taken FloatType floats_taken 0 code.insns straight

  out_row : walk_row OutName class ≡ None
  unfolding chars first flat_from judge
  out_row = ended (judge_placed OutName) (flat_from (insn_placed 0) 0 code.insns) ∙ code_taken OutName out_taken 0 code.insns straight

  array_row : walk_row ArrayMember class ≡ None
  unfolding chars first flat_from judge
  array_row = ended (judge_placed ArrayMember) (flat_from (insn_placed 0) 0 code.insns) ∙ code_taken ArrayMember arrays_taken 0 code.insns straight

  name_row : is_bad_class header.name ≡ false → walk_row BadName class ≡ None
  unfolding chars first flat_from judge
  name_row fine =
      two_none (judge BadName outside (ClassName header.name)) (first (judge_placed BadName) (drop 1 (class_mentions class)))
      (ap (λ b. fault_if b kinds.BadName outside) fine)
      (ended (judge_placed BadName) (flat_from (insn_placed 0) 0 code.insns) ∙ code_taken BadName names_taken 0 code.insns straight)

  interface_row : has header.flags interface_flag ≡ false → interface_method_row class ≡ None
  unfolding chars
  interface_row none = λ i. method_row kinds.InterfaceMethod (λ method. none i && not (is_clinit method.name || (has method.flags public_flag && has method.flags abstract_flag))) class

  object_row : same_name header.name object_name ≡ false → super_row class ≡ None
  unfolding chars
  object_row apart =
      ap (λ b. fault_if (if b then true || is_interface class else is_interface class && false) kinds.Super outside) apart
      ∙ ap (λ b. fault_if b kinds.Super outside) (and_false (is_interface class))

  pub form_in_profile : 50 ≤ header.major → header.major ≤ 52 → IsPlainClass header.flags → is_bad_class header.name ≡ false → same_name header.name object_name ≡ false → Profile Written class
  unfolding chars first first_again
  form_in_profile low high plain fine apart =
      All-from_recursion (λ row. row class ≡ None) (rows Written) (
        ap (λ b. fault_if (not b) (kinds.Version header.major) outside) (known_version header.major low high),
        (
          ap (λ b. fault_if b kinds.ClassFlags outside) (flags_fine header.flags plain),
          (
            refl,
            (
              refl,
              (
                float_row,
                (
                  name_row fine,
                  (
                    refl,
                    (
                      refl,
                      (
                        refl,
                        (
                          interface_row (no_interface header.flags plain),
                          (
                            refl,
                            (refl, (refl, (refl, (object_row apart, (out_row, (array_row, tt)))))),
                          ),
                        ),
                      ),
                    ),
                  ),
                ),
              ),
            ),
          ),
        ),
      )
