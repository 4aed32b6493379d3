-- Members that are methods, by number.
use Rattle.std.proofs.Common.{◌≡◌, ◌∙◌, ℕ, Bool, List, refl, sym, ap, Option, Some, None}
use Rattle.std.specs.Prelude.{slice_get, position, option_map, option_and_then, unwrap_or}
use Rattle.std.proofs.lemmas.Option.{same_Some, none-some}
use Rattle.class_model.specs.declared.types.MethodDesc.{MethodDesc}
use Rattle.class_model.specs.declared.class.MethodDef.{MethodDef}
use Rattle.class_model.specs.declared.class.ClassDef.{ClassDef}
use Rattle.set_lookups.specs.First.{first}
use Rattle.set_lookups.specs.Lookups.{Member, member_of, member_in, has_method, method_here, declared}
use Rattle.run_state.specs.SetLooks.{method_of, method_in, shown_method}
use Rattle.look_laws.specs.Shown.{method_with, first_with}
use Rattle.look_laws.proofs.Alike.{placed}
use Rattle.program_links.specs.Methods.{method_number}
use Rattle.program_links.specs.WorldOf.{method_shown, no_method}
use Rattle.program_links.proofs.Called.{number_by}
use Rattle.program_links.proofs.Declared.{found_at_class}

-- a member that is there
pub record IsMember (set : List ClassDef) (m : Member) : Type 0 where
  pub class : ClassDef
  pub method : MethodDef
  pub there : slice_get set m.class ≡ Some class
  pub at : slice_get class.methods m.index ≡ Some method

pub shown_by_number : (set : List ClassDef) (m : Member) → IsMember set m → shown_method set m ≡ Some (method_shown set (method_number set m))
shown_by_number set m is =
    ap (option_and_then (method_in m.index)) is.there ∙ ap (option_map (method_of is.class)) is.at
    ∙ ap Some (sym (ap (λ found. unwrap_or found (no_method set)) (number_by set m.class m.index is.class is.method is.there is.at)))

pub shown_where : (set : List ClassDef) (found : Option Member) → ((m : Member) → found ≡ Some m → IsMember set m) → option_and_then (shown_method set) found ≡ option_map (method_shown set) (option_map (method_number set) found)
shown_where set None is = refl
shown_where set (Some m) is = shown_by_number set m (is m refl)

in_by : (set : List ClassDef) (test : MethodDef → Bool) (number : ℕ) (class : ClassDef) (place : Option ℕ) (m : Member) → slice_get set number ≡ Some class → position test class.methods ≡ place → member_in number place ≡ Some m → IsMember set m
in_by set test number class None m e at h = absurd (none-some m h)
in_by set test number class (Some index) m e at h =
    let p = placed test class.methods index at in
    let same : member_of number index ≡ m = same_Some (member_of number index) m h in
    record {
      class = class;
      method = p.item;
      there = ap (λ (k : Member). slice_get set k.class) (sym same) ∙ e;
      at = ap (λ (k : Member). slice_get class.methods k.index) (sym same) ∙ p.at;
    }

with_by : (set : List ClassDef) (test : MethodDef → Bool) (number : ℕ) (class : Option ClassDef) (m : Member) → slice_get set number ≡ class → method_with test number class ≡ Some m → IsMember set m
with_by set test number None m e h = absurd (none-some m h)
with_by set test number (Some class) m e h = in_by set test number class (position test class.methods) m e refl h

-- the first method of a class that passes a test
pub first_is : (set : List ClassDef) (test : MethodDef → Bool) (number : ℕ) (m : Member) → first_with set test number ≡ Some m → IsMember set m
first_is set test number m h = with_by set test number (slice_get set number) m refl h

here_by : (set : List ClassDef) (name : List ℕ) (desc : MethodDesc) (wanted : MethodDef → Bool) (number : ℕ) (class : Option ClassDef) (m : Member) → slice_get set number ≡ class → method_here name desc wanted number class ≡ Some m → IsMember set m
here_by set name desc wanted number None m e h = absurd (none-some m h)
here_by set name desc wanted number (Some class) m e h = in_by set (has_method name desc wanted) number class (position (has_method name desc wanted) class.methods) m e refl h

-- the first one of a name and descriptor along classes
pub along_is : (set : List ClassDef) (name : List ℕ) (desc : MethodDesc) (wanted : MethodDef → Bool) (numbers : List ℕ) (m : Member) → first (declared set name desc wanted) numbers ≡ Some m → IsMember set m
along_is set name desc wanted numbers m h = here_by set name desc wanted m.class (slice_get set m.class) m refl (found_at_class set name desc wanted numbers m h)
