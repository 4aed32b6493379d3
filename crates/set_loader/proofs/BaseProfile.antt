-- The classes of the small base are in the profile, by computing each row of each.
use Rattle.std.proofs.Common.{◌≡◌, Bool, true, false, List, [], ◌∷◌, refl, Option, Some, None, ◌&&◌}
use Rattle.std.specs.Prelude.{All, is_none}
use Rattle.std.specs.List.{list_all}
use Rattle.std.specs.Str.{chars}
use Rattle.std.proofs.lemmas.List.Elements.{All-nil, All-cons}
use Rattle.class_model.specs.declared.class.ClassDef.{ClassDef}
use Rattle.profile_check.specs.declared.profile.Names.{Names}
use Rattle.profile_check.specs.declared.profile.Names.TheVariants.{Source, Written}
use Rattle.profile_check.specs.First.{first, flat_from}
use Rattle.profile_check.specs.Walks.{judge}
use Rattle.profile_check.specs.Rows.{first_again}
use Rattle.profile_check.specs.Profile.{Profile, Row, rows}
use Rattle.small_base.specs.Base.{small_base}

left_true : (a b : Bool) → (a && b) ≡ true → a ≡ true
left_true true b h = refl
left_true false b h = h

right_true : (a b : Bool) → (a && b) ≡ true → b ≡ true
right_true true b h = h
right_true false b h = cc

none_of : {A : Type 0} (x : Option A) → is_none x ≡ true → x ≡ None
none_of None h = refl
none_of (Some x) h = cc

passes : ClassDef → Row → Bool
passes class row = is_none (row class)

in_rows : (class : ClassDef) (rs : List Row) → list_all (passes class) rs ≡ true → All (λ row. row class ≡ None) rs
unfolding passes
in_rows class [] h = All-nil _
in_rows class (row ∷ rs) h = All-cons (λ (r : Row). r class ≡ None) row rs (none_of (row class) (left_true _ _ h)) (in_rows class rs (right_true (is_none (row class)) _ h))

is_in : Names → ClassDef → Bool
is_in names class = list_all (passes class) (rows names)

all_in : (names : Names) (classes : List ClassDef) → list_all (is_in names) classes ≡ true → All (Profile names) classes
unfolding is_in
all_in names [] h = All-nil _
all_in names (class ∷ classes) h = All-cons (Profile names) class classes (in_rows class (rows names) (left_true _ _ h)) (all_in names classes (right_true (is_in names class) _ h))

source_test : list_all (is_in Source) small_base ≡ true
unfolding small_base first flat_from judge first_again chars passes is_in
source_test = refl

written_test : list_all (is_in Written) small_base ≡ true
unfolding small_base first flat_from judge first_again chars passes is_in
written_test = refl

pub base_in_profile : (names : Names) → All (Profile names) small_base
base_in_profile Source = all_in Source small_base source_test
base_in_profile Written = all_in Written small_base written_test
