-- The name of a class that is in the profile is one that a type can have.
use Rattle.std.proofs.Common.{◌≡◌, ◌≢◌, ◌∙◌, ℕ, Bool, true, false, cond, ◌||◌, List, [], ◌∷◌, Option, Some, None, refl, sym, ap, arith}
use Rattle.std.specs.Prelude.{All}
use Rattle.std.specs.List.{list_any}
use Rattle.std.specs.Option.{option_or}
use Rattle.std.proofs.lemmas.List.Elements.{All-nil, All-cons}
use Rattle.class_model.specs.declared.class.ClassDef.{ClassDef}
use Rattle.class_model.specs.Descriptor.{IsClassName}
use Rattle.profile_check.specs.declared.profile.Names.{Names}
use Rattle.profile_check.specs.Names.{is_mark, is_slash, is_empty, is_bad_part, into_first, parts_of, is_bad_class, has_bad_unit}
use Rattle.profile_check.specs.First.{first}
use Rattle.profile_check.specs.Walks.{judge}
use Rattle.profile_check.specs.Rows.{bad_name_row}
use Rattle.profile_check.specs.Profile.{Profile}

-- ---- tests

left_false : (a b : Bool) → (a || b) ≡ false → a ≡ false
left_false true b h = h
left_false false b h = refl

right_false : (a b : Bool) → (a || b) ≡ false → b ≡ false
right_false true b h = cc
right_false false b h = h

or_assoc : (a b c : Bool) → ((a || b) || c) ≡ (a || (b || c))
or_assoc true b c = refl
or_assoc false b c = refl

or_none : (a : Bool) → (a || false) ≡ a
or_none true = refl
or_none false = refl

-- an answer that is not given has a test that fails
not_told : {A : Type 0} (test : Bool) (fault : A) (rest : Option A) → option_or (cond test (Some fault) None) rest ≡ None → test ≡ false
not_told true fault rest h = cc
not_told false fault rest h = refl

-- ---- marks in parts of a name

no_slash_mark : (unit : ℕ) → is_slash unit ≡ true → is_mark unit ≡ false
no_slash_mark unit h = grind arith

marks_joined : (unit : ℕ) (parts : List (List ℕ)) (rest : Bool) → list_any (list_any is_mark) parts ≡ rest → list_any (list_any is_mark) (into_first unit parts) ≡ (is_mark unit || rest)
marks_joined unit [] rest h = or_none _ ∙ ap (λ (r : Bool). is_mark unit || r) h
marks_joined unit (part ∷ parts) rest h = or_assoc (is_mark unit) (list_any is_mark part) _ ∙ ap (λ (r : Bool). is_mark unit || r) h

marks_at : (slash : Bool) (unit : ℕ) (units : List ℕ) → is_slash unit ≡ slash → list_any (list_any is_mark) (parts_of units) ≡ list_any is_mark units
    → list_any (list_any is_mark) (cond slash ([] ∷ parts_of units) (into_first unit (parts_of units))) ≡ (is_mark unit || list_any is_mark units)
marks_at true unit units is so_far = so_far ∙ ap (λ (m : Bool). m || list_any is_mark units) (sym (no_slash_mark unit is))
marks_at false unit units is so_far = marks_joined unit (parts_of units) (list_any is_mark units) so_far

-- a name has the marks that its parts have
marks_in_parts : (name : List ℕ) → list_any (list_any is_mark) (parts_of name) ≡ list_any is_mark name
marks_in_parts [] = refl
marks_in_parts (unit ∷ units) = marks_at (is_slash unit) unit units refl (marks_in_parts units)

good_parts : (parts : List (List ℕ)) → list_any is_bad_part parts ≡ false → list_any (list_any is_mark) parts ≡ false
good_parts [] h = refl
good_parts (part ∷ parts) h =
    let none : list_any is_mark part ≡ false = right_false (is_empty part) (list_any is_mark part) (left_false (is_bad_part part) _ h) in
    ap (λ (m : Bool). m || list_any (list_any is_mark) parts) none ∙ good_parts parts (right_false (is_bad_part part) _ h)

-- ---- units of a name

no_end : (unit : ℕ) → is_mark unit ≡ false → unit ≢ 59
no_end unit h = λ e. grind arith

no_array : (unit : ℕ) → is_mark unit ≡ false → unit ≢ 91
no_array unit h = λ e. grind arith

all_unmarked : (P : ℕ → Type 0) → ((unit : ℕ) → is_mark unit ≡ false → P unit) → (name : List ℕ) → list_any is_mark name ≡ false → All P name
all_unmarked P at [] h = All-nil P
all_unmarked P at (unit ∷ units) h =
    All-cons P unit units (at unit (left_false (is_mark unit) _ h)) (all_unmarked P at units (right_false (is_mark unit) _ h))

some_unit : (name : List ℕ) → is_bad_class name ≡ false → name ≢ []
some_unit [] h = λ e. cc
some_unit (unit ∷ units) h = λ e. cc

pub name_good : (name : List ℕ) → is_bad_class name ≡ false → IsClassName name
name_good name h =
    let parts : list_any is_bad_part (parts_of name) ≡ false = left_false _ (has_bad_unit name) h in
    let unmarked : list_any is_mark name ≡ false = sym (marks_in_parts name) ∙ good_parts (parts_of name) parts in
    record {
      some_unit = some_unit name h;
      no_end = all_unmarked (λ unit. unit ≢ 59) no_end name unmarked;
      no_array = all_unmarked (λ unit. unit ≢ 91) no_array name unmarked;
    }

not_bad : (class : ClassDef) → bad_name_row class ≡ None → is_bad_class class.name ≡ false
unfolding first judge
not_bad class h = not_told (is_bad_class class.name) _ _ h

pub class_named : (names : Names) (class : ClassDef) → Profile names class → IsClassName class.name
class_named names class h = name_good class.name (not_bad class (h 5 bad_name_row (omega arith)))
