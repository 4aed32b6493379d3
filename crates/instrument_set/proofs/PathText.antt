-- The letters of names, and of the paths that are made of them.
use Rattle.std.proofs.Common.{◌≡◌, ◌∙◌, ℕ, ◌+◌, ◌<◌, ◌≤◌, Bool, true, false, List, [], ◌∷◌, ◌++◌, length, take, get_or, refl, sym, ap, subst, ⊎_elim, arith}
use Rattle.std.specs.Prelude.{◌⊎◌, ◌==◌, ◌&&◌, ◌||◌, not, cond, codes, All, IsTrue}
use Rattle.std.specs.List.{AllByRecursion, list_all, slice_split, onto_first}
use Rattle.std.specs.Str.{chars}
use Rattle.std.proofs.Math.Utf8.{encode, encodes}
use Rattle.std.proofs.lemmas.List.Sums.{AllPass-from_list_all}
use Rattle.std.proofs.lemmas.List.{take_more, take_all, append-nil}
use Rattle.std.proofs.lemmas.Bool.{eqb-true}
use Rattle.std.proofs.lemmas.List.Elements.{All-weaker, All-from_recursion}
use Rattle.std.proofs.lemmas.Str.{encodes-append}
use Rattle.class_model.specs.declared.class.ClassDef.{ClassDef}
use Rattle.run_state.specs.declared.config.Config.{Config}
use Rattle.profile_check.specs.declared.profile.Names.TheVariants.{Source, Written}
use Rattle.first_form.specs.Naming.{is_name_unit, is_name_part, is_class_name}
use Rattle.first_form.specs.FormOne.{FormOne}
use Rattle.first_form.specs.FirstSet.{IsFirstSet}
use Rattle.small_base.specs.Base.{small_base}
use Rattle.first_form.specs.Base.{report_class}
use Rattle.instrument_set.specs.declared.marks.Marks.{Marks}
use Rattle.instrument_set.specs.Marking.{marks_of}
use Rattle.instrument_set.specs.Written.{written_class}
use Rattle.instrument_set.specs.WrittenSet.{is_surrogate, IsPlain, written_base, written_set}
use Rattle.instrument_set.proofs.Formed.{all_inserted, base_alone}
use Rattle.instrument_set.proofs.Headline.{written_one}

-- the letters of one unit more
pub letter_more : (units bytes : List ℕ) (i : ℕ) → i < length units → bytes ≡ encodes (take i units) → bytes ++ encode (get_or units i 0) ≡ encodes (take (i + 1) units)
letter_more units bytes i lt so_far =
    let unit = get_or units i 0 in
    ap (λ (bs : List ℕ). bs ++ encode unit) so_far
    ∙ sym (ap encodes (take_more units i 0 lt) ∙ encodes-append (take i units) (unit ∷ []) ∙ ap (λ (bs : List ℕ). encodes (take i units) ++ bs) (append-nil (encode unit)))

pub all_letters : (units bytes : List ℕ) (i : ℕ) → length units ≤ i → bytes ≡ encodes (take i units) → bytes ≡ encodes units
all_letters units bytes i le so_far = so_far ∙ ap encodes (take_all i units le)

abbrev pub HasPlainName : ClassDef → Type 0
HasPlainName class = IsPlain class.name

-- ---- names

abbrev is_plain : ℕ → Bool
is_plain unit = not (is_surrogate unit)

not_true : (b : Bool) → not b ≡ true → b ≡ false
not_true true h = absurd cc
not_true false h = refl

plain_of : (unit : ℕ) → is_plain unit ≡ true → is_surrogate unit ≡ false
plain_of unit h = not_true (is_surrogate unit) h

list_plain : (name : List ℕ) → list_all is_plain name ≡ true → IsPlain name
list_plain name h = All-weaker (λ (u : ℕ). is_plain u ≡ true) (λ (u : ℕ). is_surrogate u ≡ false) plain_of name (AllPass-from_list_all is_plain name h)

-- the units of the parts of a class name are none, nor are those between the parts
abbrev is_part : List ℕ → Bool
is_part part = list_all is_name_unit part

and_both : (a b : Bool) → (a && b) ≡ true → (a ≡ true) × (b ≡ true)
and_both true b h = (refl, h)
and_both false b h = absurd cc

last_of : (a b c d e : Bool) → not (a || b || c || d || e) ≡ true → e ≡ false
last_of true b c d e h = absurd cc
last_of false true c d e h = absurd cc
last_of false false true d e h = absurd cc
last_of false false false true e h = absurd cc
last_of false false false false e h = not_true e h

name_unit_plain : (unit : ℕ) → is_name_unit unit ≡ true → is_surrogate unit ≡ false
name_unit_plain unit h = last_of (unit == 0) (unit == 46) (unit == 59) (unit == 91) (is_surrogate unit) h

separator_plain : (unit : ℕ) → unit == 47 ≡ true → is_surrogate unit ≡ false
separator_plain unit h = subst (λ (u : ℕ). is_surrogate u ≡ false) (sym (eqb-true unit 47 h)) refl

each_part : (parts : List (List ℕ)) → list_all is_name_part parts ≡ true → list_all is_part parts ≡ true
each_part [] h = refl
each_part (part ∷ parts) h =
    let both = and_both (is_name_part part) (list_all is_name_part parts) h in
    let here = and_both (not (length part == 0)) (is_part part) both.0 in
    rw here.1 (each_part parts both.1)

parts_plain : (p : Bool) (unit : ℕ) (parts : List (List ℕ)) → (p ≡ true → is_surrogate unit ≡ false) → list_all is_part (cond p ([] ∷ parts) (onto_first unit parts)) ≡ true
    → (is_surrogate unit ≡ false) × (list_all is_part parts ≡ true)
parts_plain true unit parts separator h = (separator refl, h)
parts_plain false unit [] separator h =
    let here = and_both (is_part (unit ∷ [])) true h in
    let first = and_both (is_name_unit unit) true here.0 in
    (name_unit_plain unit first.0, refl)
parts_plain false unit (part ∷ parts) separator h =
    let both = and_both (is_part (unit ∷ part)) (list_all is_part parts) h in
    let first = and_both (is_name_unit unit) (is_part part) both.0 in
    (name_unit_plain unit first.0, rw first.1 both.1)

abbrev is_separator : ℕ → Bool
is_separator unit = unit == 47

units_plain : (units : List ℕ) → list_all is_part (slice_split is_separator units) ≡ true → AllByRecursion (λ u. is_surrogate u ≡ false) units
units_plain [] h = tt
units_plain (unit ∷ units) h =
    let both = parts_plain (is_separator unit) unit (slice_split is_separator units) (separator_plain unit) h in
    (both.0, units_plain units both.1)

pub form_plain : (class : ClassDef) → FormOne Source class → HasPlainName class
form_plain class form =
    let parts = each_part (slice_split is_separator class.name) form.kept.named.class_name in
    All-from_recursion (λ (u : ℕ). is_surrogate u ≡ false) class.name (units_plain class.name parts)

is_plain_name : ClassDef → Bool
is_plain_name class = list_all is_plain class.name

pub small_base_plain : All HasPlainName small_base
unfolding small_base chars is_plain_name
small_base_plain =
    All-weaker (λ (class : ClassDef). is_plain_name class ≡ true) HasPlainName (λ class h. list_plain class.name h) small_base (AllPass-from_list_all is_plain_name small_base refl)

pub report_plain : HasPlainName report_class
unfolding chars report_class
report_plain = list_plain report_class.name refl

pub base_plain : All HasPlainName written_base
base_plain = all_inserted HasPlainName report_class small_base report_plain small_base_plain

-- every class of the written set
pub written_plain : (set : List ClassDef) (config : Config) → IsFirstSet set → All HasPlainName (written_set (marks_of config) set)
written_plain set config first =
    let marks = marks_of config in
    ⊎_elim
    (λ (e : set ≡ small_base). subst (λ (s : List ClassDef). All HasPlainName (written_set marks s)) (sym e) (subst (λ (w : List ClassDef). All HasPlainName w) (sym (base_alone marks)) base_plain))
    (λ (q : (class : ClassDef) × (set ≡ class ∷ small_base) × FormOne Source class).
    subst (λ (s : List ClassDef). All HasPlainName (written_set marks s)) (sym q.1)
    (subst (λ (w : List ClassDef). All HasPlainName w) (sym (written_one marks q.0))
    (all_inserted HasPlainName (written_class marks q.0) written_base (form_plain q.0 q.2) base_plain)))
    first
