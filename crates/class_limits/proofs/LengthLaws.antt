-- Lengths of attributes, as numbers of 64 bits.
use Rattle.std.proofs.Common.{◌≡◌, ◌≢◌, ◌∙◌, ℕ, zero, suc, ◌+◌, ◌*◌, ◌<◌, ◌≤◌, Bool, true, false, List, [], ◌∷◌, ◌++◌, length, get_or, take, refl, sym, ap, subst, Option, Some, None, arith}
use Rattle.std.specs.Prelude.{min, nat_lt, sum_by, option_map, option_to_list, flat_map, if◌then◌else◌}
use Rattle.std.specs.Option.{option_or}
use Rattle.std.proofs.lemmas.List.{take_more, take_all}
use Rattle.std.proofs.lemmas.List.Sums.{sum_by_push}
use Rattle.class_model.specs.declared.class.Frame.{Frame}
use Rattle.class_model.specs.declared.class.FieldDef.{FieldDef}
use Rattle.class_limits.specs.Limits.{told, first, first_over}
use Rattle.class_limits.specs.Lengths.{table_length, frame_length, frames_length, whole_length, length_of, lengths_if, index_length, field_lengths}
use Rattle.class_limits.proofs.First.{over_flat}

pub long_is : (n : ℕ) → n < 18446744073709551616 → first_over 4294967295 (n ∷ []) ≡ (if nat_lt 4294967295 n then Some n else None)
unfolding first_over
long_is n lt = grind arith

pub long_none : first_over 4294967295 (lengths_if None) ≡ None
unfolding lengths_if first_over
long_none = refl

pub long_some : (n : ℕ) → first_over 4294967295 (lengths_if (Some n)) ≡ first_over 4294967295 (length_of n)
unfolding lengths_if length_of
long_some n = refl

-- what is told of a length decides
over_told : (n : ℕ) → first_over 4294967295 (told n ∷ []) ≡ first_over 4294967295 (n ∷ [])
unfolding first_over
over_told n = grind arith

pub told_one : (n : ℕ) → first_over 4294967295 (length_of (told n)) ≡ first_over 4294967295 (length_of n)
unfolding length_of
told_one n = over_told n

pub told_if : (n : Option ℕ) → first_over 4294967295 (lengths_if (option_map told n)) ≡ first_over 4294967295 (lengths_if n)
unfolding lengths_if
told_if None = refl
told_if (Some n) = over_told n

-- ---- tables

pub table_empty : {A : Type 0} (row : ℕ) (xs : List A) → xs ≡ [] → option_map told (table_length row xs) ≡ None
table_empty row xs is = ap (λ ys. option_map told (table_length row ys)) is

pub table_some : {A : Type 0} (row : ℕ) (xs : List A) → xs ≢ [] → option_map told (table_length row xs) ≡ Some (told (2 + row * length xs))
table_some row [] some = absurd (some refl)
table_some row (x ∷ xs) some = refl

pub frames_empty : (rows : List (ℕ × Frame)) → rows ≡ [] → option_map told (frames_length rows) ≡ None
frames_empty rows is = ap (λ ys. option_map told (frames_length ys)) is

pub frames_some : (rows : List (ℕ × Frame)) → rows ≢ [] → option_map told (frames_length rows) ≡ Some (told (2 + sum_by frame_length rows))
frames_some [] some = absurd (some refl)
frames_some (row ∷ rows) some = refl

-- ---- sums

-- the sum over the first i items
pub record SumTo {A : Type 0} (f : A → ℕ) (xs : List A) (i n : ℕ) : Type 0 where
  pub is : n ≡ told (sum_by f (take i xs))

pub sum_none : {A : Type 0} (f : A → ℕ) (xs : List A) → SumTo f xs 0 0
sum_none f xs = record { is = refl }

pub sum_more : {A : Type 0} (f : A → ℕ) (xs : List A) (i n : ℕ) (x : A) (more next : ℕ) → SumTo f xs i n → i < length xs → x ≡ get_or xs i x → more ≡ told (f x) → next ≡ min (n + more) 18446744073709551615 → SumTo f xs (i + 1) next
sum_more f xs i n x more next so_far lt is more_is next_is =
    let front : sum_by f (take (i + 1) xs) ≡ sum_by f (take i xs) + f x = ap (sum_by f) (take_more xs i x lt ∙ ap (λ y. take i xs ++ y ∷ []) (sym is)) ∙ sum_by_push f (take i xs) x in
    record { is = omega (arith, so_far.is, front, more_is, next_is) }

pub sum_all : {A : Type 0} (f : A → ℕ) (xs : List A) (i n : ℕ) → SumTo f xs i n → length xs ≤ i → n ≡ told (sum_by f xs)
sum_all f xs i n so_far le = so_far.is ∙ ap (λ ys. told (sum_by f ys)) (take_all i xs le)

-- ---- attributes

pub whole_told : (content : Option ℕ) → told (whole_length (option_map told content)) ≡ told (whole_length content)
whole_told None = refl
whole_told (Some n) = omega arith

pub short_index : {A : Type 0} (a : Option A) → first_over 4294967295 (lengths_if (index_length a)) ≡ None
unfolding lengths_if first_over
short_index None = refl
short_index (Some a) = refl

first_short : (fields : List FieldDef) → first (λ (field : FieldDef). first_over 4294967295 (field_lengths field)) fields ≡ None
unfolding first
first_short [] = refl
first_short (field ∷ fields) = ap (λ z. option_or z (first (λ (x : FieldDef). first_over 4294967295 (field_lengths x)) fields)) (short_index field.constant) ∙ first_short fields

pub short_fields : (fields : List FieldDef) → first_over 4294967295 (flat_map field_lengths fields) ≡ None
short_fields fields = over_flat 4294967295 field_lengths fields ∙ first_short fields
