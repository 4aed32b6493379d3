-- How often names were met, name by name.
use Rattle.std.proofs.Common.{◌≡◌, ◌∙◌, ℕ, ◌+◌, ◌<◌, ◌≤◌, Bool, true, false, List, length, get_or, take, refl, sym, ap, arith}
use Rattle.std.specs.Prelude.{Option, Some, cond, count_by, unwrap_or}
use Rattle.std.specs.Map.{lookup}
use Rattle.std.proofs.lemmas.List.{take_all}
use Rattle.std.proofs.lemmas.List.Sums.{count_by_more_no, count_by_more_yes}
use Rattle.class_limits.specs.Limits.{told}
use Rattle.profile_check.specs.Names.{same_name}
use Rattle.size_limits.specs.Mentions.{times_of}

put_if : (b : Bool) (times : ℕ) (old : Option ℕ) → unwrap_or (cond b (Some times) old) 0 ≡ cond b times (unwrap_or old 0)
put_if true times old = refl
put_if false times old = refl

pub put_at : (old new : List (List ℕ × ℕ)) (name other : List ℕ) (times : ℕ) → lookup (same_name other) new ≡ cond (same_name name other) (Some times) (lookup (same_name other) old)
    → times_of new other ≡ cond (same_name name other) times (times_of old other)
put_at old new name other times is = ap (λ (o : Option ℕ). unwrap_or o 0) is ∙ put_if (same_name name other) times (lookup (same_name other) old)

-- beside what was met before, the first i of some items are counted, each under its name
pub record CountsTo {A : Type 0} (p : List ℕ → A → Bool) (before : List ℕ → ℕ) (xs : List A) (i : ℕ) (entries : List (List ℕ × ℕ)) : Type 0 where
  pub is : (name : List ℕ) → times_of entries name ≡ told (before name + count_by (p name) (take i xs))

one_more : {A : Type 0} (p : A → Bool) (xs : List A) (i : ℕ) (x : A) (b : Bool) (before old new : ℕ) → i < length xs → x ≡ get_or xs i x → p x ≡ b
    → old ≡ told (before + count_by p (take i xs)) → new ≡ cond b (told (old + 1)) old → new ≡ told (before + count_by p (take (i + 1) xs))
one_more p xs i x true before old new lt is holds so_far next =
    let more : count_by p (take (i + 1) xs) ≡ count_by p (take i xs) + 1 = count_by_more_yes p xs i x lt (ap p (sym is) ∙ holds) in
    omega (arith, more, so_far, next)
one_more p xs i x false before old new lt is holds so_far next =
    let same : count_by p (take (i + 1) xs) ≡ count_by p (take i xs) = count_by_more_no p xs i x lt (ap p (sym is) ∙ holds) in
    omega (arith, same, so_far, next)

pub counts_none : {A : Type 0} (p : List ℕ → A → Bool) (before : List ℕ → ℕ) (xs : List A) (entries : List (List ℕ × ℕ)) → ((name : List ℕ) → times_of entries name ≡ told (before name)) → CountsTo p before xs 0 entries
counts_none p before xs entries is = record { is = λ name. is name ∙ ap told (omega arith) }

pub counts_more : {A : Type 0} (p : List ℕ → A → Bool) (before : List ℕ → ℕ) (xs : List A) (i : ℕ) (x : A) (old new : List (List ℕ × ℕ)) → CountsTo p before xs i old → i < length xs → x ≡ get_or xs i x
    → ((name : List ℕ) → times_of new name ≡ cond (p name x) (told (times_of old name + 1)) (times_of old name)) → CountsTo p before xs (i + 1) new
counts_more p before xs i x old new so_far lt is next =
    record { is = λ name. one_more (p name) xs i x (p name x) (before name) (times_of old name) (times_of new name) lt is refl (so_far.is name) (next name) }

pub counts_all : {A : Type 0} (p : List ℕ → A → Bool) (before : List ℕ → ℕ) (xs : List A) (i : ℕ) (entries : List (List ℕ × ℕ)) → CountsTo p before xs i entries → length xs ≤ i
    → (name : List ℕ) → times_of entries name ≡ told (before name + count_by (p name) xs)
counts_all p before xs i entries so_far le name = so_far.is name ∙ ap (λ ys. told (before name + count_by (p name) ys)) (take_all i xs le)
