-- The text past a list stands in it nowhere.
use Rattle.std.proofs.Common.{◌≡◌, ◌∙◌, ℕ, ◌+◌, ◌≤◌, zero, suc, Bool, true, false, cond, List, [], ◌∷◌, length, refl, ap, Some, arith}
use Rattle.std.specs.Prelude.{slice_get, flat_map}
use Rattle.std.specs.List.{list_any}
use Rattle.std.proofs.lemmas.Bool.{both_ways}
use Rattle.std.proofs.lemmas.Option.{same_Some, none-some}
use Rattle.std.proofs.lemmas.List.{length-append}
use Rattle.set_lookups.specs.Above.{same_name}
use Rattle.set_lookups.specs.SameTypes.{name_self}
use Rattle.set_lookups.proofs.Subtypes.{any_at}
use Rattle.program_links.specs.Past.{past}

joined : List (List ℕ) → List ℕ
joined texts = flat_map (λ text. text) texts

no_longer : (texts : List (List ℕ)) (n : ℕ) (text : List ℕ) → slice_get texts n ≡ Some text → length text ≤ length (joined texts)
unfolding joined
no_longer [] n text e = absurd (none-some text e)
no_longer (x ∷ texts) zero text e =
    let same : length x ≡ length text = ap length (same_Some x text e) in
    let all = length-append x (joined texts) in
    omega (arith, same, all)
no_longer (x ∷ texts) (suc n) text e =
    let rest = no_longer texts n text e in
    let all = length-append x (joined texts) in
    omega (arith, rest, all)

other_by : (b : Bool) (texts : List (List ℕ)) (n : ℕ) (text : List ℕ) → list_any (same_name []) texts ≡ b → slice_get texts n ≡ Some text → text ≡ cond b (0 ∷ joined texts) [] → ⊥
other_by true texts n text b e h =
    let long = no_longer texts n text e in
    let same : length text ≡ length (0 ∷ joined texts) = ap length h in
    let more : length (0 ∷ joined texts) ≡ length (joined texts) + 1 = omega arith in
    absurd (omega (arith, long, same, more))
other_by false texts n text b e h = both_ways (list_any (same_name []) texts) b (any_at (same_name []) texts n text e (ap (same_name []) h ∙ name_self []))

pub past_other : (texts : List (List ℕ)) (n : ℕ) (text : List ℕ) → slice_get texts n ≡ Some text → text ≡ past texts → ⊥
unfolding past joined
past_other texts n text e h = other_by (list_any (same_name []) texts) texts n text refl e h

-- it is empty, unless the empty text stands there
pub past_empty : (texts : List (List ℕ)) → list_any (same_name []) texts ≡ false → past texts ≡ []
unfolding past
past_empty texts e = ap (λ b. cond b (0 ∷ flat_map (λ text. text) texts) []) e
