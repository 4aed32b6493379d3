-- Things that are noted one after the other, and what they add.
use Rattle.std.proofs.Common.{◌≡◌, ◌∙◌, ℕ, ◌+◌, ◌*◌, ◌<◌, ◌≤◌, Bool, true, false, ◌||◌, List, [], ◌∷◌, ◌++◌, length, get_or, take, map, refl, sym, ap, arith}
use Rattle.std.specs.Prelude.{min, fold, sum_by, flat_map, if◌then◌else◌}
use Rattle.std.specs.List.{list_any}
use Rattle.std.proofs.lemmas.List.{take_more, take_all, map-append}
use Rattle.std.proofs.lemmas.List.Sums.{sum_by_push, sum_by-cons}
use Rattle.std.proofs.lemmas.Grind.{flat_map-append}
use Rattle.class_model.specs.declared.class.ClassDef.{ClassDef}
use Rattle.run_state.specs.declared.config.Config.{Config}
use Rattle.class_limits.specs.Limits.{told}
use Rattle.size_limits.specs.declared.key.Key.{Key}
use Rattle.size_limits.specs.Items.{Item, class_items}
use Rattle.size_limits.specs.Pool.{Counted, noted, all_noted, nothing_counted, added, different, same_key, key_of, worth_of, members_in, names_in, types_in, pool_number, declared_worth}

pub noted_nil : (c : Counted) → all_noted c [] ≡ c
unfolding all_noted
noted_nil c = refl

pub noted_append : (c : Counted) (xs ys : List Item) → all_noted c (xs ++ ys) ≡ all_noted (all_noted c xs) ys
unfolding all_noted
noted_append c [] ys = refl
noted_append c (x ∷ xs) ys = noted_append (noted c x) xs ys

pub note_one : (c : Counted) (x : Item) → all_noted c (x ∷ []) ≡ noted c x
unfolding all_noted
note_one c x = refl

pub append_nil_items : (xs : List Item) → xs ++ [] ≡ xs
append_nil_items [] = refl
append_nil_items (x ∷ xs) = ap (λ ys. x ∷ ys) (append_nil_items xs)

-- the first i of a list of things
pub record NotedTo {A : Type 0} (f : A → List Item) (before : Counted) (xs : List A) (i : ℕ) (c : Counted) : Type 0 where
  pub is : c ≡ all_noted before (flat_map f (take i xs))

pub noted_none : {A : Type 0} (f : A → List Item) (before : Counted) (xs : List A) → NotedTo f before xs 0 before
noted_none f before xs = record { is = sym (noted_nil before) }

pub noted_more : {A : Type 0} (f : A → List Item) (before : Counted) (xs : List A) (i : ℕ) (c : Counted) (x : A) (next : Counted) → NotedTo f before xs i c → i < length xs → x ≡ get_or xs i x → next ≡ all_noted c (f x) → NotedTo f before xs (i + 1) next
noted_more f before xs i c x next so_far lt is next_is =
    let front : flat_map f (take (i + 1) xs) ≡ flat_map f (take i xs) ++ (f x ++ []) = ap (flat_map f) (take_more xs i x lt ∙ ap (λ y. take i xs ++ y ∷ []) (sym is)) ∙ flat_map-append f (take i xs) (x ∷ []) in
    record {
      is = next_is ∙ ap (λ d. all_noted d (f x)) so_far.is ∙ sym (noted_append before (flat_map f (take i xs)) (f x))
          ∙ ap (λ ys. all_noted before (flat_map f (take i xs) ++ ys)) (sym (append_nil_items (f x))) ∙ ap (all_noted before) (sym front);
    }

pub noted_all : {A : Type 0} (f : A → List Item) (before : Counted) (xs : List A) (i : ℕ) (c : Counted) → NotedTo f before xs i c → length xs ≤ i → c ≡ all_noted before (flat_map f xs)
noted_all f before xs i c so_far le = so_far.is ∙ ap (λ ys. all_noted before (flat_map f ys)) (take_all i xs le)

-- ---- what all add

counted_for : List Item → Counted
counted_for items = record { keys = map key_of items; worth = told (sum_by worth_of items) }

any_key : (key : Key) (items : List Item) → list_any (same_key key) (map key_of items) ≡ list_any (λ other. same_key key (key_of other)) items
any_key key [] = refl
any_key key (x ∷ xs) = ap (λ b. same_key key (key_of x) || b) (any_key key xs)

pushed : (items : List Item) (item : Item) (b : Bool) → (if b then counted_for items else record { keys = map key_of items ++ key_of item ∷ []; worth = told (told (sum_by worth_of items) + told (worth_of item)) }) ≡ counted_for (if b then items else items ++ item ∷ [])
unfolding counted_for
pushed items item true = refl
pushed items item false =
    let sum : told (told (sum_by worth_of items) + told (worth_of item)) ≡ told (sum_by worth_of (items ++ item ∷ [])) = omega (arith, sum_by_push worth_of items item) in
    ap (λ (w : ℕ). record { keys = map key_of items ++ key_of item ∷ []; worth = w }) sum ∙ ap (λ (ks : List Key). record { keys = ks; worth = told (sum_by worth_of (items ++ item ∷ [])) }) (sym (map-append key_of items (item ∷ [])))

one_noted : (items : List Item) (item : Item) → noted (counted_for items) item ≡ counted_for (added items item)
unfolding counted_for
one_noted items item =
    ap (λ (b : Bool). if b then counted_for items else record { keys = map key_of items ++ key_of item ∷ []; worth = told (told (sum_by worth_of items) + told (worth_of item)) }) (any_key (key_of item) items)
    ∙ pushed items item (list_any (λ other. same_key (key_of item) (key_of other)) items)

all_counted : (before items : List Item) → all_noted (counted_for before) items ≡ counted_for (fold added before items)
unfolding all_noted
all_counted before [] = refl
all_counted before (x ∷ xs) = ap (λ c. all_noted c xs) (one_noted before x) ∙ all_counted (added before x) xs

-- the letters of different things, together
letters : (items : List Item) → sum_by worth_of items ≡ 12 * sum_by members_in items + 4 * sum_by names_in items + 4 * sum_by types_in items
letters [] = refl
letters (x ∷ xs) = omega (arith, sum_by-cons worth_of x xs, sum_by-cons members_in x xs, sum_by-cons names_in x xs, sum_by-cons types_in x xs, letters xs)

worth_noted : (items : List Item) → (all_noted nothing_counted items).worth ≡ told (sum_by worth_of (different items))
unfolding different counted_for
worth_noted items = ap (λ (c : Counted). c.worth) (all_counted [] items)

pub pool_number_is : (config : Config) (class : ClassDef) (c : Counted) (declared number : ℕ) → c ≡ all_noted nothing_counted (class_items class) → declared ≡ told (declared_worth config class) → number ≡ min (c.worth + declared) 18446744073709551615 → number ≡ told (pool_number config class)
unfolding pool_number
pool_number_is config class c declared number counted declared_is number_is =
    omega (arith, number_is, declared_is, ap (λ (d : Counted). d.worth) counted, worth_noted (class_items class), letters (different (class_items class)))
