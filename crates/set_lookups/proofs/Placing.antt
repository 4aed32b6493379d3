-- Lists that are put among others, level by level.
use Rattle.std.proofs.Common.{◌≡◌, ◌∙◌, ℕ, ◌+◌, ◌-◌, ◌<◌, ◌≤◌, ◌≢◌, ◌⊎◌, inl, inr, zero, suc, Bool, true, false, cond, max, List, [], ◌∷◌, ◌++◌, length, drop, get_or, refl, sym, ap, subst, Option, Some, None, arith}
use Rattle.std.specs.Prelude.{flat_map, nat_eq, slice_get, slice_index, position, IfSome, map}
use Rattle.std.specs.List.{list_any, position_from}
use Rattle.std.proofs.lemmas.Iterator.Adapters.{position_from-zero}
use Rattle.std.proofs.lemmas.Option.{slice_get_within, slice_get_past, slice_get_read, same_Some}
use Rattle.std.proofs.lemmas.List.{get_or_past}
use Rattle.std.proofs.lemmas.Bool.{cases_lt}
use Rattle.std.proofs.lemmas.List.{at_drop_more}
use Rattle.indexmap.specs.IndexSet.{insert_key}
use Rattle.set_lookups.specs.Levels.{once, Node, list_of, next_of, list_at, next_at, Adds, IsLevels, IsGrown, IsPlaced, IsAbove, list_in, edge, AreFalling, Climbs}
use Rattle.set_lookups.proofs.Once.{once_append}
use Rattle.set_lookups.specs.SameTypes.{name_true}
use Rattle.set_lookups.specs.Above.{same_name}

pub more_above : (up : ℕ → List ℕ) (keys list : List ℕ) (i : ℕ) → i < length list → once keys (flat_map up (drop i list)) ≡ once (once keys (up (get_or list i 0))) (flat_map up (drop (i + 1) list))
more_above up keys list i lt = at_drop_more (λ xs. once keys (flat_map up xs)) list i 0 lt ∙ once_append keys (up (get_or list i 0)) (flat_map up (drop (i + 1) list))

-- ranks fall from level to level
pub top : List ℕ → List ℕ → ℕ
top ranks [] = 0
top ranks (x ∷ xs) = max (suc (slice_index ranks x)) (top ranks xs)

top_append : (ranks xs ys : List ℕ) → top ranks (xs ++ ys) ≤ max (top ranks xs) (top ranks ys)
unfolding top
top_append ranks [] ys = omega arith
top_append ranks (x ∷ xs) ys = omega (arith, top_append ranks xs ys)

top_insert : (ranks keys : List ℕ) (x : ℕ) (b : Bool) → top ranks (cond b keys (keys ++ x ∷ [])) ≤ max (top ranks keys) (suc (slice_index ranks x))
unfolding top
top_insert ranks keys x true = omega arith
top_insert ranks keys x false = omega (arith, top_append ranks keys (x ∷ []))

top_once : (ranks keys xs : List ℕ) → top ranks (once keys xs) ≤ max (top ranks keys) (top ranks xs)
unfolding top
top_once ranks keys [] = omega arith
top_once ranks keys (x ∷ xs) = omega (arith, top_once ranks (insert_key nat_eq keys x) xs, top_insert ranks keys x (list_any (nat_eq x) keys))

top_under : (ranks xs : List ℕ) (bound : ℕ) → ((k x : ℕ) → slice_get xs k ≡ Some x → slice_index ranks x < bound) → top ranks xs ≤ bound
unfolding top
top_under ranks [] bound h = omega arith
top_under ranks (x ∷ xs) bound h = omega (arith, h 0 x refl, top_under ranks xs bound (λ k y at. h (suc k) y at))

top_above : (edges : List (List ℕ)) (ranks xs : List ℕ) → AreFalling edges ranks → suc (top ranks (flat_map (edge edges) xs)) ≤ max (top ranks xs) 1
unfolding top
top_above edges ranks [] falls = omega arith
top_above edges ranks (x ∷ xs) falls =
    omega (arith, top_append ranks (edge edges x) (flat_map (edge edges) xs), top_under ranks (edge edges x) (slice_index ranks x) (falls x), top_above edges ranks xs falls)

not_empty : (ranks xs : List ℕ) → (xs ≡ [] → ⊥) → 0 < top ranks xs
unfolding top
not_empty ranks [] h = absurd (h refl)
not_empty ranks (x ∷ xs) h = omega arith

pub climbs_on : (edges : List (List ℕ)) (ranks list next : List ℕ) → AreFalling edges ranks → (list ≡ [] → ⊥) → next ≡ once [] (flat_map (edge edges) list) → top ranks next < top ranks list
unfolding top
climbs_on edges ranks list next falls some e =
    let less = ap (top ranks) e in
    omega (arith, less, top_once ranks [] (flat_map (edge edges) list), top_above edges ranks list falls, not_empty ranks list some)

-- the lists of a way up
pub climbs_more : (up : ℕ → List ℕ) (start : List ℕ) (lists : List (List ℕ)) (list next : List ℕ) → Climbs up start lists list → next ≡ once [] (flat_map up list) → Climbs up start (lists ++ list ∷ []) next
climbs_more up start [] list next h e = (h, sym e)
climbs_more up start (first ∷ lists) list next h e = (h.0, climbs_more up (once [] (flat_map up first)) lists list next h.1 e)

pub climbs_last : (up : ℕ → List ℕ) (start : List ℕ) (lists : List (List ℕ)) (list next : List ℕ) → Climbs up start (lists ++ list ∷ []) next → Climbs up start lists list × (next ≡ once [] (flat_map up list))
climbs_last up start [] list next h = (h.0, sym h.1)
climbs_last up start (first ∷ lists) list next h = let rest = climbs_last up (once [] (flat_map up first)) lists list next h.1 in ((h.0, rest.0), rest.1)

-- one list more
pub kept_at : {A : Type 0} (old : List A) (node : A) (at : ℕ) → at < length old → slice_get (old ++ node ∷ []) at ≡ slice_get old at
kept_at [] node at lt = absurd (omega (arith, lt))
kept_at (x ∷ old) node zero lt = refl
kept_at (x ∷ old) node (suc at) lt = kept_at old node at (omega (arith, lt))

pub last_at : {A : Type 0} (old : List A) (node : A) → slice_get (old ++ node ∷ []) (length old) ≡ Some node
last_at [] node = refl
last_at (x ∷ old) node = last_at old node

pub past_at : {A : Type 0} (old : List A) (node : A) (at : ℕ) → length old < at → slice_get (old ++ node ∷ []) at ≡ None
past_at [] node zero lt = absurd (omega (arith, lt))
past_at [] node (suc at) lt = refl
past_at (x ∷ old) node zero lt = absurd (omega (arith, lt))
past_at (x ∷ old) node (suc at) lt = past_at old node at (omega (arith, lt))

count_more : (old : List Node) (node : Node) → length (old ++ node ∷ []) ≡ suc (length old)
count_more [] node = refl
count_more (x ∷ old) node = ap suc (count_more old node)

kept_list : (old : List Node) (node : Node) (at : ℕ) → at < length old → list_at (old ++ node ∷ []) at ≡ list_at old at
kept_list old node at lt = ap list_of (kept_at old node at lt)

kept_next : (old : List Node) (node : Node) (at : ℕ) → at < length old → next_at (old ++ node ∷ []) at ≡ next_at old at
kept_next old node at lt = ap next_of (kept_at old node at lt)

Linked : (ℕ → List ℕ) → List Node → ℕ → Type 0
Linked up nodes at = (list_at nodes (next_at nodes at) ≡ once [] (flat_map up (list_at nodes at))) × (next_at nodes at < length nodes)

first_part : (up : ℕ → List ℕ) (nodes : List Node) (at : ℕ) → Linked up nodes at → list_at nodes (next_at nodes at) ≡ once [] (flat_map up (list_at nodes at))
unfolding Linked
first_part up nodes at h = h.0

second_part : (up : ℕ → List ℕ) (nodes : List Node) (at : ℕ) → Linked up nodes at → next_at nodes at < length nodes
unfolding Linked
second_part up nodes at h = h.1

linked_kept : (up : ℕ → List ℕ) (old : List Node) (node : Node) (at : ℕ) → IsLevels up old → at < length old → Linked up (old ++ node ∷ []) at
unfolding Linked
linked_kept up old node at l lt =
    let next = kept_next old node at lt in (
      ap (list_at (old ++ node ∷ [])) next ∙ kept_list old node (next_at old at) (l.within at) ∙ l.linked at ∙ ap (λ list. once [] (flat_map up list)) (sym (kept_list old node at lt)),
      omega (arith, next, l.within at, count_more old node),
    )

linked_last : (up : ℕ → List ℕ) (old : List Node) (list : List ℕ) (next at : ℕ) → at ≡ length old → next < length old → list_at old next ≡ once [] (flat_map up list) → Linked up (old ++ (list, next) ∷ []) at
unfolding Linked
linked_last up old list next at e lt is =
    let nodes = old ++ (list, next) ∷ [] in
    let here = ap (slice_get nodes) e ∙ last_at old (list, next) in
    let above = ap next_of here in (
      ap (list_at nodes) above ∙ kept_list old (list, next) next lt ∙ is ∙ ap (λ xs. once [] (flat_map up xs)) (sym (ap list_of here)),
      omega (arith, above, lt, count_more old (list, next)),
    )

linked_past : (up : ℕ → List ℕ) (old : List Node) (node : Node) (at : ℕ) → IsLevels up old → length old < at → Linked up (old ++ node ∷ []) at
unfolding Linked
linked_past up old node at l lt =
    let nodes = old ++ node ∷ [] in
    let here = past_at old node at lt in
    let above = ap next_of here in
    let some = slice_get_within old 0 ([], 0) l.bottom in (
      ap (list_at nodes) above ∙ kept_list old node 0 some ∙ ap list_of l.bottom ∙ ap (λ xs. once [] (flat_map up xs)) (sym (ap list_of here)),
      omega (arith, above, some, count_more old node),
    )

linked_by : (up : ℕ → List ℕ) (old : List Node) (list : List ℕ) (next at : ℕ) → IsLevels up old → next < length old → list_at old next ≡ once [] (flat_map up list) → ((at < length old) ⊎ (length old ≤ at)) → ((at ≡ length old) ⊎ (length old ≢ at)) → Linked up (old ++ (list, next) ∷ []) at
linked_by up old list next at l lt is (inl below) other = linked_kept up old (list, next) at l below
linked_by up old list next at l lt is (inr past) (inl same) = linked_last up old list next at same lt is
linked_by up old list next at l lt is (inr past) (inr more) = linked_past up old (list, next) at l (omega (arith, past, more))

pub same_or : (a b : ℕ) → (a ≡ b) ⊎ (b ≢ a)
same_or zero zero = inl refl
same_or zero (suc b) = inr (λ e. absurd (omega (arith, e)))
same_or (suc a) zero = inr (λ e. absurd (omega (arith, e)))
same_or (suc a) (suc b) = more a b (same_or a b)
  where
    more : (a b : ℕ) → (a ≡ b) ⊎ (b ≢ a) → (suc a ≡ suc b) ⊎ (suc b ≢ suc a)
    more a b (inl e) = inl (ap suc e)
    more a b (inr h) = inr (λ e. h (omega (arith, e)))

linked_all : (up : ℕ → List ℕ) (old : List Node) (list : List ℕ) (next : ℕ) → IsLevels up old → next < length old → list_at old next ≡ once [] (flat_map up list) → (at : ℕ) → Linked up (old ++ (list, next) ∷ []) at
linked_all up old list next l lt is at = linked_by up old list next at l lt is (cases_lt at (length old)) (same_or at (length old))

pub placed : (up : ℕ → List ℕ) (old new : List Node) (list : List ℕ) (next at : ℕ) → IsLevels up old → next < length old → list_at old next ≡ once [] (flat_map up list) → Adds old new list next at → IsPlaced up old new list at
placed up old new list next at l lt is (inl there) =
    subst (λ nodes. IsPlaced up old nodes list at) (sym there.0) (record {
      grown = record { levels = l; kept = λ k less. refl; longer = omega arith };
      within = there.1;
      is = there.2;
    })
placed up old new list next at l lt is (inr put) =
    let node : Node = (list, next) in
    let all = linked_all up old list next l lt is in
    subst (λ nodes. IsPlaced up old nodes list at) (sym put.0) (record {
      grown = record {
        levels = record { linked = λ k. first_part up (old ++ node ∷ []) k (all k); within = λ k. second_part up (old ++ node ∷ []) k (all k); bottom = kept_at old node 0 (slice_get_within old 0 ([], 0) l.bottom) ∙ l.bottom };
        kept = kept_list old node;
        longer = omega (arith, count_more old node);
      };
      within = omega (arith, put.1, count_more old node);
      is = ap (list_at (old ++ node ∷ [])) put.1 ∙ ap list_of (last_at old node);
    })

-- one after the other
pub grown_on : (up : ℕ → List ℕ) (first second third : List Node) → IsGrown up first second → IsGrown up second third → IsGrown up first third
grown_on up first second third a b = record {
  levels = b.levels;
  kept = λ at lt. b.kept at (omega (arith, lt, a.longer)) ∙ a.kept at lt;
  longer = omega (arith, a.longer, b.longer);
}

-- a list that is found by what it holds
Found : List Node → List ℕ → ℕ → ℕ → Type 0
Found nodes list i at = (i ≤ at) × (at < i + length nodes) × (list_at nodes (at - i) ≡ list)

found_later : (nodes : List Node) (node : Node) (list : List ℕ) (i : ℕ) (place : Option ℕ) → IfSome place (Found nodes list (i + 1)) → IfSome place (Found (node ∷ nodes) list i)
unfolding Found
found_later nodes node list i None h = tt
found_later nodes node list i (Some at) h =
    let back : at - i ≡ suc (at - (i + 1)) = omega (arith, h.0) in
    (omega (arith, h.0), omega (arith, h.1), ap (list_at (node ∷ nodes)) back ∙ h.2)

found_by : (nodes : List Node) (node : Node) (list : List ℕ) (i : ℕ) (b : Bool) (rest : Option ℕ) → same_name list node.0 ≡ b → IfSome rest (Found nodes list (i + 1)) → IfSome (cond b (Some i) rest) (Found (node ∷ nodes) list i)
unfolding Found
found_by nodes node list i true rest e h =
    let none : i - i ≡ 0 = omega arith in
    (omega arith, omega arith, ap (list_at (node ∷ nodes)) none ∙ sym (name_true list node.0 e))
found_by nodes node list i false rest e h = found_later nodes node list i rest h

found_from : (nodes : List Node) (list : List ℕ) (i : ℕ) → IfSome (position_from (same_name list) i (map (λ node. node.0) nodes)) (Found nodes list i)
found_from [] list i = tt
found_from (node ∷ nodes) list i = found_by nodes node list i (same_name list node.0) (position_from (same_name list) (i + 1) (map (λ n. n.0) nodes)) refl (found_from nodes list (i + 1))

found_whole : (nodes : List Node) (list : List ℕ) (place : Option ℕ) → IfSome place (Found nodes list 0) → IfSome place (λ at. (at < length nodes) × (list_at nodes at ≡ list))
unfolding Found
found_whole nodes list None h = tt
found_whole nodes list (Some at) h =
    let same : at ≡ at - 0 = omega arith in
    (omega (arith, h.1), ap (list_at nodes) same ∙ h.2)

pub found_node : (nodes : List Node) (list : List ℕ) (place : Option ℕ) → place ≡ position (same_name list) (map (λ node. node.0) nodes) → IfSome place (λ at. (at < length nodes) × (list_at nodes at ≡ list))
found_node nodes list place e =
    found_whole nodes list place (subst (λ p. IfSome p (Found nodes list 0)) (sym (e ∙ position_from-zero (same_name list) (map (λ node. node.0) nodes))) (found_from nodes list 0))

pub found_place : (place : Option ℕ) (at : ℕ) (P : ℕ → Type 0) → place ≡ Some at → IfSome place P → P at
found_place None at P e h = cc
found_place (Some k) at P e h = subst P (same_Some k at e) h

-- the first lists of the classes so far
pub record Started (first : ℕ → List ℕ) (nodes : List Node) (starts : List ℕ) (n : ℕ) : Type 0 where
  pub count : length starts ≡ n
  pub within : (k : ℕ) → k < n → slice_index starts k < length nodes
  pub each : (k : ℕ) → k < n → list_at nodes (slice_index starts k) ≡ once [] (first k)

before_last : (xs : List ℕ) (x k : ℕ) → k < length xs → get_or (xs ++ x ∷ []) k 0 ≡ get_or xs k 0
before_last [] x k lt = absurd (omega (arith, lt))
before_last (y ∷ xs) x zero lt = refl
before_last (y ∷ xs) x (suc k) lt = before_last xs x k (omega (arith, lt))

the_last : (xs : List ℕ) (x : ℕ) → get_or (xs ++ x ∷ []) (length xs) 0 ≡ x
the_last [] x = refl
the_last (y ∷ xs) x = the_last xs x

one_longer : (xs : List ℕ) (x : ℕ) → length (xs ++ x ∷ []) ≡ suc (length xs)
one_longer [] x = refl
one_longer (y ∷ xs) x = ap suc (one_longer xs x)

abbrev StartsAt : (ℕ → List ℕ) → List Node → List ℕ → ℕ → Type 0
StartsAt first nodes starts k = (slice_index starts k < length nodes) × (list_at nodes (slice_index starts k) ≡ once [] (first k))

start_by : (up first : ℕ → List ℕ) (old new : List Node) (list starts : List ℕ) (n start k : ℕ) → Started first old starts n → IsPlaced up old new list start → list ≡ once [] (first n) → k < n + 1 → ((k < n) ⊎ (n ≤ k)) → StartsAt first new (starts ++ start ∷ []) k
start_by up first old new list starts n start k s put e lt (inl below) =
    let same = before_last starts start k (omega (arith, below, s.count)) in
    let within = s.within k below in
    (omega (arith, same, within, put.grown.longer), ap (list_at new) same ∙ put.grown.kept (slice_index starts k) within ∙ s.each k below)
start_by up first old new list starts n start k s put e lt (inr past) =
    let at : k ≡ length starts = omega (arith, lt, past, s.count) in
    let same = ap (λ j. get_or (starts ++ start ∷ []) j 0) at ∙ the_last starts start in
    (omega (arith, same, put.within), ap (list_at new) same ∙ put.is ∙ e ∙ ap (λ j. once [] (first j)) (omega (arith, lt, past)))

pub starts_more : (up first : ℕ → List ℕ) (old new : List Node) (list starts : List ℕ) (n start : ℕ) → Started first old starts n → IsPlaced up old new list start → list ≡ once [] (first n) → Started first new (starts ++ start ∷ []) (n + 1)
starts_more up first old new list starts n start s put e = record {
  count = omega (arith, one_longer starts start, s.count);
  within = λ k lt. (start_by up first old new list starts n start k s put e lt (cases_lt k n)).0;
  each = λ k lt. (start_by up first old new list starts n start k s put e lt (cases_lt k n)).1;
}

past_edge : (edges : List (List ℕ)) (k : ℕ) → length edges ≤ k → edge edges k ≡ []
past_edge edges k le = ap list_in (slice_get_past edges k le)

start_all : (firsts : List (List ℕ)) (up : ℕ → List ℕ) (nodes : List Node) (starts : List ℕ) (n k : ℕ) → IsLevels up nodes → Started (edge firsts) nodes starts n → length firsts ≤ n → ((k < n) ⊎ (n ≤ k)) → list_at nodes (slice_index starts k) ≡ once [] (edge firsts k)
start_all firsts up nodes starts n k l s le (inl below) = s.each k below
start_all firsts up nodes starts n k l s le (inr past) =
    ap (list_at nodes) (get_or_past starts k 0 (omega (arith, past, s.count))) ∙ ap list_of l.bottom ∙ sym (ap (once []) (past_edge firsts k (omega (arith, past, le))))

pub starts_all : (firsts : List (List ℕ)) (up : ℕ → List ℕ) (nodes : List Node) (starts : List ℕ) (n : ℕ) → IsLevels up nodes → Started (edge firsts) nodes starts n → length firsts ≤ n → IsAbove (edge firsts) up nodes starts
starts_all firsts up nodes starts n l s le = record { levels = l; starts = λ k. start_all firsts up nodes starts n k l s le (cases_lt k n) }

-- the empty list alone
alone_linked : (up : ℕ → List ℕ) (at : ℕ) → list_at (([], 0) ∷ []) (next_at (([], 0) ∷ []) at) ≡ once [] (flat_map up (list_at (([], 0) ∷ []) at))
alone_linked up zero = refl
alone_linked up (suc at) = refl

alone_within : (at : ℕ) → next_at (([], 0) ∷ []) at < 1
alone_within zero = omega arith
alone_within (suc at) = omega arith

pub alone : (up : ℕ → List ℕ) (nodes : List Node) → nodes ≡ ([], 0) ∷ [] → IsLevels up nodes
alone up nodes e = subst (IsLevels up) (sym e) (record { linked = alone_linked up; within = alone_within; bottom = refl })

pub none_started : (first : ℕ → List ℕ) (nodes : List Node) (starts : List ℕ) → starts ≡ [] → Started first nodes starts 0
none_started first nodes starts e = record { count = ap length e; within = λ k lt. absurd (omega (arith, lt)); each = λ k lt. absurd (omega (arith, lt)) }

-- the list of a place that a loop has come to
pub edge_of : (edges : List (List ℕ)) (i : ℕ) (list : List ℕ) → i < length edges → list ≡ get_or edges i list → list ≡ edge edges i
edge_of edges i list lt is = sym (ap list_in (slice_get_read edges (length edges) i list refl lt is))
