-- The names below a folder of the paths of a log.
use Rattle.std.proofs.Common.{◌≡◌, ◌∙◌, ℕ, ◌+◌, ◌<◌, ◌≤◌, length, take, drop, get_or, add-one, arith, List, [], ◌∷◌, ◌++◌, Option, Some, None, Bool, true, false, cond, ◌||◌, ◌&&◌, refl, sym, ap, subst, nat_eq}
use Rattle.std.specs.Prelude.{◌≢◌, Result, Ok, Err, IfOk}
use Rattle.std.specs.Option.{is_some}
use Rattle.std.specs.List.{list_any}
use Rattle.std.specs.Ordering.{nat_cmp, eq_by_cmp}
use Rattle.std.specs.Cmp.Lexicographic.{pointwise, slice_cmp, texts_ties, same_text, nat_list_cmp_total}
use Rattle.std.specs.BTreeMap.{is_at}
use Rattle.std.specs.BTreeSet.{BTreeSet, Updates, keys}
use Rattle.std.specs.FinMap.{get}
use Rattle.std.proofs.lemmas.Cmp.{nat_eq_equiv, nat_list_eq_equiv}
use Rattle.std.proofs.lemmas.List.{drop-drop, length-drop, nil_from_length}
use Rattle.std.proofs.Math.Seq.{drop-cons}
use Rattle.std.proofs.lemmas.Map.Lookups.{exact_bytes}
use Rattle.std.proofs.lemmas.Map.Views.{btree_set_contains_iff}
use Rattle.outside_io.specs.Files.{AreBelow}
use Rattle.outside_io.specs.MemoryKinds.{files_of}
use Rattle.outside_io.specs.WriteLog.{has, AddsName, AreTexts, log_of, taken}
use Rattle.outside_io.proofs.Logs.{latest, get-files_of}

-- whether a write is at the path
abbrev pub names : List ℕ → List (List ℕ × List ℕ) → Bool
names path ws = list_any (λ (w : List ℕ × List ℕ). pointwise nat_eq path w.0) ws

or_true : (a : Bool) → (a || true) ≡ true
or_true true = refl
or_true false = refl

or_false : (a : Bool) → (a || false) ≡ a
or_false true = refl
or_false false = refl

newest_step : (b n : Bool) (x : List ℕ) (o : Option (List ℕ)) → (n || is_some (cond b (Some x) o)) ≡ ((b || n) || is_some o)
newest_step true n x o = or_true n
newest_step false n x o = refl

is_some-latest : (ws : List (List ℕ × List ℕ)) (path : List ℕ) (o : Option (List ℕ)) → is_some (latest path ws o) ≡ (names path ws || is_some o)
is_some-latest [] path o = refl
is_some-latest (w ∷ ws) path o =
    is_some-latest ws path (cond (pointwise nat_eq path w.0) (Some w.1) o)
    ∙ newest_step (pointwise nat_eq path w.0) (names path ws) w.1 o

is_some-get : (ws : List (List ℕ × List ℕ)) (path : List ℕ) → is_some (get (files_of ws) path) ≡ names path ws
is_some-get ws path = ap is_some (get-files_of ws path) ∙ is_some-latest ws path None ∙ or_false (names path ws)

-- names that are those of all paths are what stands below the folder
pub below_all : (dir : List ℕ) (ws : List (List ℕ × List ℕ)) (found : BTreeSet (List ℕ))
    → ((q : List ℕ) → q ≢ [] → has found q ≡ names (dir ++ 47 ∷ q) ws) → has found [] ≡ false
    → AreBelow dir (files_of ws) (keys found)
below_all dir ws found all none path =
    let in_set = btree_set_contains_iff nat_list_cmp_total exact_bytes found path in (
      λ there.
          let yes : has found path ≡ true = in_set.1 there in
          let more : path ≢ [] = λ e. absurd cc in
          (more, is_some-get ws (dir ++ 47 ∷ path) ∙ sym (all path more) ∙ yes),
      λ h. in_set.0 (all path h.0 ∙ sym (is_some-get ws (dir ++ 47 ∷ path)) ∙ h.1),
    )

pointwise_front : (xs ys zs : List ℕ) → pointwise nat_eq (xs ++ ys) (xs ++ zs) ≡ pointwise nat_eq ys zs
pointwise_front [] ys zs = refl
pointwise_front (x ∷ xs) ys zs = ap (λ b. b && pointwise nat_eq (xs ++ ys) (xs ++ zs)) (nat_eq_equiv.refl x) ∙ pointwise_front xs ys zs

-- a folder's path and a '/' before two names change nothing of whether they are the same
same_below : (dir name q : List ℕ) → pointwise nat_eq (dir ++ 47 ∷ q) (dir ++ 47 ∷ name) ≡ eq_by_cmp (slice_cmp nat_cmp) name q
same_below dir name q = pointwise_front dir (47 ∷ q) (47 ∷ name) ∙ nat_list_eq_equiv.symm q name ∙ texts_ties name q

-- a path with nothing of its own below the folder is none of those asked for
pub no_name : (dir path : List ℕ) (found : BTreeSet (List ℕ))
    → ((name : List ℕ) → name ≢ [] → path ≢ dir ++ 47 ∷ name) → AddsName dir path found found
no_name dir path found none = record {
  names = λ q more. elim (pointwise nat_eq (dir ++ 47 ∷ q) path) as (λ b. pointwise nat_eq (dir ++ 47 ∷ q) path ≡ b → has found q ≡ (b || has found q)) [
    | true ↦ λ e. absurd (none q more (sym (same_text (dir ++ 47 ∷ q) path (sym e))))
    | false ↦ λ e. refl
  ] refl;
  empty = refl;
}

either : (b h : Bool) → cond b true h ≡ (b || h)
either true h = refl
either false h = refl

-- a name that was put into the set is one of those asked for
pub one_name : (dir path name : List ℕ) (found more : BTreeSet (List ℕ))
    → name ≢ [] → path ≡ dir ++ 47 ∷ name → Updates (slice_cmp nat_cmp) found more name true → AddsName dir path found more
one_name dir path name found more full e updates = record {
  names = λ q _.
      updates.0 q ∙ either (eq_by_cmp (slice_cmp nat_cmp) name q) (has found q)
      ∙ ap (λ b. b || has found q) (sym (same_below dir name q) ∙ ap (λ (p : List ℕ). pointwise nat_eq (dir ++ 47 ∷ q) p) (sym e));
  empty = updates.2 [] (elim name as (λ n. n ≢ [] → eq_by_cmp (slice_cmp nat_cmp) n [] ≡ false) [ [] ↦ λ h. absurd (h refl) | x ∷ xs ↦ λ h. refl ] full);
}

swapped : (a b c d : Bool) → d ≡ (b || a) → (d || c) ≡ (a || (b || c))
swapped a true c d e = ap (λ x. x || c) e ∙ sym (or_true a)
swapped a false c d e = ap (λ x. x || c) e

-- one turn of the walk over the writes
pub turn : (dir q path bytes : List ℕ) (ws : List (List ℕ × List ℕ)) (found more : BTreeSet (List ℕ))
    → AddsName dir path found more → q ≢ [] → (has more q || names (dir ++ 47 ∷ q) ws) ≡ (has found q || names (dir ++ 47 ∷ q) ((path, bytes) ∷ ws))
turn dir q path bytes ws found more adds full =
    swapped (has found q) (pointwise nat_eq (dir ++ 47 ∷ q) path) (names (dir ++ 47 ∷ q) ws) (has more q) (adds.names q full)

-- the walk over the writes: what is left of the text, and the names that were found
pub record Walk (sizes : List (ℕ × ℕ)) (text dir rest : List ℕ) (i : ℕ) (found : BTreeSet (List ℕ)) : Type 0 where
  pub left : taken (drop i sizes) ≡ length rest
  pub texts : AreTexts (log_of (drop i sizes) rest)
  pub all : (q : List ℕ) → q ≢ [] → (has found q || names (dir ++ 47 ∷ q) (log_of (drop i sizes) rest)) ≡ names (dir ++ 47 ∷ q) (log_of sizes text)
  pub none : has found [] ≡ false

pub walk_starts : (sizes : List (ℕ × ℕ)) (text dir : List ℕ) (found : BTreeSet (List ℕ)) → taken sizes ≡ length text → AreTexts (log_of sizes text) → found.keys ≡ [] → Walk sizes text dir text 0 found
walk_starts sizes text dir found whole texts empty = record {
  left = whole;
  texts = texts;
  all = λ q more. ap (λ ks. list_any (is_at (slice_cmp nat_cmp q)) ks || names (dir ++ 47 ∷ q) (log_of sizes text)) empty;
  none = ap (list_any (is_at (slice_cmp nat_cmp []))) empty;
}

walk_on_at : (sizes : List (ℕ × ℕ)) (text dir rest : List ℕ) (i : ℕ) (size : ℕ × ℕ) (found more : BTreeSet (List ℕ)) → drop i sizes ≡ size ∷ drop (i + 1) sizes
    → Walk sizes text dir rest i found → AddsName dir (take size.0 rest) found more → Walk sizes text dir (drop size.1 (drop size.0 rest)) (i + 1) more
walk_on_at sizes text dir rest i size found more e walk adds =
    let left : size.0 + size.1 + taken (drop (i + 1) sizes) ≡ length rest = ap taken (sym e) ∙ walk.left in
    let texts : AreTexts (log_of (size ∷ drop (i + 1) sizes) rest) = subst (λ (ss : List (ℕ × ℕ)). AreTexts (log_of ss rest)) e walk.texts in
    let behind : drop size.1 (drop size.0 rest) ≡ drop (size.0 + size.1) rest = drop-drop size.1 size.0 rest in
    record {
      left = omega (arith, left, ap length behind, length-drop (size.0 + size.1) rest);
      texts = subst (λ (r : List ℕ). AreTexts (log_of (drop (i + 1) sizes) r)) (sym behind) texts.1;
      all = λ q full.
          ap (λ (r : List ℕ). has more q || names (dir ++ 47 ∷ q) (log_of (drop (i + 1) sizes) r)) behind
          ∙ turn dir q (take size.0 rest) (take size.1 (drop size.0 rest)) (log_of (drop (i + 1) sizes) (drop (size.0 + size.1) rest)) found more adds full
          ∙ ap (λ (ss : List (ℕ × ℕ)). has found q || names (dir ++ 47 ∷ q) (log_of ss rest)) (sym e)
          ∙ walk.all q full;
      none = adds.empty ∙ walk.none;
    }

pub walk_fits : (sizes : List (ℕ × ℕ)) (text dir rest : List ℕ) (i : ℕ) (found : BTreeSet (List ℕ)) → i < length sizes
    → Walk sizes text dir rest i found → (get_or sizes i (0, 0)).0 + (get_or sizes i (0, 0)).1 ≤ length rest
walk_fits sizes text dir rest i found within walk =
    let e : drop i sizes ≡ get_or sizes i (0, 0) ∷ drop (i + 1) sizes = rw add-one (drop-cons sizes i (0, 0) within) in
    omega (arith, ap taken (sym e) ∙ walk.left)

pub walk_on : (sizes : List (ℕ × ℕ)) (text dir rest : List ℕ) (i : ℕ) (found more : BTreeSet (List ℕ)) (path middle behind : List ℕ) → i < length sizes
    → path ≡ take (get_or sizes i (0, 0)).0 rest → middle ≡ drop (get_or sizes i (0, 0)).0 rest → behind ≡ drop (get_or sizes i (0, 0)).1 middle
    → Walk sizes text dir rest i found → AddsName dir path found more → Walk sizes text dir behind (i + 1) more
walk_on sizes text dir rest i found more path middle behind within path_is middle_is behind_is walk adds =
    let e : drop i sizes ≡ get_or sizes i (0, 0) ∷ drop (i + 1) sizes = rw add-one (drop-cons sizes i (0, 0) within) in
    let on = walk_on_at sizes text dir rest i (get_or sizes i (0, 0)) found more e walk (subst (λ (p : List ℕ). AddsName dir p found more) path_is adds) in
    subst (λ (r : List ℕ). Walk sizes text dir r (i + 1) more) (sym (behind_is ∙ ap (drop (get_or sizes i (0, 0)).1) middle_is)) on

pub walk_ends : (sizes : List (ℕ × ℕ)) (text dir rest : List ℕ) (i : ℕ) (found : BTreeSet (List ℕ)) → length sizes ≤ i
    → Walk sizes text dir rest i found → AreBelow dir (files_of (log_of sizes text)) (keys found)
walk_ends sizes text dir rest i found past walk =
    let e : drop i sizes ≡ [] = nil_from_length (drop i sizes) (omega (arith, length-drop i sizes)) in
    below_all dir (log_of sizes text) found
    (λ q full. sym (or_false (has found q)) ∙ ap (λ (ss : List (ℕ × ℕ)). has found q || names (dir ++ 47 ∷ q) (log_of ss rest)) (sym e) ∙ walk.all q full)
    walk.none

-- the same of a list that has these names
pub below_in_order : {E : Type 0} (dir : List ℕ) (ws : List (List ℕ × List ℕ)) (found : List (List ℕ)) (result : Result (List (List ℕ)) E)
    → AreBelow dir (files_of ws) found → IfOk result (λ paths. paths ≡ found) → IfOk result (AreBelow dir (files_of ws))
below_in_order dir ws found (Ok paths) all same = subst (AreBelow dir (files_of ws)) (sym same) all
below_in_order dir ws found (Err e) all same = tt
