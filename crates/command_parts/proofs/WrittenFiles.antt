-- The files of a folder, after files were written into it.
use Rattle.std.proofs.Common.{◌≡◌, ◌≢◌, ◌∙◌, ℕ, List, [], ◌∷◌, Bool, true, false, cond, Option, Some, Less, inl, inr, refl, sym, ap, subst, arith}
use Rattle.std.specs.Prelude.{◌⊎◌, Contains, IsSome, map}
use Rattle.std.specs.FinMap.{get, insert, get-insert}
use Rattle.std.specs.List.{All, AllByRecursion, filter}
use Rattle.std.specs.Ordering.{eq_by_cmp, is_eq, nat_cmp}
use Rattle.std.specs.Cmp.Lexicographic.{slice_cmp}
use Rattle.std.proofs.lemmas.Cmp.{eq_by_cmp_equiv, nat_list_cmp_total}
use Rattle.std.proofs.lemmas.List.{append_cancel_left}
use Rattle.std.proofs.lemmas.List.Elements.{All-map, All-contains, All-from_recursion, recursion_from_All, Contains-append_right}
use Rattle.std.proofs.lemmas.Map.Keys.{sorted_head, sorted_tail}
use Rattle.std.proofs.lemmas.Map.Lookups.{exact_bytes}
use Rattle.std.proofs.lemmas.Map.Views.{tells_apart}
use Rattle.outside_io.specs.Files.{Files, Ascend, AreBelow}
use Rattle.command_parts.specs.Folders.{below, is_class_path, IsEmpty, AreFilesAt, ClassFiles}
use Rattle.command_parts.specs.Writing.{placed, with_files}
use Rattle.set_loader.specs.declared.file.File.{File}

same_tail : (a b : ℕ) (p q : List ℕ) → a ∷ p ≡ b ∷ q → p ≡ q
same_tail a b p q e = cc

same_below : (dir p q : List ℕ) → below dir p ≡ below dir q → p ≡ q
same_below dir p q e = same_tail 47 47 p q (append_cancel_left dir (47 ∷ p) (47 ∷ q) e)

insert_same : (files : Files) (path bytes : List ℕ) → get (insert files path bytes) path ≡ Some bytes
insert_same files path bytes = get-insert nat_list_cmp_total files path bytes path ∙ ap (λ (b : Bool). cond b (Some bytes) (get files path)) ((eq_by_cmp_equiv nat_list_cmp_total).refl path)

-- at another path a write changes nothing
insert_other : (files : Files) (path bytes other : List ℕ) → other ≢ path → get (insert files path bytes) other ≡ get files other
insert_other files path bytes other apart = get-insert nat_list_cmp_total files path bytes other ∙ elim (eq_by_cmp (slice_cmp nat_cmp) other path) as (λ (b : Bool). eq_by_cmp (slice_cmp nat_cmp) other path ≡ b → cond b (Some bytes) (get files other) ≡ get files other) [
  | true ↦ λ e. absurd (apart (tells_apart exact_bytes other path e))
  | false ↦ λ e. refl
] refl

less_apart : (p q : List ℕ) → slice_cmp nat_cmp p q ≡ Less → p ≢ q
less_apart p q less same =
    let tied : is_eq (slice_cmp nat_cmp p p) ≡ true = (eq_by_cmp_equiv nat_list_cmp_total).refl p in
    let other : is_eq (slice_cmp nat_cmp p q) ≡ false = ap is_eq less in
    cc (tied, other, same)

-- files at later paths leave the file of a path as it is
earlier_stays : (files : Files) (dir path : List ℕ) (list : List File) → AllByRecursion (λ (q : List ℕ). slice_cmp nat_cmp path q ≡ Less) (map (λ (file : File). file.path) list)
    → get (with_files files (map (placed dir) list)) (below dir path) ≡ get files (below dir path)
earlier_stays files dir path [] later = refl
earlier_stays files dir path (file ∷ list) later =
    earlier_stays (insert files (below dir file.path) file.bytes) dir path list later.1
    ∙ insert_other files (below dir file.path) file.bytes (below dir path) (λ e. less_apart path file.path later.0 (same_below dir path file.path e))

-- each file is found with its bytes
written_at : (files : Files) (dir : List ℕ) (list : List File) → Ascend (map (λ (file : File). file.path) list)
    → AreFilesAt (with_files files (map (placed dir) list)) dir (map (λ (file : File). file.path) list) list
written_at files dir [] ascend = tt
written_at files dir (file ∷ list) ascend =
    let head = sorted_head (slice_cmp nat_cmp) file.path (map (λ (f : File). f.path) list) ascend in
    let tail = sorted_tail (slice_cmp nat_cmp) file.path (map (λ (f : File). f.path) list) ascend in
    let next : Files = insert files (below dir file.path) file.bytes in
    ((refl, earlier_stays next dir file.path list head ∙ insert_same files (below dir file.path) file.bytes), written_at next dir list tail)

found_at : (files : Files) (dir : List ℕ) (paths : List (List ℕ)) (list : List File) → AreFilesAt files dir paths list → AllByRecursion (λ (p : List ℕ). IsSome (get files (below dir p))) paths
found_at files dir [] list at = tt
found_at files dir (path ∷ paths) [] at = absurd at
found_at files dir (path ∷ paths) (file ∷ list) at = (subst (λ (o : Option (List ℕ)). IsSome o) (sym at.0.1) refl, found_at files dir paths list at.1)

-- what is found after one write is of that write or was there
found_after : (files : Files) (dir path bytes other : List ℕ) → IsSome (get (insert files (below dir path) bytes) (below dir other)) → (other ≡ path) ⊎ IsSome (get files (below dir other))
found_after files dir path bytes other found = elim (eq_by_cmp (slice_cmp nat_cmp) (below dir other) (below dir path)) as (λ (b : Bool). eq_by_cmp (slice_cmp nat_cmp) (below dir other) (below dir path) ≡ b → IsSome (cond b (Some bytes) (get files (below dir other))) → (other ≡ path) ⊎ IsSome (get files (below dir other))) [
  | true ↦ λ e some. inl (same_below dir other path (tells_apart exact_bytes (below dir other) (below dir path) e))
  | false ↦ λ e some. inr some
] refl (subst (λ (o : Option (List ℕ)). IsSome o) (get-insert nat_list_cmp_total files (below dir path) bytes (below dir other)) found)

-- what is found after all were written is of one of them or was there
found_before : (files : Files) (dir : List ℕ) (list : List File) (path : List ℕ) → IsSome (get (with_files files (map (placed dir) list)) (below dir path))
    → Contains (map (λ (file : File). file.path) list) path ⊎ IsSome (get files (below dir path))
found_before files dir [] path found = inr found
found_before files dir (file ∷ list) path found = elim (found_before (insert files (below dir file.path) file.bytes) dir list path found) [
  | inl later ↦ inl (Contains-append_right (file.path ∷ []) (map (λ (f : File). f.path) list) path later)
  | inr next ↦ elim (found_after files dir file.path file.bytes path next) [
    | inl same ↦ inl (0, omega arith, sym same)
    | inr before ↦ inr before
  ]
]

filter_all : {X : Type 0} (test : X → Bool) (xs : List X) → AllByRecursion (λ (x : X). test x ≡ true) xs → filter test xs ≡ xs
filter_all test [] all = refl
filter_all {X} test (x ∷ xs) all = ap (λ (b : Bool). cond b (x ∷ filter test xs) (filter test xs)) all.0 ∙ ap (λ (ys : List X). x ∷ ys) (filter_all test xs all.1)

not_empty : (path : List ℕ) → is_class_path path ≡ true → path ≢ []
not_empty path passes empty = let fails : is_class_path [] ≡ false = refl in cc (passes, fails, ap is_class_path empty)

none_below : (path : List ℕ) → Contains [] path → ⊥
none_below path has = omega (arith, has.1)

below_written : (old : Files) (dir : List ℕ) (list : List File) → IsEmpty old dir → Ascend (map (λ (file : File). file.path) list) → All (λ (path : List ℕ). is_class_path path ≡ true) (map (λ (file : File). file.path) list)
    → AreBelow dir (with_files old (map (placed dir) list)) (map (λ (file : File). file.path) list)
below_written old dir list empty ascend pass path =
    let new : Files = with_files old (map (placed dir) list) in
    let paths : List (List ℕ) = map (λ (file : File). file.path) list in
    let there = All-from_recursion (λ (p : List ℕ). IsSome (get new (below dir p))) paths (found_at new dir paths list (written_at old dir list ascend)) in (
      (λ has. (not_empty path (All-contains (λ (p : List ℕ). is_class_path p ≡ true) paths path pass has), All-contains (λ (p : List ℕ). IsSome (get new (below dir p))) paths path there has)),
      (λ found. elim (found_before old dir list path found.1) [
        | inl has ↦ has
        | inr before ↦ absurd (none_below path ((empty path).1 (found.0, before)))
      ]),
    )

pub written : (old : Files) (dir : List ℕ) (list : List File) → IsEmpty old dir → Ascend (map (λ (file : File). file.path) list) → All (λ (file : File). is_class_path file.path ≡ true) list
    → ClassFiles (with_files old (map (placed dir) list)) dir list
written old dir list empty ascend pass =
    let paths : List (List ℕ) = map (λ (file : File). file.path) list in
    let all : All (λ (path : List ℕ). is_class_path path ≡ true) paths = All-map (λ (path : List ℕ). is_class_path path ≡ true) (λ (file : File). file.path) list pass in
    let kept : filter is_class_path paths ≡ paths = filter_all is_class_path paths (recursion_from_All (λ (path : List ℕ). is_class_path path ≡ true) paths all) in
    record {
      paths = paths;
      ascend = ascend;
      all = below_written old dir list empty ascend all;
      at = subst (λ (ps : List (List ℕ)). AreFilesAt (with_files old (map (placed dir) list)) dir ps list) (sym kept) (written_at old dir list ascend);
    }
