-- What a folder holds is one thing: its paths, its class files, and whether they can be read.
use Rattle.std.proofs.Common.{◌≡◌, ◌∙◌, ℕ, ◌<◌, ◌≤◌, List, [], ◌∷◌, ◌++◌, length, Option, Some, None, refl, sym, ap, subst, arith}
use Rattle.std.specs.Prelude.{IsSomeAnd}
use Rattle.std.specs.FinMap.{get}
use Rattle.std.specs.List.{filter}
use Rattle.std.proofs.lemmas.List.Elements.{All-head, All-tail}
use Rattle.outside_io.specs.Files.{Files, Ascend, AreBelow, most_bytes}
use Rattle.set_loader.specs.declared.file.File.{File}
use Rattle.command_parts.specs.Folders.{below, is_class_path, HasFew, HasMany, HasFile, IsEmpty, IsLong, AreFilesAt, AreShort, ReadsBytes, ReadsClassFiles, FirstLong}
use Rattle.phosphor_top.proofs.Ascending.{sorted_same, none_in_nothing}

same_paths : (files : Files) (dir : List ℕ) (xs ys : List (List ℕ)) → Ascend xs → Ascend ys → AreBelow dir files xs → AreBelow dir files ys → xs ≡ ys
same_paths files dir xs ys a b in_xs in_ys = sorted_same xs ys a b (λ p has. (in_ys p).1 ((in_xs p).0 has)) (λ p has. (in_xs p).1 ((in_ys p).0 has))

same_some : (x y : List ℕ) (o : Option (List ℕ)) → o ≡ Some x → o ≡ Some y → x ≡ y
same_some x y o is_x is_y = cc

same_fields : (p q b d : List ℕ) → p ≡ q → b ≡ d → ◌≡◌ {A = File} (record { path = p; bytes = b }) (record { path = q; bytes = d })
same_fields p q b d paths bytes = cc

same_file : (f g : File) → f.path ≡ g.path → f.bytes ≡ g.bytes → f ≡ g
same_file f g paths bytes = same_fields f.path g.path f.bytes g.bytes paths bytes

same_cons : (f g : File) (fs gs : List File) → f ≡ g → fs ≡ gs → f ∷ fs ≡ g ∷ gs
same_cons f g fs gs one rest = cc

same_files : (files : Files) (dir : List ℕ) (paths : List (List ℕ)) (fs gs : List File) → AreFilesAt files dir paths fs → AreFilesAt files dir paths gs → fs ≡ gs
same_files files dir [] [] [] a b = refl
same_files files dir [] [] (g ∷ gs) a b = absurd b
same_files files dir [] (f ∷ fs) gs a b = absurd a
same_files files dir (p ∷ paths) [] gs a b = absurd a
same_files files dir (p ∷ paths) (f ∷ fs) [] a b = absurd b
same_files files dir (p ∷ paths) (f ∷ fs) (g ∷ gs) a b =
    same_cons f g fs gs
    (same_file f g (a.0.0 ∙ sym b.0.0) (same_some f.bytes g.bytes (get files (below dir p)) a.0.1 b.0.1))
    (same_files files dir paths fs gs a.1 b.1)

-- the class files of a folder are one list
pub one_list : (files : Files) (dir : List ℕ) (fs gs : List File) → ReadsClassFiles files dir fs → ReadsClassFiles files dir gs → fs ≡ gs
one_list files dir fs gs a b =
    let same : a.paths ≡ b.paths = same_paths files dir a.paths b.paths a.few.ascend b.few.ascend a.few.all b.few.all in
    same_files files dir (filter is_class_path a.paths) fs gs a.at (subst (λ (ps : List (List ℕ)). AreFilesAt files dir (filter is_class_path ps) gs) (sym same) b.at)

pub few_or_many : (files : Files) (dir : List ℕ) (paths : List (List ℕ)) → HasFew files dir paths → HasMany files dir → ⊥
few_or_many files dir paths few many =
    let same : paths ≡ many.paths = same_paths files dir paths many.paths few.ascend many.ascend few.all many.all in
    omega (arith, ap length same, few.few, many.many)

pub long_or_short : (files : Files) (whole bytes : List ℕ) → get files whole ≡ Some bytes → length bytes ≤ most_bytes → IsLong files whole → ⊥
long_or_short files whole bytes is short long =
    let over : most_bytes < length bytes = subst (λ (o : Option (List ℕ)). IsSomeAnd o (λ b. most_bytes < length b)) is long in
    omega (arith, over, short)

short_middle : (files : Files) (dir path : List ℕ) (front back : List (List ℕ)) (fs : List File) → AreFilesAt files dir (front ++ path ∷ back) fs → AreShort fs → IsLong files (below dir path) → ⊥
short_middle files dir path [] back [] at short long = absurd at
short_middle files dir path [] back (f ∷ fs) at short long = long_or_short files (below dir path) f.bytes at.0.1 (All-head (λ (g : File). length g.bytes ≤ most_bytes) f fs short) long
short_middle files dir path (p ∷ front) back [] at short long = absurd at
short_middle files dir path (p ∷ front) back (f ∷ fs) at short long = short_middle files dir path front back fs at.1 (All-tail (λ (g : File). length g.bytes ≤ most_bytes) f fs short) long

pub read_or_long : (files : Files) (dir whole : List ℕ) (fs : List File) → ReadsClassFiles files dir fs → FirstLong files dir whole → ⊥
read_or_long files dir whole fs read first =
    let same : read.paths ≡ first.paths = same_paths files dir read.paths first.paths read.few.ascend first.few.ascend read.few.all first.few.all in
    let split : filter is_class_path read.paths ≡ first.front ++ first.path ∷ first.back = ap (filter is_class_path) same ∙ first.split in
    short_middle files dir first.path first.front first.back fs (subst (λ (ps : List (List ℕ)). AreFilesAt files dir ps fs) split read.at) read.short (subst (λ (w : List ℕ). IsLong files w) first.named first.long)

first_same : (files : Files) (dir p q : List ℕ) (front back other more : List (List ℕ)) (fs gs : List File)
    → front ++ p ∷ back ≡ other ++ q ∷ more → AreFilesAt files dir front fs → AreShort fs → IsLong files (below dir p) → AreFilesAt files dir other gs → AreShort gs → IsLong files (below dir q) → p ≡ q
first_same files dir p q [] back [] more fs gs is at short long at_q short_q long_q = cc
first_same files dir p q [] back (o ∷ other) more fs [] is at short long at_q short_q long_q = absurd at_q
first_same files dir p q [] back (o ∷ other) more fs (g ∷ gs) is at short long at_q short_q long_q =
    let same : p ≡ o = cc in
    absurd (long_or_short files (below dir o) g.bytes at_q.0.1 (All-head (λ (h : File). length h.bytes ≤ most_bytes) g gs short_q) (subst (λ (w : List ℕ). IsLong files (below dir w)) same long))
first_same files dir p q (f ∷ front) back [] more [] gs is at short long at_q short_q long_q = absurd at
first_same files dir p q (f ∷ front) back [] more (h ∷ fs) gs is at short long at_q short_q long_q =
    let same : q ≡ f = cc in
    absurd (long_or_short files (below dir f) h.bytes at.0.1 (All-head (λ (k : File). length k.bytes ≤ most_bytes) h fs short) (subst (λ (w : List ℕ). IsLong files (below dir w)) same long_q))
first_same files dir p q (f ∷ front) back (o ∷ other) more [] gs is at short long at_q short_q long_q = absurd at
first_same files dir p q (f ∷ front) back (o ∷ other) more (h ∷ fs) [] is at short long at_q short_q long_q = absurd at_q
first_same files dir p q (f ∷ front) back (o ∷ other) more (h ∷ fs) (g ∷ gs) is at short long at_q short_q long_q =
    let rest : front ++ p ∷ back ≡ other ++ q ∷ more = cc in
    first_same files dir p q front back other more fs gs rest at.1 (All-tail (λ (k : File). length k.bytes ≤ most_bytes) h fs short) long at_q.1 (All-tail (λ (k : File). length k.bytes ≤ most_bytes) g gs short_q) long_q

pub one_long : (files : Files) (dir v w : List ℕ) → FirstLong files dir v → FirstLong files dir w → v ≡ w
one_long files dir v w a b =
    let same : a.paths ≡ b.paths = same_paths files dir a.paths b.paths a.few.ascend b.few.ascend a.few.all b.few.all in
    let split : a.front ++ a.path ∷ a.back ≡ b.front ++ b.path ∷ b.back = sym a.split ∙ ap (filter is_class_path) same ∙ b.split in
    a.named ∙ ap (below dir) (first_same files dir a.path b.path a.front a.back b.front b.back a.list b.list split a.at a.short (subst (λ (x : List ℕ). IsLong files x) a.named a.long) b.at b.short (subst (λ (x : List ℕ). IsLong files x) b.named b.long)) ∙ sym b.named

pub empty_or_full : (files : Files) (dir : List ℕ) → IsEmpty files dir → HasFile files dir → ⊥
empty_or_full files dir empty full = none_in_nothing full.0 ((empty full.0).1 (full.1, full.2))

pub one_bytes : (files : Files) (path x y : List ℕ) → ReadsBytes files path x → ReadsBytes files path y → x ≡ y
one_bytes files path x y a b = same_some x y (get files path) a.1 b.1

pub there_or_absent : (files : Files) (path bytes : List ℕ) → ReadsBytes files path bytes → get files path ≡ None → ⊥
there_or_absent files path bytes reads absent = let is = reads.1 in cc

pub long_or_absent : (files : Files) (path : List ℕ) → IsLong files path → get files path ≡ None → ⊥
long_or_absent files path long absent = subst (λ (o : Option (List ℕ)). IsSomeAnd o (λ b. most_bytes < length b)) absent long
