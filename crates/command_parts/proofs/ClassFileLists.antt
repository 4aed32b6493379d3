-- The class files of a folder, as far as they were read.
use Rattle.std.proofs.Common.{◌≡◌, ◌≢◌, ◌∙◌, ℕ, suc, ◌+◌, ◌<◌, ◌≤◌, List, [], ◌∷◌, ◌++◌, length, get_or, take, drop, not, Option, Some, None, refl, sym, ap, subst, arith}
use Rattle.std.specs.Prelude.{Contains, IfSome, IsSome, Result, Ok}
use Rattle.std.specs.FinMap.{get}
use Rattle.std.specs.List.{AllZip, filter}
use Rattle.std.proofs.Math.Seq.{split_at}
use Rattle.std.proofs.lemmas.List.{take_all, take_more}
use Rattle.std.proofs.lemmas.List.Elements.{All-nil, All-push, All-contains, All-filter, All-contains_itself, Contains-get_or}
use Rattle.std.proofs.lemmas.List.Filters.{length-filter_both}
use Rattle.outside_io.specs.Files.{Files, Stay, AreBelow, most_bytes, most_files}
use Rattle.command_parts.specs.Folders.{below, HasFew, HasMany, HasFile, RefusesFull, IsFileAt, AreFilesAt, AreShort, is_class_path, ReadsFile, ReadsClassFiles, IsLong, RefusesList, RefusesRead, RefusesClassFiles}
use Rattle.command_parts.specs.Looks.{Looked}
use Rattle.set_loader.specs.declared.file.File.{File}
use Rattle.command_parts.specs.declared.stop.Stop.{Stop}
use Rattle.command_parts.specs.declared.stop.Stop.TheVariants.{ListFault, ReadFault, TooManyFiles, FileTooLong, NoFile, NotEmpty, Memory}

-- the class files of these paths were read
pub record ReadSoFar (files : Files) (dir : List ℕ) (classes : List (List ℕ)) (list : List File) : Type 0 where
  pub at : AreFilesAt files dir classes list
  pub short : AreShort list

-- what is said of files that are told now was said of them before
pub told_before : (m n : Option Files) (P : Files → Type 0) → Stay m n → IfSome n P → IfSome m P
told_before None n P stay h = tt
told_before (Some m) None P stay h = absurd stay
told_before (Some m) (Some n) P stay h = subst P stay h

stay_on : (m n o : Option Files) → Stay m n → Stay n o → Stay m o
stay_on None n o a b = tt
stay_on (Some m) None o a b = absurd a
stay_on (Some m) (Some n) None a b = absurd b
stay_on (Some m) (Some n) (Some o) a b = b ∙ a

-- one more call that only looked
pub looked_on : {T : Type 0} (m n o : Option Files) (r s t v w x : ℕ) (result : Result T Stop) → Looked {T = Unit {0}} m n r s v w (Ok tt) → Looked n o s t w x result → Looked {T = Unit {0}} m o r t v x (Ok tt)
looked_on m n o r s t v w x result a b = record {
  kept = stay_on m n o a.kept b.kept;
  reads = omega (arith, a.reads, b.reads);
  writes = omega (arith, a.writes, b.writes);
  cause = tt;
}

AllZip-push : {A B : Type 0} (R : A → B → Type 0) (xs : List A) (ys : List B) (x : A) (y : B) → AllZip R xs ys → R x y → AllZip R (xs ++ x ∷ []) (ys ++ y ∷ [])
AllZip-push R [] [] x y all one = (one, tt)
AllZip-push R [] (b ∷ ys) x y all one = absurd all
AllZip-push R (a ∷ xs) [] x y all one = absurd all
AllZip-push R (a ∷ xs) (b ∷ ys) x y all one = (all.0, AllZip-push R xs ys x y all.1 one)

pub none_read : (told : Option Files) (dir : List ℕ) → IfSome told (λ files. ReadSoFar files dir [] [])
none_read None dir = tt
none_read (Some files) dir = record { at = tt; short = All-nil (λ (file : File). length file.bytes ≤ most_bytes) }

pub read_more : (told : Option Files) (dir : List ℕ) (classes : List (List ℕ)) (i : ℕ) (path : List ℕ) (list : List File) (file : File)
    → i < length classes → path ≡ get_or classes i path → IfSome told (λ files. ReadSoFar files dir (take i classes) list)
    → IfSome told (λ files. ReadsFile files dir path file) → IfSome told (λ files. ReadSoFar files dir (take (i + 1) classes) (list ++ file ∷ []))
read_more None dir classes i path list file within is so reads = tt
read_more (Some files) dir classes i path list file within is so reads =
    let next : take (i + 1) classes ≡ take i classes ++ path ∷ [] = take_more classes i path within ∙ ap (λ (p : List ℕ). take i classes ++ p ∷ []) (sym is) in
    record {
      at = subst (λ (ps : List (List ℕ)). AreFilesAt files dir ps (list ++ file ∷ [])) (sym next) (AllZip-push (IsFileAt files dir) (take i classes) list path file so.at reads.0);
      short = All-push (λ (f : File). length f.bytes ≤ most_bytes) list file so.short reads.1;
    }

pub all_read : (told : Option Files) (dir : List ℕ) (paths classes : List (List ℕ)) (i : ℕ) (list : List File) → classes ≡ filter is_class_path paths → length classes ≤ i
    → IfSome told (λ files. HasFew files dir paths) → IfSome told (λ files. ReadSoFar files dir (take i classes) list) → IfSome told (λ files. ReadsClassFiles files dir list)
all_read None dir paths classes i list are past few so = tt
all_read (Some files) dir paths classes i list are past few so = record {
  paths = paths;
  few = few;
  at = subst (λ (ps : List (List ℕ)). AreFilesAt files dir ps list) (take_all i classes past ∙ are) so.at;
  short = so.short;
}

pub few_classes : (dir : List ℕ) (paths classes : List (List ℕ)) → classes ≡ filter is_class_path paths → length paths ≤ most_files → length classes ≤ most_files
few_classes dir paths classes are few = omega (arith, ap length are, length-filter_both is_class_path (λ (path : List ℕ). not (is_class_path path)) (λ path. refl) paths)

pub list_stops : (told : Option Files) (dir : List ℕ) (stop : Stop) → IfSome told (λ files. RefusesList files dir stop) → IfSome told (λ files. RefusesClassFiles files dir stop)
list_stops None dir stop h = tt
list_stops (Some files) dir (ListFault at) h = h
list_stops (Some files) dir (TooManyFiles at) h = h
list_stops (Some files) dir Memory h = h
list_stops (Some files) dir _ h = absurd h

some_is_not_none : (found : Option (List ℕ)) → IsSome found → found ≡ None → ⊥
some_is_not_none None some none = cc
some_is_not_none (Some bytes) some none = cc

-- a listed class file is there
is_there : (files : Files) (dir : List ℕ) (paths classes : List (List ℕ)) (i : ℕ) (path : List ℕ) → classes ≡ filter is_class_path paths → i < length classes → path ≡ get_or classes i path
    → AreBelow dir files paths → IsSome (get files (below dir path))
is_there files dir paths classes i path are within is all =
    let kept : Contains (filter is_class_path paths) path = subst (λ (ps : List (List ℕ)). Contains ps path) are (subst (λ (p : List ℕ). Contains classes p) (sym is) (Contains-get_or classes i path within)) in
    ((all path).0 (All-contains (Contains paths) (filter is_class_path paths) path (All-filter is_class_path (Contains paths) paths (All-contains_itself paths)) kept)).1

pub read_stops : (told : Option Files) (dir : List ℕ) (paths classes : List (List ℕ)) (i : ℕ) (path : List ℕ) (list : List File) (stop : Stop)
    → classes ≡ filter is_class_path paths → i < length classes → path ≡ get_or classes i path
    → IfSome told (λ files. HasFew files dir paths) → IfSome told (λ files. ReadSoFar files dir (take i classes) list)
    → IfSome told (λ files. RefusesRead files (below dir path) path stop) → IfSome told (λ files. RefusesClassFiles files dir stop)
read_stops None dir paths classes i path list stop are within is few so h = tt
read_stops (Some files) dir paths classes i path list (ReadFault at) are within is few so h = h
read_stops (Some files) dir paths classes i path list (FileTooLong whole) are within is few so h = record {
  paths = paths;
  few = few;
  front = take i classes;
  path = path;
  back = drop (suc i) classes;
  split = sym are ∙ split_at classes i path within ∙ ap (λ (p : List ℕ). take i classes ++ p ∷ drop (suc i) classes) (sym is);
  list = list;
  at = so.at;
  short = so.short;
  named = h.0;
  long = subst (λ (w : List ℕ). IsLong files w) (sym h.0) h.1;
}
read_stops (Some files) dir paths classes i path list (NoFile at) are within is few so h = absurd (some_is_not_none (get files (below dir path)) (is_there files dir paths classes i path are within is few.all) h.1)
read_stops (Some files) dir paths classes i path list Memory are within is few so h = h
read_stops (Some files) dir paths classes i path list _ are within is few so h = absurd h

-- a folder of which a path is listed holds a file
full : (files : Files) (dir : List ℕ) (paths : List (List ℕ)) → AreBelow dir files paths → 0 < length paths → HasFile files dir
full files dir [] all some = absurd (omega arith)
full files dir (path ∷ paths) all some = let there = (all path).0 (0, omega arith, refl) in (path, there.0, there.1)

pub full_list : (told : Option Files) (dir : List ℕ) (paths : List (List ℕ)) → IfSome told (λ files. HasFew files dir paths) → paths ≢ [] → IfSome told (λ files. HasFile files dir)
full_list None dir paths few some = tt
full_list (Some files) dir [] few some = absurd (some refl)
full_list (Some files) dir (path ∷ paths) few some = full files dir (path ∷ paths) few.all (omega arith)

pub full_many : (told : Option Files) (dir at : List ℕ) → IfSome told (λ files. (at ≡ dir) × HasMany files dir) → IfSome told (λ files. HasFile files dir)
full_many None dir at many = tt
full_many (Some files) dir at many = full files dir many.1.paths many.1.all (omega arith)

pub named_full : (told : Option Files) (dir name : List ℕ) → name ≡ dir → IfSome told (λ files. HasFile files dir) → IfSome told (λ files. RefusesFull files dir (NotEmpty name))
named_full None dir name is full = tt
named_full (Some files) dir name is full = (is, full)
