-- What the passes together say of the load.
use Rattle.std.proofs.Common.{◌≡◌, ◌∙◌, ◌<◌, ◌≤◌, List, length, Result, Ok, Err, refl, sym, subst, arith, inl, inr}
use Rattle.std.specs.Prelude.{All, IfOk, MatchResult, ◌⊎◌, ◌≢◌}
use Rattle.std.specs.List.{AllZip}
use Rattle.std.proofs.lemmas.Option.{slice_get_within}
use Rattle.std.proofs.lemmas.Slice.Zip.{AllZip-long}
use Rattle.class_model.specs.declared.class.ClassDef.{ClassDef}
use Rattle.class_set.specs.declared.fault.SetFault.TheVariants as faults
use Rattle.class_set.specs.Closed.{Closed}
use Rattle.profile_check.specs.declared.profile.Names.{Names}
use Rattle.profile_check.specs.Profile as profile
use Rattle.verifier.specs.WholeSet.{SetVerifies}
use Rattle.set_loader.specs.declared.file.File.{File}
use Rattle.set_loader.specs.declared.stop.LoadStop.{LoadStop}
use Rattle.set_loader.specs.declared.stop.LoadStop.TheVariants.{Bad, Profile, Set, Unverified, Memory}
use Rattle.set_loader.specs.Loads.{IsFileOf, with_base, Loads, Refuses, IsDue, IsWithin}
use Rattle.set_loader.specs.Passes.{IsReadFrom, RefusesDecoding, RefusesProfile, RefusesSet, RefusesTypes}
use Rattle.set_loader.proofs.Files.{classes_read}
use Rattle.set_loader.proofs.Bases.{all_in_profile}
use Rattle.set_loader.proofs.Sets.{no_memory}
use Rattle.set_loader.proofs.Refusals.{loads_or_refused, one_set, one_refusal}

pub few_classes : (files : List File) (classes : List ClassDef) → length files ≤ 1000000 → AllZip IsReadFrom files classes → length classes ≤ 1000000
few_classes files classes few read = let same = AllZip-long IsReadFrom files classes read in omega (arith, few, same)

-- ---- the refusal of a pass is that of the load

pub decoding_refused : (names : Names) (files : List File) (stop : LoadStop) → RefusesDecoding files stop → Refuses names files stop
decoding_refused names files (Bad number place kind) h = h
decoding_refused names files (Profile number fault) h = absurd h
decoding_refused names files (Set fault) h = absurd h
decoding_refused names files (Unverified class name desc at rule) h = absurd h
decoding_refused names files Memory h = tt

pub profile_refused : (names : Names) (files : List File) (classes : List ClassDef) (stop : LoadStop) → AllZip IsReadFrom files classes → RefusesProfile names classes stop → Refuses names files stop
profile_refused names files classes (Bad number place kind) read h = absurd h
profile_refused names files classes (Profile number fault) read h = record { classes = classes; read = classes_read files classes read; first = h }
profile_refused names files classes (Set fault) read h = absurd h
profile_refused names files classes (Unverified class name desc at rule) read h = absurd h
profile_refused names files classes Memory read h = tt

pub set_refused : (names : Names) (files : List File) (classes : List ClassDef) (stop : LoadStop) → AllZip IsReadFrom files classes → All (profile.Profile names) classes
    → RefusesSet (with_base classes) stop → Refuses names files stop
set_refused names files classes (Bad number place kind) read inside h = absurd h
set_refused names files classes (Profile number fault) read inside h = absurd h
set_refused names files classes (Set fault) read inside h = record { classes = classes; read = classes_read files classes read; in_profile = inside; first = h }
set_refused names files classes (Unverified class name desc at rule) read inside h = absurd h
set_refused names files classes Memory read inside h = tt

types_refused : (names : Names) (files : List File) (classes : List ClassDef) (stop : LoadStop) → AllZip IsReadFrom files classes → All (profile.Profile names) classes
    → Closed (with_base classes) → RefusesTypes (with_base classes) stop → Refuses names files stop
types_refused names files classes (Bad number place kind) read inside closed h = absurd h
types_refused names files classes (Profile number fault) read inside closed h = absurd h
types_refused names files classes (Set fault) read inside closed h = absurd h
types_refused names files classes (Unverified class name desc at rule) read inside closed h =
    record { classes = classes; read = classes_read files classes read; in_profile = inside; closed = closed; first = h }
types_refused names files classes Memory read inside closed h = tt

-- the last pass ends the load
pub types_judged : (names : Names) (files : List File) (classes set : List ClassDef) (result : Result (List ClassDef) LoadStop) → AllZip IsReadFrom files classes → All (profile.Profile names) classes
    → set ≡ with_base classes → Closed set → MatchResult result (λ verified. (verified ≡ set) × SetVerifies set) (RefusesTypes set) → MatchResult result (Loads names files) (Refuses names files)
types_judged names files classes set (Ok verified) read inside is closed h = record {
  classes = classes;
  read = classes_read files classes read;
  in_profile = inside;
  completed = h.0 ∙ is;
  closed = subst Closed (sym h.0) closed;
  verified = subst SetVerifies (sym h.0) h.1;
}
types_judged names files classes set (Err stop) read inside is closed h =
    types_refused names files classes stop read inside (subst Closed is closed) (subst (λ (cs : List ClassDef). RefusesTypes cs stop) is h)

-- what is so of the set is so of what is loaded
pub types_kept : (P : List ClassDef → Type 0) (set : List ClassDef) (result : Result (List ClassDef) LoadStop) → P set
    → MatchResult result (λ verified. (verified ≡ set) × SetVerifies set) (RefusesTypes set) → IfOk result P
types_kept P set (Ok verified) so h = subst P (sym h.0) so
types_kept P set (Err stop) so h = tt

-- ---- the answer is the only one

abbrev pub Answers : Names → List File → Result (List ClassDef) LoadStop → Type 0
Answers names files result = MatchResult result (Loads names files) (Refuses names files)

memory_alone : (names : Names) (files : List File) (set : List ClassDef) (stop : LoadStop) → Loads names files set → Refuses names files stop → stop ≡ Memory
memory_alone names files set (Bad number place kind) loads h = absurd (loads_or_refused names files set (Bad number place kind) loads tt h)
memory_alone names files set (Profile number fault) loads h = absurd (loads_or_refused names files set (Profile number fault) loads tt h)
memory_alone names files set (Set fault) loads h = absurd (loads_or_refused names files set (Set fault) loads tt h)
memory_alone names files set (Unverified class name desc at rule) loads h = absurd (loads_or_refused names files set (Unverified class name desc at rule) loads tt h)
memory_alone names files set Memory loads h = refl

pub whole : (names : Names) (files : List File) (result : Result (List ClassDef) LoadStop) → Answers names files result → (set : List ClassDef) → Loads names files set
    → MatchResult result (λ found. found ≡ set) (λ stop. stop ≡ Memory)
whole names files (Ok found) answer set loads = one_set names files found set answer loads
whole names files (Err stop) answer set loads = memory_alone names files set stop loads answer

told_or_memory : (names : Names) (files : List File) (stop told : LoadStop) → IsDue stop → Refuses names files stop → Refuses names files told → (told ≡ stop) ⊎ (told ≡ Memory)
told_or_memory names files stop (Bad number place kind) is_due refused h = inl (one_refusal names files (Bad number place kind) stop tt is_due h refused)
told_or_memory names files stop (Profile number fault) is_due refused h = inl (one_refusal names files (Profile number fault) stop tt is_due h refused)
told_or_memory names files stop (Set fault) is_due refused h = inl (one_refusal names files (Set fault) stop tt is_due h refused)
told_or_memory names files stop (Unverified class name desc at rule) is_due refused h = inl (one_refusal names files (Unverified class name desc at rule) stop tt is_due h refused)
told_or_memory names files stop Memory is_due refused h = inr refl

pub due : (names : Names) (files : List File) (result : Result (List ClassDef) LoadStop) → Answers names files result → (stop : LoadStop) → IsDue stop → Refuses names files stop
    → MatchResult result (λ _. ⊥) (λ told. (told ≡ stop) ⊎ (told ≡ Memory))
due names files (Ok set) answer stop is_due refused = loads_or_refused names files set stop answer is_due refused
due names files (Err told) answer stop is_due refused = told_or_memory names files stop told is_due refused answer

-- the classes of what is loaded are in the profile, the base too
pub in_profile : (names : Names) (files : List File) (result : Result (List ClassDef) LoadStop) → Answers names files result → IfOk result (All (profile.Profile names))
in_profile names files (Ok set) answer = all_in_profile names answer.classes set answer.in_profile answer.completed
in_profile names files (Err stop) answer = tt

no_such_fault : (names : Names) (files : List File) → Refuses names files (Set faults.Memory) → ⊥
no_such_fault names files refused = no_memory (with_base refused.classes) refused.first

pub told : (names : Names) (files : List File) (result : Result (List ClassDef) LoadStop) → Answers names files result → result ≢ Err (Set faults.Memory)
told names files result answer = λ is. no_such_fault names files (subst (Answers names files) is answer)

-- a refusal tells one of the files, if it tells one
pub told_within : (names : Names) (files : List File) (stop : LoadStop) → Refuses names files stop → IsWithin stop (length files)
told_within names files (Bad n p k) h = slice_get_within files n h.file h.stands
told_within names files (Profile n f) h =
    let count = AllZip-long IsFileOf files h.classes h.read in
    let inside : n < length h.classes = slice_get_within h.classes n h.first.class h.first.stands in
    omega (arith, count, inside)
told_within names files (Set f) h = tt
told_within names files (Unverified class name desc at rule) h = tt
told_within names files Memory h = tt
