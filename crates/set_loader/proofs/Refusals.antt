-- Files load as one set or have one refusal, and not both.
use Rattle.std.proofs.Common.{◌≡◌, ◌∙◌, ℕ, zero, suc, ◌<◌, List, [], ◌∷◌, take, Option, Some, None, refl, sym, ap, subst, arith}
use Rattle.std.specs.Prelude.{All, slice_get}
use Rattle.std.specs.List.{AllZip}
use Rattle.std.proofs.lemmas.Option.{same_Some}
use Rattle.std.proofs.lemmas.List.Elements.{All-head, All-tail}
use Rattle.class_input.specs.declared.bad_class.BadKind.{BadKind}
use Rattle.class_model.specs.declared.class.ClassDef.{ClassDef}
use Rattle.profile_check.specs.declared.profile.Names.{Names}
use Rattle.profile_check.specs.declared.profile.OutOfProfile.{OutOfProfile}
use Rattle.profile_check.specs.Profile as profile
use Rattle.profile_check.proofs.Whole.{first_none}
use Rattle.class_set.specs.declared.fault.SetFault.{SetFault}
use Rattle.class_set.specs.Closed.{Closed}
use Rattle.class_set.specs.Faults.{first_fault}
use Rattle.verifier.specs.WholeSet.{SetVerifies}
use Rattle.verifier.proofs.Whole.{set_apart}
use Rattle.type_rows.specs.declared.rule.VerifyRule.{VerifyRule}
use Rattle.set_loader.specs.declared.file.File.{File}
use Rattle.set_loader.specs.declared.stop.LoadStop.{LoadStop}
use Rattle.set_loader.specs.declared.stop.LoadStop.TheVariants.{Bad, Profile, Set, Unverified, Memory}
use Rattle.set_loader.specs.Loads.{IsBad, IsFileOf, Decodes, with_base, Loads, IsFirstBad, IsFirstOut, IsOut, IsFaulty, IsFirstFailing, Refuses, IsDue}
use Rattle.set_loader.proofs.Reading.{class_or_bad, bad_once}
use Rattle.set_loader.proofs.Files.{decode_all, one_list}
use Rattle.set_loader.proofs.Sets.{no_fault}
use Rattle.set_loader.proofs.Methods.{one_failing}

-- ---- lists

holds_at : {A : Type 0} (P : A → Type 0) (xs : List A) (n : ℕ) (x : A) → All P xs → slice_get xs n ≡ Some x → P x
holds_at P [] n x all is = absurd cc
holds_at P (y ∷ xs) zero x all is = let same : y ≡ x = cc in subst P same (All-head P y xs all)
holds_at P (y ∷ xs) (suc n) x all is = holds_at P xs n x (All-tail P y xs all) is

get_take : {A : Type 0} (xs : List A) (n m : ℕ) → n < m → slice_get (take m xs) n ≡ slice_get xs n
get_take [] n zero h = absurd (omega (arith, h))
get_take [] n (suc m) h = refl
get_take (x ∷ xs) n zero h = absurd (omega (arith, h))
get_take (x ∷ xs) zero (suc m) h = refl
get_take (x ∷ xs) (suc n) (suc m) h = get_take xs n m (omega (arith, h))

same_number : (n m : ℕ) → (n < m → ⊥) → (m < n → ⊥) → n ≡ m
same_number n m low high = omega (arith, low, high)

-- ---- each pass passes or refuses

no_bad : (files : List File) (n place : ℕ) (kind : BadKind) → All Decodes files → IsFirstBad files n place kind → ⊥
no_bad files n place kind all first =
    let decoded = holds_at Decodes files n first.file all first.stands in
    class_or_bad first.file.bytes decoded.0 place kind decoded.1 first.bad

in_or_out : (names : Names) (class : ClassDef) (fault : OutOfProfile) → profile.Profile names class → profile.FirstProfile names class fault → ⊥
in_or_out names class fault inside out =
    let none = first_none (profile.answer class) (profile.rows names) inside in
    let both : ◌≡◌ {A = Option OutOfProfile} None (Some fault) = sym none ∙ out in absurd cc

no_out : (names : Names) (classes : List ClassDef) (n : ℕ) (fault : OutOfProfile) → All (profile.Profile names) classes → IsFirstOut names classes n fault → ⊥
no_out names classes n fault all first = in_or_out names first.class fault (holds_at (profile.Profile names) classes n first.class all first.stands) first.out

no_set_fault : (set : List ClassDef) (fault : SetFault) → Closed set → first_fault set ≡ Some fault → ⊥
no_set_fault set fault closed first = let both : ◌≡◌ {A = Option SetFault} None (Some fault) = sym (no_fault set closed) ∙ first in absurd cc

no_failing : (set : List ClassDef) (class name desc : List ℕ) (at : ℕ) (rule : VerifyRule) → SetVerifies set → IsFirstFailing set class name desc at rule → ⊥
no_failing set class name desc at rule verified failing = set_apart set failing.id at rule failing.first verified

-- ---- of one list of classes

abbrev Read : List File → List ClassDef → Type 0
Read files classes = AllZip IsFileOf files classes

-- what is so of the classes of files is so of their classes as they were read again
again : (P : List ClassDef → Type 0) (files : List File) (classes others : List ClassDef) → Read files classes → Read files others → P classes → P others
again P files classes others read also h = subst P (one_list files classes others read also) h

-- files that load are not refused
pub loads_or_refused : (names : Names) (files : List File) (set : List ClassDef) (stop : LoadStop) → Loads names files set → IsDue stop → Refuses names files stop → ⊥
loads_or_refused names files set (Bad n place kind) loads due refused = no_bad files n place kind (decode_all files loads.classes loads.read) refused
loads_or_refused names files set (Profile n fault) loads due refused =
    no_out names refused.classes n fault (again (All (profile.Profile names)) files loads.classes refused.classes loads.read refused.read loads.in_profile) refused.first
loads_or_refused names files set (Set fault) loads due refused =
    no_set_fault (with_base refused.classes) fault
    (again (λ cs. Closed (with_base cs)) files loads.classes refused.classes loads.read refused.read (subst Closed loads.completed loads.closed)) refused.first
loads_or_refused names files set (Unverified class name desc at rule) loads due refused =
    no_failing (with_base refused.classes) class name desc at rule
    (again (λ cs. SetVerifies (with_base cs)) files loads.classes refused.classes loads.read refused.read (subst SetVerifies loads.completed loads.verified)) refused.first
loads_or_refused names files set Memory loads due refused = due

-- files load as one set
pub one_set : (names : Names) (files : List File) (set other : List ClassDef) → Loads names files set → Loads names files other → set ≡ other
one_set names files set other loads also =
    loads.completed ∙ ap with_base (one_list files loads.classes also.classes loads.read also.read) ∙ sym also.completed

-- ---- files have one refusal

bad_before : (files : List File) (n m p q : ℕ) (k l : BadKind) → IsFirstBad files n p k → IsFirstBad files m q l → n < m → ⊥
bad_before files n m p q k l a b h =
    let decoded = holds_at Decodes (take m files) n a.file b.earlier (get_take files n m h ∙ a.stands) in
    class_or_bad a.file.bytes decoded.0 p k decoded.1 a.bad

one_bad : (files : List File) (n m p q : ℕ) (k l : BadKind) → IsFirstBad files n p k → IsFirstBad files m q l → Bad n p k ≡ Bad m q l
one_bad files n m p q k l a b =
    let number : n ≡ m = same_number n m (bad_before files n m p q k l a b) (bad_before files m n q p l k b a) in
    let file : a.file ≡ b.file = same_Some a.file b.file (sym a.stands ∙ ap (slice_get files) number ∙ b.stands) in
    let fault = bad_once a.file.bytes p q k l a.bad (subst (λ (f : File). IsBad f.bytes q l) (sym file) b.bad) in
    let place : p ≡ q = fault.0 in
    let kind : k ≡ l = fault.1 in
    cc

out_before : (names : Names) (classes : List ClassDef) (n m : ℕ) (f g : OutOfProfile) → IsFirstOut names classes n f → IsFirstOut names classes m g → n < m → ⊥
out_before names classes n m f g a b h =
    in_or_out names a.class f (holds_at (profile.Profile names) (take m classes) n a.class b.earlier (get_take classes n m h ∙ a.stands)) a.out

one_out : (names : Names) (classes : List ClassDef) (n m : ℕ) (f g : OutOfProfile) → IsFirstOut names classes n f → IsFirstOut names classes m g → Profile n f ≡ Profile m g
one_out names classes n m f g a b =
    let number : n ≡ m = same_number n m (out_before names classes n m f g a b) (out_before names classes m n g f b a) in
    let class : a.class ≡ b.class = same_Some a.class b.class (sym a.stands ∙ ap (slice_get classes) number ∙ b.stands) in
    let out : profile.FirstProfile names b.class f = subst (λ (c : ClassDef). profile.FirstProfile names c f) class a.out in
    let fault : f ≡ g = same_Some f g (sym out ∙ b.out) in
    cc

one_fault : (set : List ClassDef) (f g : SetFault) → first_fault set ≡ Some f → first_fault set ≡ Some g → Set f ≡ Set g
one_fault set f g a b = ap Set (same_Some f g (sym a ∙ b))

-- an earlier pass refuses, or it does not
out_or_in : (names : Names) (files : List File) (n : ℕ) (f : OutOfProfile) (classes : List ClassDef) → IsOut names files n f → Read files classes → All (profile.Profile names) classes → ⊥
out_or_in names files n f classes out read inside =
    no_out names out.classes n f (again (All (profile.Profile names)) files classes out.classes read out.read inside) out.first

faulty_or_closed : (names : Names) (files : List File) (f : SetFault) (classes : List ClassDef) → IsFaulty names files f → Read files classes → Closed (with_base classes) → ⊥
faulty_or_closed names files f classes faulty read closed =
    no_set_fault (with_base faulty.classes) f (again (λ cs. Closed (with_base cs)) files classes faulty.classes read faulty.read closed) faulty.first

-- of two refusals that are due, each is the other
pub one_refusal : (names : Names) (files : List File) (stop other : LoadStop) → IsDue stop → IsDue other → Refuses names files stop → Refuses names files other → stop ≡ other
one_refusal names files (Bad n p k) (Bad m q l) due also h g = one_bad files n m p q k l h g
one_refusal names files (Bad n p k) (Profile m f) due also h g = absurd (no_bad files n p k (decode_all files g.classes g.read) h)
one_refusal names files (Bad n p k) (Set f) due also h g = absurd (no_bad files n p k (decode_all files g.classes g.read) h)
one_refusal names files (Bad n p k) (Unverified class name desc at rule) due also h g = absurd (no_bad files n p k (decode_all files g.classes g.read) h)
one_refusal names files (Profile n f) (Bad m q l) due also h g = absurd (no_bad files m q l (decode_all files h.classes h.read) g)
one_refusal names files (Profile n f) (Profile m e) due also h g =
    one_out names g.classes n m f e (again (λ cs. IsFirstOut names cs n f) files h.classes g.classes h.read g.read h.first) g.first
one_refusal names files (Profile n f) (Set e) due also h g = absurd (out_or_in names files n f g.classes h g.read g.in_profile)
one_refusal names files (Profile n f) (Unverified class name desc at rule) due also h g = absurd (out_or_in names files n f g.classes h g.read g.in_profile)
one_refusal names files (Set f) (Bad m q l) due also h g = absurd (no_bad files m q l (decode_all files h.classes h.read) g)
one_refusal names files (Set f) (Profile m e) due also h g = absurd (out_or_in names files m e h.classes g h.read h.in_profile)
one_refusal names files (Set f) (Set e) due also h g =
    one_fault (with_base g.classes) f e (again (λ cs. first_fault (with_base cs) ≡ Some f) files h.classes g.classes h.read g.read h.first) g.first
one_refusal names files (Set f) (Unverified class name desc at rule) due also h g = absurd (faulty_or_closed names files f g.classes h g.read g.closed)
one_refusal names files (Unverified class name desc at rule) (Bad m q l) due also h g = absurd (no_bad files m q l (decode_all files h.classes h.read) g)
one_refusal names files (Unverified class name desc at rule) (Profile m e) due also h g = absurd (out_or_in names files m e h.classes g h.read h.in_profile)
one_refusal names files (Unverified class name desc at rule) (Set e) due also h g = absurd (faulty_or_closed names files e h.classes g h.read h.closed)
one_refusal names files (Unverified c n d at rule) (Unverified oc on od beside second) due also h g =
    one_failing (with_base g.classes) c n d oc on od at beside rule second
    (again (λ cs. IsFirstFailing (with_base cs) c n d at rule) files h.classes g.classes h.read g.read h.first) g.first
one_refusal names files stop Memory due also h g = absurd also
one_refusal names files Memory other due also h g = absurd due
