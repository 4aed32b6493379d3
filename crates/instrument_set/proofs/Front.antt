-- The classes before the small base, and what is written of them.
use Rattle.std.proofs.Common.{◌≡◌, ◌∙◌, ℕ, ◌-◌, ◌<◌, ◌≤◌, List, [], ◌∷◌, ◌++◌, length, take, get_or, refl, sym, ap, subst, ⊎_elim, arith, length-append}
use Rattle.std.specs.Prelude.{◌⊎◌, IfSome, slice_get}
use Rattle.std.proofs.Math.Seq.{take-append_seam}
use Rattle.class_model.specs.declared.class.ClassDef.{ClassDef}
use Rattle.profile_check.specs.declared.profile.Names.TheVariants.{Source}
use Rattle.small_base.specs.Base.{small_base}
use Rattle.first_form.specs.FormOne.{FormOne}
use Rattle.first_form.specs.FirstSet.{IsFirstSet}
use Rattle.instrument_set.specs.declared.marks.Marks.{Marks}
use Rattle.instrument_set.specs.Written.{written_class}
use Rattle.instrument_set.specs.WrittenSet.{insert_class, written_base, with_written, written_set}

-- the first of them, where there is one, is of the form
abbrev pub IsFront : List ClassDef → Type 0
IsFront classes = IfSome (slice_get classes 0) (FormOne Source)

-- of classes that stand before the small base in a set that is built
pub front_formed : (classes set : List ClassDef) → set ≡ classes ++ small_base → IsFirstSet set → IsFront classes
front_formed [] set is first = tt
front_formed (c ∷ cs) set is first =
    ⊎_elim
    (λ (e : set ≡ small_base). absurd (let n = ap length (sym is ∙ e) in omega (arith, n, length-append cs small_base)))
    (λ (q : (class : ClassDef) × (set ≡ class ∷ small_base) × FormOne Source class).
    subst (λ (d : ClassDef). FormOne Source d) (ap (λ (xs : List ClassDef). get_or xs 0 c) (sym q.1 ∙ is)) q.2)
    first

pub first_formed : (classes : List ClassDef) (class : ClassDef) → 1 ≤ length classes → class ≡ get_or classes 0 class → IsFront classes → FormOne Source class
first_formed [] class some is front = absurd (omega arith)
first_formed (c ∷ cs) class some is front = subst (λ (d : ClassDef). FormOne Source d) (sym is) front

-- the written set, by those classes
pub front_written : (marks : Marks) (classes set : List ClassDef) → set ≡ classes ++ small_base → with_written marks classes ≡ written_set marks set
front_written marks classes set is =
    let long : length set - length small_base ≡ length classes = omega (arith, ap length is, length-append classes small_base) in
    ap (with_written marks)
    (sym (ap (λ (n : ℕ). take n set) long ∙ ap (λ (xs : List ClassDef). take (length classes) xs) is ∙ take-append_seam classes small_base))

pub one_written : (marks : Marks) (classes : List ClassDef) (class : ClassDef) → 1 ≤ length classes → class ≡ get_or classes 0 class → insert_class (written_class marks class) written_base ≡ with_written marks classes
one_written marks [] class some is = absurd (omega arith)
one_written marks (c ∷ cs) class some is = ap (λ (d : ClassDef). insert_class (written_class marks d) written_base) is

pub none_written : (marks : Marks) (classes : List ClassDef) → length classes < 1 → written_base ≡ with_written marks classes
none_written marks [] none = refl
none_written marks (c ∷ cs) none = absurd (omega arith)
