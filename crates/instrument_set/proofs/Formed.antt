-- The classes of the written set are of the form again.
use Rattle.std.proofs.Common.{◌≡◌, ◌∙◌, ℕ, suc, ◌-◌, Bool, true, false, List, [], ◌∷◌, length, take, refl, ap, arith}
use Rattle.std.specs.Prelude.{cond, map, All}
use Rattle.std.proofs.lemmas.List.Elements.{All-cons}
use Rattle.class_model.specs.declared.class.MethodDef.{MethodDef}
use Rattle.class_model.specs.declared.class.ClassDef.{ClassDef}
use Rattle.profile_check.specs.declared.profile.Names.TheVariants.{Source, Written}
use Rattle.first_form.specs.FormOne.{FormOne}
use Rattle.small_base.specs.Base.{small_base}
use Rattle.instrument_set.specs.declared.marks.Marks.{Marks}
use Rattle.instrument_set.specs.Written.{written_code, written_method, written_class}
use Rattle.instrument_set.specs.WrittenSet.{comes_before, insert_class, written_base, with_written, written_set}
use Rattle.instrument_set.proofs.Typed.{written_straight}

-- the written class is of the form, with the names of written classes
pub written_form : (marks : Marks) (class : ClassDef) → FormOne Source class → FormOne Written (written_class marks class)
written_form marks class form = record {
  header = record {
    major_from = form.header.major_from;
    major_to = form.header.major_to;
    flags = form.header.flags;
    super_name = form.header.super_name;
    no_interface = form.header.no_interface;
    no_field = form.header.no_field;
    no_source = form.header.no_source;
    no_inner = form.header.no_inner;
  };
  code = written_code marks form.code;
  only_main = ap (λ (ms : List MethodDef). map (written_method marks) ms) form.only_main;
  straight = written_straight marks form.code form.straight;
  kept = tt;
}

pub all_none : (P : ClassDef → Type 0) → All P []
all_none P = λ k d l. absurd (omega arith)

all_rest : (P : ClassDef → Type 0) (x : ClassDef) (xs : List ClassDef) → All P (x ∷ xs) → All P xs
all_rest P x xs h = λ k d l. h (suc k) d (omega arith)

all_either : (P : ClassDef → Type 0) (b : Bool) (d e : ClassDef) (es inserted : List ClassDef) → P d → All P (e ∷ es) → All P inserted → All P (cond b (d ∷ e ∷ es) (e ∷ inserted))
all_either P true d e es inserted here rest more = All-cons P d (e ∷ es) here rest
all_either P false d e es inserted here rest more = All-cons P e inserted (rest 0 e (omega arith)) more

pub all_inserted : (P : ClassDef → Type 0) (d : ClassDef) (ds : List ClassDef) → P d → All P ds → All P (insert_class d ds)
all_inserted P d [] here rest = All-cons P d [] here (all_none P)
all_inserted P d (e ∷ es) here rest = all_either P (comes_before d e) d e es (insert_class d es) here rest (all_inserted P d es here (all_rest P e es rest))

pub take_none : (xs : List ClassDef) → take 0 xs ≡ []
take_none [] = refl
take_none (x ∷ xs) = refl

-- the small base alone
pub base_alone : (marks : Marks) → written_set marks small_base ≡ written_base
base_alone marks =
    let none : length small_base - length small_base ≡ 0 = omega arith in
    ap (with_written marks) (ap (λ (n : ℕ). take n small_base) none ∙ take_none small_base)
