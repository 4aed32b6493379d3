-- The written set mirrors the original.
use Rattle.std.proofs.Common.{◌≡◌, ◌≢◌, ℕ, zero, suc, ◌+◌, ◌*◌, ◌-◌, ◌≤◌, ℤ, Bool, true, false, List, [], ◌∷◌, length, take, Option, Some, None, refl, sym, ap, ◌∙◌, subst, inl, inr, ⊎_elim, arith}
use Rattle.std.specs.Prelude.{◌⊎◌, ◌&&◌, cond, map, is_none}
use Rattle.std.specs.List.{list_all}
use Rattle.std.specs.Str.{chars}
use Rattle.class_model.specs.declared.class.CodeDef.{CodeDef}
use Rattle.class_model.specs.declared.class.MethodDef.{MethodDef}
use Rattle.class_model.specs.declared.class.ClassDef.{ClassDef}
use Rattle.run_state.specs.declared.config.Config.{Config}
use Rattle.run_state.specs.Texts.{same_text}
use Rattle.run_state.specs.State.{State}
use Rattle.run_state.specs.Tags.{plain, tagged}
use Rattle.run_state.specs.References.{given}
use Rattle.run_state.specs.SetLooks.{class_named, method_of, method_where, is_main, main_of, looks_of}
use Rattle.run_state.specs.Step.{run}
use Rattle.run_state.specs.Observation.{HasMain, seen, start, plain_at, tagged_at, plain_obs, tagged_obs}
use Rattle.profile_check.specs.declared.profile.Names.TheVariants.{Source}
use Rattle.small_base.specs.Members.{object_name, native_name}
use Rattle.first_form.specs.FormOne.{main_method, FormOne}
use Rattle.small_base.specs.Base.{object_class, native_class, small_base}
use Rattle.first_form.specs.Base.{report_class}
use Rattle.first_form.specs.FirstSet.{IsFirstSet, IsFirstConfig}
use Rattle.instrument_set.specs.declared.marks.Marks.{Marks}
use Rattle.instrument_set.specs.Marking.{marks_of}
use Rattle.instrument_set.specs.Written.{written_code, written_method, written_class}
use Rattle.instrument_set.specs.WrittenSet.{comes_before, insert_class, written_base, with_written, written_set}
use Rattle.instrument_set.specs.Mirrors.{Mirrors}
use Rattle.instrument_set.proofs.Looking.{same_text_same, same_text_other, Found, main_found, nothing_begins}
use Rattle.instrument_set.proofs.Resolving.{natives_found, report_found}
use Rattle.instrument_set.proofs.Apart.{Others, not_report, form_apart, report_other, not_object, not_native, object_found, native_found}
use Rattle.instrument_set.proofs.Formed.{take_none}
use Rattle.instrument_set.proofs.Marked.{are_marks, main_is_quiet}
use Rattle.instrument_set.proofs.Straight.{code_fine}
use Rattle.instrument_set.proofs.Sim.{Setting}
use Rattle.instrument_set.proofs.Root.{main_areas, seen_first, seen_second, enters}
use Rattle.instrument_set.proofs.Whole.{AreMains, main_mirrors}

either_way : (b : Bool) → (b ≡ true) ⊎ (b ≡ false)
either_way true = inl refl
either_way false = inr refl

-- ---- a class among others

found_behind : (b : Bool) (c d e : ClassDef) (es inserted : List ClassDef) → same_text d.name c.name ≡ false → Found (e ∷ es) c → (Found es c → Found inserted c)
    → Found (cond b (d ∷ e ∷ es) (e ∷ inserted)) c
found_behind true c d e es inserted other h later = inr (other, h)
found_behind false c d e es inserted other h later = ⊎_elim (λ same. inl same) (λ q. inr (q.0, later q.1)) h

pub found_inserted : (c d : ClassDef) (ds : List ClassDef) → same_text d.name c.name ≡ false → Found ds c → Found (insert_class d ds) c
found_inserted c d [] other h = absurd h
found_inserted c d (e ∷ es) other h = found_behind (comes_before d e) c d e es (insert_class d es) other h (found_inserted c d es other)

abbrev NoneNamed : List ClassDef → List ℕ → Type 0
NoneNamed [] name = Unit {0}
NoneNamed (d ∷ ds) name = (same_text d.name name ≡ false) × NoneNamed ds name

inserted_here : (b : Bool) (d e : ClassDef) (es inserted : List ClassDef) → same_text e.name d.name ≡ false → Found inserted d → Found (cond b (d ∷ e ∷ es) (e ∷ inserted)) d
inserted_here true d e es inserted other h = inl refl
inserted_here false d e es inserted other h = inr (other, h)

pub inserted_found : (d : ClassDef) (ds : List ClassDef) → NoneNamed ds d.name → Found (insert_class d ds) d
inserted_found d [] none = inl refl
inserted_found d (e ∷ es) none = inserted_here (comes_before d e) d e es (insert_class d es) none.0 (inserted_found d es none.1)

length_either : (b : Bool) (d e : ClassDef) (es inserted : List ClassDef) → length inserted ≡ suc (length es) → length (cond b (d ∷ e ∷ es) (e ∷ inserted)) ≡ suc (suc (length es))
length_either true d e es inserted h = refl
length_either false d e es inserted h = ap suc h

length_inserted : (d : ClassDef) (ds : List ClassDef) → length (insert_class d ds) ≡ suc (length ds)
length_inserted d [] = refl
length_inserted d (e ∷ es) = length_either (comes_before d e) d e es (insert_class d es) (length_inserted d es)

-- none of classes that are apart has the name
none_named : (ds : List ClassDef) (name : List ℕ) → Others ds name → NoneNamed ds name
none_named [] name others = tt
none_named (d ∷ ds) name others = (same_text_other d.name name (λ e. others.0 (sym e)), none_named ds name others.1)

-- ---- a set of one class

-- a class without a `main`
abbrev has_no_main : ClassDef → Bool
has_no_main class = is_none (method_where is_main class)

none_is : {A : Type 0} (o : Option A) → is_none o ≡ true → o ≡ None
none_is None h = refl
none_is (Some x) h = absurd cc

and_both : (a b : Bool) → (a && b) ≡ true → (a ≡ true) × (b ≡ true)
and_both true b h = (refl, h)
and_both false b h = absurd cc

main_either : (b : Bool) (d : ClassDef) (found : Option ClassDef) → method_where is_main d ≡ None → given found None (method_where is_main) ≡ None → given (cond b (Some d) found) None (method_where is_main) ≡ None
main_either true d found here rest = here
main_either false d found here rest = rest

none_has_main : (main : List ℕ) (ds : List ClassDef) → list_all has_no_main ds ≡ true → given (class_named ds main) None (method_where is_main) ≡ None
none_has_main main [] h = refl
none_has_main main (d ∷ ds) h =
    let both = and_both (has_no_main d) (list_all has_no_main ds) h in
    main_either (same_text d.name main) d (class_named ds main) (none_is (method_where is_main d) both.0) (none_has_main main ds both.1)

-- no class of the small base has a `main`
base_has_no_main : list_all has_no_main small_base ≡ true
unfolding small_base chars
base_has_no_main = refl

base_without_main : (main : List ℕ) → main_of small_base main ≡ None
base_without_main main = none_has_main main small_base base_has_no_main

main_is_here : (class : ClassDef) (main : List ℕ) → HasMain (class ∷ small_base) main → main ≡ class.name
main_is_here class main has =
    ⊎_elim
    (λ same. sym (same_text_same class.name main same))
    (λ other. absurd (let q : None ≡ Some has.method = sym (base_without_main main) ∙ ap (λ (b : Bool). given (cond b (Some class) (class_named small_base main)) None (method_where is_main)) (sym other) ∙ has.found in cc))
    (either_way (same_text class.name main))

-- ---- what is found beside a written class

object_beside : Found written_base object_class
unfolding chars report_class
object_beside = found_inserted object_class report_class small_base refl object_found

native_beside : Found written_base native_class
unfolding chars report_class
native_beside = found_inserted native_class report_class small_base refl native_found

report_beside : Found written_base report_class
report_beside = inserted_found report_class small_base (none_named small_base report_class.name report_other)

module _ (config : Config) (first : IsFirstConfig config) (class : ClassDef) (form : FormOne Source class) where
  abbrev marks : Marks
  marks = marks_of config

  abbrev set : List ClassDef
  set = class ∷ small_base

  abbrev new_class : ClassDef
  new_class = written_class marks class

  abbrev new_set : List ClassDef
  new_set = insert_class new_class written_base

  abbrev new_code : CodeDef
  new_code = written_code marks form.code

  base_found : (c : ClassDef) → class.name ≢ c.name → Found small_base c → Found set c
  base_found c other h = inr (same_text_other class.name c.name other, h)

  object_there : Found set object_class
  object_there = base_found object_class (not_object class form) object_found

  native_there : Found set native_class
  native_there = base_found native_class (not_native class form) native_found

  count : length set ≡ suc (suc 20)
  unfolding small_base
  count = refl

  new_object_there : Found new_set object_class
  new_object_there = found_inserted object_class new_class written_base (same_text_other class.name object_name (not_object class form)) object_beside

  new_native_there : Found new_set native_class
  new_native_there = found_inserted native_class new_class written_base (same_text_other class.name native_name (not_native class form)) native_beside

  new_report_there : Found new_set report_class
  new_report_there = found_inserted report_class new_class written_base (same_text_other class.name report_class.name (not_report class form)) report_beside

  new_class_there : Found new_set new_class
  new_class_there = inserted_found new_class written_base (none_named written_base class.name (form_apart class form))

  new_count : length new_set ≡ suc (suc 21)
  unfolding small_base
  new_count = length_inserted new_class written_base ∙ ap suc (length_inserted report_class small_base)

  new_only : new_class.methods ≡ main_method new_code ∷ []
  new_only = ap (λ (ms : List MethodDef). map (written_method marks) ms) form.only_main

  abbrev setting : Setting
  setting = record {
    old = looks_of set class.name;
    new = looks_of new_set class.name;
    config = config;
    marks = marks;
    main = method_of class (main_method form.code);
    written = method_of new_class (main_method new_code);
    words = form.code.max_stack;
    front = 2 * (form.code.max_locals + form.code.max_stack);
    areas = main_areas plain (looks_of new_set class.name) new_set;
  }

  are_mains : AreMains setting
  unfolding chars
  are_mains = record {
    params = refl;
    written_params = refl;
    locals = form.straight.local_of_words;
    written_locals = refl;
    code = refl;
    front = refl;
  }

  old_main : (looks_of set class.name).main ≡ Some (method_of class (main_method form.code))
  old_main = main_found set class form.code (inl refl) form.only_main

  new_main : (looks_of new_set class.name).main ≡ Some (method_of new_class (main_method new_code))
  new_main = main_found new_set new_class new_code new_class_there new_only

  old_begins : (looks_of set class.name).starts class.name ≡ []
  old_begins = nothing_begins set class form.code 20 count (inl refl) object_there form.header.super_name form.only_main

  new_begins : (looks_of new_set class.name).starts class.name ≡ []
  new_begins = nothing_begins new_set new_class new_code 21 new_count new_class_there new_object_there form.header.super_name new_only

  -- every number of steps of the original's main
  runs_mirror : (input : List ℕ) (n : ℕ) → (m : ℕ) × (n ≤ m)
      × (seen (run plain (looks_of new_set class.name) m (start plain new_set input)) ≡ seen (run (tagged config) (looks_of set class.name) n (start (tagged config) set input)))
  runs_mirror input zero = (0, omega arith, refl)
  runs_mirror input (suc zero) = (
    1,
    omega arith,
    seen_first plain (looks_of new_set class.name) new_set input (method_of new_class (main_method new_code)) new_main new_begins
        ∙ sym (seen_first (tagged config) (looks_of set class.name) set input (method_of class (main_method form.code)) old_main old_begins),
  )
  runs_mirror input (suc (suc zero)) = (
    2,
    omega arith,
    seen_second plain (looks_of new_set class.name) new_set input (method_of new_class (main_method new_code)) new_main new_begins
        ∙ sym (seen_second (tagged config) (looks_of set class.name) set input (method_of class (main_method form.code)) old_main old_begins),
  )
  runs_mirror input (suc (suc (suc turns))) =
      let natives = natives_found set class.name 20 count native_there object_there in
      let new_natives = natives_found new_set class.name 21 new_count new_native_there new_object_there in
      let report = report_found new_set class.name 21 new_count new_report_there new_object_there in
      let a = main_mirrors setting are_mains natives new_natives report (are_marks config first) (code_fine form.code form.straight) input (main_areas (tagged config) (looks_of set class.name) set) turns in (
        suc (suc (suc a.0)),
        omega (arith, a.1),
        ap (λ (s : State (Unit {0})). seen (run plain (looks_of new_set class.name) a.0 s))
            (enters plain (looks_of new_set class.name) new_set input (method_of new_class (main_method new_code)) new_main new_begins (λ ts. refl))
            ∙ a.2
            ∙ sym (ap (λ (s : State ℤ). seen (run (tagged config) (looks_of set class.name) turns s))
            (enters (tagged config) (looks_of set class.name) set input (method_of class (main_method form.code)) old_main old_begins (main_is_quiet config class form.code first (not_native class form)))),
      )

  class_shows : (main : List ℕ) → main ≡ class.name → (input : List ℕ) (n : ℕ) → (m : ℕ) × (n ≤ m) × (plain_obs new_set main input m ≡ tagged_obs set config main input n)
  unfolding plain_obs plain_at tagged_obs tagged_at
  class_shows main is input n =
      subst (λ (name : List ℕ). (m : ℕ) × (n ≤ m) × (plain_obs new_set name input m ≡ tagged_obs set config name input n)) (sym is) (runs_mirror input n)

  class_mirrors : Mirrors set config new_set
  class_mirrors = record {
    mains = λ main aside has. subst (λ (name : List ℕ). HasMain new_set name) (sym (main_is_here class main has)) (record { method = method_of new_class (main_method new_code); found = new_main });
    shows = λ main aside has input bytes n. class_shows main (main_is_here class main has) input n;
  }

base_mirrors : (config : Config) (written : List ClassDef) → Mirrors small_base config written
base_mirrors config written = record {
  mains = λ main aside has. absurd (let q : None ≡ Some has.method = sym (base_without_main main) ∙ has.found in cc);
  shows = λ main aside has input bytes n. absurd (let q : None ≡ Some has.method = sym (base_without_main main) ∙ has.found in cc);
}

-- the classes before the small base
front_of_one : (class : ClassDef) (xs : List ClassDef) → take (length (class ∷ xs) - length xs) (class ∷ xs) ≡ class ∷ []
front_of_one class xs = let one : length (class ∷ xs) - length xs ≡ 1 = omega arith in ap (λ (n : ℕ). take n (class ∷ xs)) one ∙ ap (λ (ys : List ClassDef). class ∷ ys) (take_none xs)

pub written_one : (marks : Marks) (class : ClassDef) → written_set marks (class ∷ small_base) ≡ insert_class (written_class marks class) written_base
written_one marks class = ap (with_written marks) (front_of_one class small_base)

pub mirrors : (set : List ClassDef) (config : Config) → IsFirstSet set → IsFirstConfig config → Mirrors set config (written_set (marks_of config) set)
mirrors set config first lists =
    ⊎_elim
    (λ (e : set ≡ small_base). subst (λ (s : List ClassDef). Mirrors s config (written_set (marks_of config) s)) (sym e) (base_mirrors config (written_set (marks_of config) small_base)))
    (λ (q : (class : ClassDef) × (set ≡ class ∷ small_base) × FormOne Source class).
    subst (λ (s : List ClassDef). Mirrors s config (written_set (marks_of config) s)) (sym q.1)
    (subst (λ (w : List ClassDef). Mirrors (q.0 ∷ small_base) config w) (sym (written_one (marks_of config) q.0)) (class_mirrors config lists q.0 q.2)))
    first
