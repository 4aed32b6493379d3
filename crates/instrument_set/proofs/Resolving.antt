-- What a reference to a method that its class declares resolves to, and the natives in a set that has them.
use Rattle.std.proofs.Common.{◌≡◌, ℕ, zero, suc, Bool, List, ◌++◌, length, Option, Some, None, refl, ap, sym, ◌∙◌}
use Rattle.std.specs.Prelude.{cond, slice_get, option_map, option_and_then, position}
use Rattle.std.specs.Option.{option_or}
use Rattle.std.specs.List.{position_or_len}
use Rattle.std.proofs.lemmas.Bool.{lt-ltb}
use Rattle.std.proofs.lemmas.List.Folds.{find_at}
use Rattle.std.proofs.lemmas.Option.{slice_get_within}
use Rattle.std.specs.Str.{chars}
use Rattle.class_model.specs.declared.types.MethodDesc.{MethodDesc}
use Rattle.class_model.specs.declared.types.MethodRef.{MethodRef}
use Rattle.class_model.specs.declared.class.ClassDef.{ClassDef}
use Rattle.set_lookups.specs.Above.{same_name, find_class}
use Rattle.set_lookups.specs.First.{first}
use Rattle.set_lookups.specs.Lookups.{member_of, member_in, has_method, method_here, any_method, declared, chain, supers, superinterfaces, method_from, receiver_name, resolve_method}
use Rattle.run_state.specs.Natives as native
use Rattle.run_state.specs.SetLooks.{initializers, method_in, shown_method, resolved, looks_of}
use Rattle.small_base.specs.Base.{object_class, native_class}
use Rattle.first_form.specs.Base.{report_class}
use Rattle.instrument_set.specs.Pieces.{report_ref}
use Rattle.instrument_set.proofs.Natives.{ref_of}
use Rattle.instrument_set.proofs.Sim.{HasNatives, HasReport}
use Rattle.instrument_set.proofs.Looking.{Found, class_found, superclasses_of_two}

-- the number of a class that stands in a set
pub record Stands (set : List ClassDef) (c : ClassDef) : Type 0 where
  pub number : ℕ
  pub found : find_class set c.name ≡ Some number
  pub there : slice_get set number ≡ Some c

pub stands : (set : List ClassDef) (c : ClassDef) → Found set c → Stands set c
stands set c found =
    let test : ClassDef → Bool = λ d. same_name d.name c.name in
    let at : slice_get set (position_or_len test set) ≡ Some c = sym (find_at test set) ∙ class_found set c found in
    record {
      number = position_or_len test set;
      found = ap (λ (b : Bool). cond b (Some (position_or_len test set)) None) (lt-ltb (position_or_len test set) (length set) (slice_get_within set (position_or_len test set) c at));
      there = at;
    }

or_first : {A : Type 0} (x : Option A) (a : A) (rest : Option A) → x ≡ Some a → option_or x rest ≡ Some a
or_first None a rest h = cc
or_first (Some b) a rest h = h

first_here : {A : Type 0} (f : ℕ → Option A) (n : ℕ) (set : List ClassDef) (k : ℕ) (more : List ℕ) (a : A) → f k ≡ Some a → first f (chain n set k ++ more) ≡ Some a
unfolding first chain
first_here f zero set k more a h = or_first (f k) a _ h
first_here f (suc n) set k more a h = or_first (f k) a _ h

-- the class that a reference names declares the method
pub resolved_here : (set : List ClassDef) (c : ClassDef) (ref : MethodRef) (index : ℕ) → Found set c → receiver_name ref.class ≡ Some c.name → position (has_method ref.name ref.desc any_method) c.methods ≡ Some index → resolved set ref ≡ method_in index c
unfolding resolve_method method_from supers
resolved_here set c ref index found named at =
    let s = stands set c found in
    let here : declared set ref.name ref.desc any_method s.number ≡ Some (member_of s.number index) = ap (method_here ref.name ref.desc any_method s.number) s.there ∙ ap (member_in s.number) at in
    ap (λ (name : Option (List ℕ)). option_and_then (shown_method set) (option_and_then (method_from set ref.name ref.desc) (option_and_then (find_class set) name))) named
    ∙ ap (λ (number : Option ℕ). option_and_then (shown_method set) (option_and_then (method_from set ref.name ref.desc) number)) s.found
    ∙ ap (option_and_then (shown_method set)) (first_here (declared set ref.name ref.desc any_method) (length set) set s.number (superinterfaces set s.number) (member_of s.number index) here)
    ∙ ap (option_and_then (method_in index)) s.there

-- the natives of `sys/Native` in a set that has it
pub natives_found : (set : List ClassDef) (main : List ℕ) (n : ℕ) → length set ≡ suc (suc n) → Found set native_class → Found set object_class → HasNatives (looks_of set main)
unfolding chars
natives_found set main n long found object =
    record {
      read = resolved_here set native_class (ref_of native.Read) 0 found refl refl;
      write = resolved_here set native_class (ref_of native.Write) 1 found refl refl;
      begun = ap initializers (superclasses_of_two set n native_class long found object refl);
    }

-- the native that reports in a set that has it
pub report_found : (set : List ClassDef) (main : List ℕ) (n : ℕ) → length set ≡ suc (suc n) → Found set report_class → Found set object_class → HasReport (looks_of set main)
unfolding chars report_class
report_found set main n long found object =
    record {
      found = resolved_here set report_class report_ref 0 found refl refl;
      begun = ap initializers (superclasses_of_two set n report_class long found object refl);
    }
