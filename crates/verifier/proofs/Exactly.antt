-- The answers of the check of a method.
use Rattle.std.proofs.Common.{◌≡◌, ◌<◌, List, length, refl, sym, ap, ◌∙◌, subst, Option, Some, None, Result, Ok, Err, inl, inr}
use Rattle.std.specs.Prelude.{slice_get, option_map, option_and_then, IfOk, IfErr, IfSome, IsSome}
use Rattle.std.proofs.lemmas.Option.{slice_get_within}
use Rattle.class_model.specs.declared.class.ClassDef.{ClassDef}
use Rattle.class_model.specs.declared.class.MethodDef.{MethodDef}
use Rattle.class_model.specs.declared.class.CodeDef.{CodeDef}
use Rattle.set_lookups.specs.declared.ids.MethodId.{MethodId}
use Rattle.type_rows.specs.Method.{Method}
use Rattle.verifier.specs.declared.typed_code.VerifyStop.{VerifyStop}
use Rattle.verifier.specs.declared.typed_code.VerifyStop.TheVariants.{Unverified, Memory}
use Rattle.verifier.specs.Verifies.{Stops}
use Rattle.verifier.specs.Typed.{Typed, IsTyped}
use Rattle.verifier.specs.Exact.{Exact}
use Rattle.verifier.specs.Set.{with_code, method_in, method_from, method_of}
use Rattle.verifier.proofs.Apart.{apart, one_failure}

pub exact : (m : Method) (result : Result Typed VerifyStop) → IfOk result (IsTyped m) → IfErr result (Stops m) → Exact m result
exact m (Ok typed) ok err = record {
  ok = ok;
  unverified = λ at rule e. cc;
  passes = λ v. tt;
  refused = λ at rule f. apart m at rule f (typed.frames, ok.frames_are);
}
exact m (Err (Unverified at rule)) ok err = record {
  ok = tt;
  unverified = λ other unlike e. let one : Unverified at rule ≡ Unverified other unlike = cc in subst (λ stop. Stops m stop) one err;
  passes = λ v. absurd (apart m at rule err v);
  refused = λ other unlike f. let same = one_failure m at other rule unlike err f in inl (ap (λ k. Unverified k rule) same.0 ∙ ap (λ r. Unverified other r) same.1);
}
exact m (Err Memory) ok err = record {
  ok = tt;
  unverified = λ at rule e. cc;
  passes = λ v. refl;
  refused = λ at rule f. inr refl;
}

module _ (set : List ClassDef) (id : MethodId) where
  pub class_there : (o : Option ClassDef) → slice_get set id.class ≡ o → IsSome (option_and_then (method_from set id) o) → id.class < length set
  class_there None e h = cc
  class_there (Some class) e h = slice_get_within set id.class class e

  pub class_within : IsSome (method_of set id) → id.class < length set
  class_within h = class_there (slice_get set id.class) refl h

  in_class : (class : ClassDef) → slice_get set id.class ≡ Some class → method_of set id ≡ method_from set id class
  in_class class e = ap (option_and_then (method_from set id)) e

  method_there : (class : ClassDef) (o : Option MethodDef) → slice_get class.methods id.index ≡ o → IsSome (option_and_then (method_in set id.class class) o) → id.index < length class.methods
  method_there class None e h = cc
  method_there class (Some method) e h = slice_get_within class.methods id.index method e

  pub method_within : (class : ClassDef) → slice_get set id.class ≡ Some class → IsSome (method_of set id) → id.index < length class.methods
  method_within class e h = method_there class (slice_get class.methods id.index) refl (subst (λ o. IsSome o) (in_class class e) h)

  in_method : (class : ClassDef) (method : MethodDef) → slice_get set id.class ≡ Some class → slice_get class.methods id.index ≡ Some method → method_of set id ≡ method_in set id.class class method
  in_method class method e f = in_class class e ∙ ap (option_and_then (method_in set id.class class)) f

  pub method_is : (class : ClassDef) (method : MethodDef) (code : CodeDef) → slice_get set id.class ≡ Some class → slice_get class.methods id.index ≡ Some method → method.code ≡ Some code → method_of set id ≡ Some (with_code set id.class class method code)
  method_is class method code e f g = in_method class method e f ∙ ap (option_map (with_code set id.class class method)) g

  pub found : (P : Method → Type 0) (class : ClassDef) (method : MethodDef) (code : CodeDef) → slice_get set id.class ≡ Some class → slice_get class.methods id.index ≡ Some method → method.code ≡ Some code → P (with_code set id.class class method code) → IfSome (method_of set id) P
  found P class method code e f g p = subst (λ o. IfSome o P) (sym (method_is class method code e f g)) p
