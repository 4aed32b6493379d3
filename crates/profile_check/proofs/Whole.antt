-- What the whole check says, from what it finds.
use Rattle.std.proofs.Common.{◌≡◌, ◌∙◌, ℕ, ◌<◌, zero, suc, List, [], ◌∷◌, length, get_or, refl, sym, ap, Option, Some, None, inl, inr, arith}
use Rattle.std.specs.Prelude.{Result, Ok, Err, All, OnOk, MatchResult, ◌⊎◌, ⊤}
use Rattle.std.specs.Option.{option_or}
use Rattle.std.proofs.lemmas.Option.{same_Some}
use Rattle.profile_check.specs.declared.profile.OutOfProfile.{OutOfProfile}
use Rattle.profile_check.specs.declared.profile.ProfileStop.{ProfileStop}
use Rattle.profile_check.specs.declared.profile.ProfileStop.TheVariants.{Out, Memory}
use Rattle.profile_check.specs.Answer.{Tells}
use Rattle.profile_check.specs.First.{first}
use Rattle.profile_check.proofs.First.{first_cons, first_nil}

or_left : {A : Type 0} (x y : Option A) → option_or x y ≡ None → x ≡ None
or_left None y h = refl
or_left (Some x) y h = h

or_right : {A : Type 0} (x y : Option A) → option_or x y ≡ None → y ≡ None
or_right None y h = h
or_right (Some x) y h = cc

pub all_none : {A B : Type 0} (f : A → Option B) (xs : List A) → first f xs ≡ None → All (λ x. f x ≡ None) xs
all_none f [] h = λ k d lt. absurd (omega arith)
all_none f (x ∷ xs) h = λ k. elim k as (λ k. (d : _) → k < length (x ∷ xs) → f (get_or (x ∷ xs) k d) ≡ None) [
  | zero ↦ λ d lt. or_left _ _ (sym (first_cons f x xs) ∙ h)
  | suc k ↦ λ d lt. all_none f xs (or_right (f x) _ (sym (first_cons f x xs) ∙ h)) k d (omega arith)
]

pub first_none : {A B : Type 0} (f : A → Option B) (xs : List A) → All (λ x. f x ≡ None) xs → first f xs ≡ None
first_none f [] h = first_nil f
first_none f (x ∷ xs) h =
    first_cons f x xs ∙ ap (λ z. option_or z (first f xs)) (h 0 x (omega arith)) ∙ first_none f xs (λ k d lt. h (suc k) d (omega arith))

pub ok_from : {A P : Type 0} (r : Result A ProfileStop) (found : Option OutOfProfile) → Tells r found → (found ≡ None → P) → OnOk r P
ok_from (Ok x) found h gives = gives h
ok_from (Err stop) found h gives = tt

pub passes_from : {A : Type 0} (r : Result A ProfileStop) (found : Option OutOfProfile) → Tells r found → found ≡ None → MatchResult r (λ _. ⊤) (λ stop. stop ≡ Memory)
passes_from (Ok x) found h none = tt
passes_from (Err (Out fault)) found h none = cc
passes_from (Err Memory) found h none = refl

pub refused_from : {A : Type 0} (r : Result A ProfileStop) (found : Option OutOfProfile) (fault : OutOfProfile) → Tells r found → found ≡ Some fault → MatchResult r (λ _. ⊥) (λ stop. (stop ≡ Out fault) ⊎ (stop ≡ Memory))
refused_from (Ok x) found fault h some = cc
refused_from (Err (Out other)) found fault h some = inl (ap Out (same_Some other fault (sym h ∙ some)))
refused_from (Err Memory) found fault h some = inr refl
