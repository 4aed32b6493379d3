-- The first answer along a list, part by part.
use Rattle.std.proofs.Common.{◌≡◌, ◌∙◌, ℕ, ◌+◌, ◌<◌, ◌≤◌, List, [], ◌∷◌, ◌++◌, length, get_or, drop, map, refl, sym, ap, subst, Option, Some, None}
use Rattle.std.specs.Prelude.{Result, Ok, Err, IsErrAnd, flat_map}
use Rattle.std.specs.Option.{option_or}
use Rattle.std.proofs.lemmas.List.{at_drop_more, at_drop_all}
use Rattle.profile_check.specs.declared.profile.OutOfProfile.{OutOfProfile}
use Rattle.profile_check.specs.declared.profile.ProfileStop.{ProfileStop}
use Rattle.profile_check.specs.declared.profile.ProfileStop.TheVariants.{Out, Memory}
use Rattle.profile_check.specs.declared.rule.Rule.{Rule}
use Rattle.profile_check.specs.declared.rule.Place.{Place}
use Rattle.profile_check.specs.declared.walk.Walk.{Walk}
use Rattle.profile_check.specs.Answer.{Tells, Refuses}
use Rattle.profile_check.specs.First.{first, flat_from}
use Rattle.profile_check.specs.Mentions.{Mention, Placed, placed}
use Rattle.profile_check.specs.Walks.{judge, judge_placed}

pub first_nil : {A B : Type 0} (f : A → Option B) → first f [] ≡ None
unfolding first
first_nil f = refl

pub first_cons : {A B : Type 0} (f : A → Option B) (x : A) (xs : List A) → first f (x ∷ xs) ≡ option_or (f x) (first f xs)
unfolding first
first_cons f x xs = refl

or_none : {A : Type 0} (x : Option A) → option_or x None ≡ x
or_none None = refl
or_none (Some x) = refl

pub first_one : {A B : Type 0} (f : A → Option B) (x : A) → first f (x ∷ []) ≡ f x
unfolding first
first_one f x = or_none (f x)

or_or : {A : Type 0} (x y z : Option A) → option_or (option_or x y) z ≡ option_or x (option_or y z)
or_or None y z = refl
or_or (Some x) y z = refl

pub first_append : {A B : Type 0} (f : A → Option B) (xs ys : List A) → first f (xs ++ ys) ≡ option_or (first f xs) (first f ys)
unfolding first
first_append f [] ys = refl
first_append f (x ∷ xs) ys = ap (option_or (f x)) (first_append f xs ys) ∙ sym (or_or (f x) (first f xs) (first f ys))

-- a refusal stays the first
pub refuses_or : (stop : ProfileStop) (x y : Option OutOfProfile) → Refuses stop x → Refuses stop (option_or x y)
refuses_or (Out fault) x y h = ap (λ z. option_or z y) h
refuses_or Memory x y h = tt

-- an answer that hands a refusal on
pub tells_err : {C : Type 0} (r : Result C ProfileStop) (stop : ProfileStop) (found : Option OutOfProfile) → IsErrAnd r (λ e. e ≡ stop) → Refuses stop found → Tells r found
tells_err (Ok x) stop found is h = absurd is
tells_err (Err e) stop found is h = subst (λ s. Refuses s found) (sym is) h

-- where nothing is refused, what follows decides
pub tells_after : {A : Type 0} (r : Result A ProfileStop) (x y : Option OutOfProfile) → x ≡ None → Tells r y → Tells r (option_or x y)
tells_after r x y e h = subst (λ z. Tells r (option_or z y)) (sym e) h

-- the same of things in one place, and of things with their place
pub first_placed : (rule : Rule) (place : Place) (mentions : List Mention) → first (judge_placed rule) (placed place mentions) ≡ first (judge rule place) mentions
unfolding first
first_placed rule place [] = refl
first_placed rule place (x ∷ xs) = ap (option_or (judge rule place x)) (first_placed rule place xs)

-- a list whose first item answers nothing, or is refused
pub tells_cons : {A C : Type 0} (f : A → Option OutOfProfile) (x : A) (xs : List A) (r : Result C ProfileStop) → f x ≡ None → Tells r (first f xs) → Tells r (first f (x ∷ xs))
tells_cons f x xs r e h = subst (Tells r) (sym (first_cons f x xs)) (tells_after r (f x) (first f xs) e h)

pub refuses_cons : {A : Type 0} (f : A → Option OutOfProfile) (x : A) (xs : List A) (stop : ProfileStop) → Refuses stop (f x) → Refuses stop (first f (x ∷ xs))
refuses_cons f x xs stop h = subst (Refuses stop) (sym (first_cons f x xs)) (refuses_or stop (f x) (first f xs) h)

pub tells_one : {A C : Type 0} (f : A → Option OutOfProfile) (x : A) (r : Result C ProfileStop) → Tells r (f x) → Tells r (first f (x ∷ []))
tells_one f x r h = subst (Tells r) (sym (first_one f x)) h

-- a list whose front answers nothing, or is refused
pub tells_append : {A C : Type 0} (f : A → Option OutOfProfile) (xs ys : List A) (r : Result C ProfileStop) → first f xs ≡ None → Tells r (first f ys) → Tells r (first f (xs ++ ys))
tells_append f xs ys r e h = subst (Tells r) (sym (first_append f xs ys)) (tells_after r (first f xs) (first f ys) e h)

pub refuses_append : {A : Type 0} (f : A → Option OutOfProfile) (xs ys : List A) (stop : ProfileStop) → Refuses stop (first f xs) → Refuses stop (first f (xs ++ ys))
refuses_append f xs ys stop h = subst (Refuses stop) (sym (first_append f xs ys)) (refuses_or stop (first f xs) (first f ys) h)

-- a loop over things that each give some of a list: `part` is what one gives, `whole` what a list of them does
pub loop_more : {A : Type 0} (whole : List A → Option OutOfProfile) (xs : List A) (i : ℕ) (x : A) (here : Option OutOfProfile) → i < length xs → x ≡ get_or xs i x → ((rest : List A) → whole (x ∷ rest) ≡ option_or here (whole rest)) → whole xs ≡ whole (drop i xs) → here ≡ None → whole xs ≡ whole (drop (i + 1) xs)
loop_more whole xs i x here lt is step so_far none =
    so_far ∙ at_drop_more whole xs i x lt ∙ ap (λ y. whole (y ∷ drop (i + 1) xs)) (sym is) ∙ step (drop (i + 1) xs) ∙ ap (λ z. option_or z (whole (drop (i + 1) xs))) none

pub loop_refused : {A : Type 0} (whole : List A → Option OutOfProfile) (xs : List A) (i : ℕ) (x : A) (here : Option OutOfProfile) (stop : ProfileStop) → i < length xs → x ≡ get_or xs i x → ((rest : List A) → whole (x ∷ rest) ≡ option_or here (whole rest)) → whole xs ≡ whole (drop i xs) → Refuses stop here → Refuses stop (whole xs)
loop_refused whole xs i x here stop lt is step so_far h =
    subst (Refuses stop) (sym (so_far ∙ at_drop_more whole xs i x lt ∙ ap (λ y. whole (y ∷ drop (i + 1) xs)) (sym is) ∙ step (drop (i + 1) xs))) (refuses_or stop here (whole (drop (i + 1) xs)) h)

pub loop_done : {A : Type 0} (whole : List A → Option OutOfProfile) (xs : List A) (i : ℕ) → length xs ≤ i → whole xs ≡ whole (drop i xs) → whole [] ≡ None → whole xs ≡ None
loop_done whole xs i le so_far nil = so_far ∙ at_drop_all whole xs i le ∙ nil

pub first_map : {A B C : Type 0} (f : B → Option C) (g : A → B) (x : A) (rest : List A) → first f (map g (x ∷ rest)) ≡ option_or (f (g x)) (first f (map g rest))
unfolding first
first_map f g x rest = refl

pub first_flat : {A B C : Type 0} (f : B → Option C) (g : A → List B) (x : A) (rest : List A) → first f (flat_map g (x ∷ rest)) ≡ option_or (first f (g x)) (first f (flat_map g rest))
first_flat f g x rest = first_append f (g x) (flat_map g rest)

-- the same of things that are counted from a number on
pub numbered_more : {A : Type 0} (whole : ℕ → List A → Option OutOfProfile) (total : Option OutOfProfile) (xs : List A) (i at next : ℕ) (x : A) (here : Option OutOfProfile) → i < length xs → x ≡ get_or xs i x → next ≡ at + 1 → ((rest : List A) → whole at (x ∷ rest) ≡ option_or here (whole (at + 1) rest)) → total ≡ whole at (drop i xs) → here ≡ None → total ≡ whole next (drop (i + 1) xs)
numbered_more whole total xs i at next x here lt is after step so_far none =
    so_far ∙ at_drop_more (whole at) xs i x lt ∙ ap (λ y. whole at (y ∷ drop (i + 1) xs)) (sym is) ∙ step (drop (i + 1) xs)
    ∙ ap (λ z. option_or z (whole (at + 1) (drop (i + 1) xs))) none ∙ ap (λ n. whole n (drop (i + 1) xs)) (sym after)

pub numbered_refused : {A : Type 0} (whole : ℕ → List A → Option OutOfProfile) (total : Option OutOfProfile) (xs : List A) (i at : ℕ) (x : A) (here : Option OutOfProfile) (stop : ProfileStop) → i < length xs → x ≡ get_or xs i x → ((rest : List A) → whole at (x ∷ rest) ≡ option_or here (whole (at + 1) rest)) → total ≡ whole at (drop i xs) → Refuses stop here → Refuses stop total
numbered_refused whole total xs i at x here stop lt is step so_far h =
    subst (Refuses stop) (sym (so_far ∙ at_drop_more (whole at) xs i x lt ∙ ap (λ y. whole at (y ∷ drop (i + 1) xs)) (sym is) ∙ step (drop (i + 1) xs))) (refuses_or stop here (whole (at + 1) (drop (i + 1) xs)) h)

pub numbered_done : {A : Type 0} (whole : ℕ → List A → Option OutOfProfile) (total : Option OutOfProfile) (xs : List A) (i at : ℕ) → length xs ≤ i → total ≡ whole at (drop i xs) → whole at [] ≡ None → total ≡ None
numbered_done whole total xs i at le so_far nil = so_far ∙ at_drop_all (whole at) xs i le ∙ nil

pub first_from_nil : {A B C : Type 0} (f : B → Option C) (g : ℕ → A → List B) (at : ℕ) → first f (flat_from g at []) ≡ None
unfolding first flat_from
first_from_nil f g at = refl

pub first_from_cons : {A B C : Type 0} (f : B → Option C) (g : ℕ → A → List B) (at : ℕ) (x : A) (rest : List A) → first f (flat_from g at (x ∷ rest)) ≡ option_or (first f (g at x)) (first f (flat_from g (at + 1) rest))
unfolding flat_from
first_from_cons f g at x rest = first_append f (g at x) (flat_from g (at + 1) rest)

-- what a row at a place finds, told of things with their place
pub tells_walked : {C : Type 0} (rule : Rule) (place : Place) (walk : Walk) (mentions : List Mention) (r : Result C ProfileStop) → walk ≡ record { rule = rule; place = place } → Tells r (first (judge walk.rule walk.place) mentions) → Tells r (first (judge_placed rule) (placed place mentions))
tells_walked rule place walk mentions r e h =
    subst (Tells r) (sym (first_placed rule place mentions)) (subst (λ (w : Walk). Tells r (first (judge w.rule w.place) mentions)) e h)

pub none_walked : (rule : Rule) (place : Place) (walk : Walk) (mentions : List Mention) → walk ≡ record { rule = rule; place = place } → first (judge walk.rule walk.place) mentions ≡ None → first (judge_placed rule) (placed place mentions) ≡ None
none_walked rule place walk mentions e h =
    first_placed rule place mentions ∙ subst (λ (w : Walk). first (judge w.rule w.place) mentions ≡ None) e h

pub refuses_walked : (rule : Rule) (place : Place) (walk : Walk) (mentions : List Mention) (stop : ProfileStop) → walk ≡ record { rule = rule; place = place } → Refuses stop (first (judge walk.rule walk.place) mentions) → Refuses stop (first (judge_placed rule) (placed place mentions))
refuses_walked rule place walk mentions stop e h =
    subst (Refuses stop) (sym (first_placed rule place mentions)) (subst (λ (w : Walk). Refuses stop (first (judge w.rule w.place) mentions)) e h)
