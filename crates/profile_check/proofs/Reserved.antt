-- Where a part stands in a name.
use Rattle.std.proofs.Common.{◌≡◌, ◌∙◌, ℕ, ◌+◌, ◌<◌, ◌≤◌, Bool, true, false, ◌||◌, List, [], ◌∷◌, length, get_or, take, drop, sym, ap, subst, length-drop, ◌-◌, arith}
use Rattle.std.specs.Prelude.{nat_eq}
use Rattle.std.specs.List.{starts_with}
use Rattle.std.proofs.lemmas.List.{at_drop_more, take_all}
use Rattle.profile_check.specs.Names.{holds, is_reserved}

rest_of : (name : List ℕ) (i : ℕ) → take (length name - i) (drop i name) ≡ drop i name
rest_of name i = take_all (length name - i) (drop i name) (let e = length-drop i name in omega (arith, e))

-- what a test says of the rest of a name, told of the slice
of_rest : (part name : List ℕ) (i : ℕ) (answer : Bool) → starts_with nat_eq (take (length name - i) (drop i name)) part ≡ answer → starts_with nat_eq (drop i name) part ≡ answer
of_rest part name i answer e = subst (λ rest. starts_with nat_eq rest part ≡ answer) (rest_of name i) e

-- the name from a place on begins with the part
pub found_here : (part name : List ℕ) (i : ℕ) → i < length name → starts_with nat_eq (take (length name - i) (drop i name)) part ≡ true → holds part (drop i name) ≡ true
found_here part name i lt e =
    at_drop_more (holds part) name i 0 lt
    ∙ ap (λ b. b || holds part (drop (i + 1) name)) (sym (at_drop_more (λ rest. starts_with nat_eq rest part) name i 0 lt) ∙ of_rest part name i _ e)

-- or does not, and what follows decides
pub found_later : (part name : List ℕ) (i : ℕ) → i < length name → starts_with nat_eq (take (length name - i) (drop i name)) part ≡ false → holds part (drop i name) ≡ holds part (drop (i + 1) name)
found_later part name i lt e =
    at_drop_more (holds part) name i 0 lt
    ∙ ap (λ b. b || holds part (drop (i + 1) name)) (sym (at_drop_more (λ rest. starts_with nat_eq rest part) name i 0 lt) ∙ of_rest part name i _ e)
