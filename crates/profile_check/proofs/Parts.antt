-- The parts of a class name, unit by unit.
use Rattle.std.proofs.Common.{◌≡◌, ◌∙◌, ℕ, Bool, true, false, ◌||◌, cond, List, [], ◌∷◌, refl, sym, ap, subst}
use Rattle.std.specs.List.{list_any}
use Rattle.profile_check.specs.Names.{is_mark, is_slash, is_bad_part, parts_of, into_first}

-- of what is left of a name where the part at its front has units already
abbrev pub bad_after : List (List ℕ) → Bool
bad_after [] = false
bad_after (part ∷ parts) = list_any is_mark part || list_any is_bad_part parts

-- of what is left of a name, behind an empty part or behind units of one
abbrev pub bad_rest : Bool → List ℕ → Bool
bad_rest true units = list_any is_bad_part (parts_of units)
bad_rest false units = bad_after (parts_of units)

pub slash_again : (unit : ℕ) (units : List ℕ) → is_slash unit ≡ true → bad_rest true (unit ∷ units) ≡ true
slash_again unit units e = ap (λ b. list_any is_bad_part (cond b ([] ∷ parts_of units) (into_first unit (parts_of units)))) e

pub slash_after : (unit : ℕ) (units : List ℕ) → is_slash unit ≡ true → bad_rest false (unit ∷ units) ≡ bad_rest true units
slash_after unit units e = ap (λ b. bad_after (cond b ([] ∷ parts_of units) (into_first unit (parts_of units)))) e

front_marked : (unit : ℕ) (parts : List (List ℕ)) → is_mark unit ≡ true → list_any is_bad_part (into_first unit parts) ≡ true
front_marked unit [] e = ap (λ b. (b || false) || false) e
front_marked unit (part ∷ parts) e = ap (λ b. (b || list_any is_mark part) || list_any is_bad_part parts) e

after_marked : (unit : ℕ) (parts : List (List ℕ)) → is_mark unit ≡ true → bad_after (into_first unit parts) ≡ true
after_marked unit [] e = ap (λ b. (b || false) || false) e
after_marked unit (part ∷ parts) e = ap (λ b. (b || list_any is_mark part) || list_any is_bad_part parts) e

front_other : (unit : ℕ) (parts : List (List ℕ)) → is_mark unit ≡ false → list_any is_bad_part (into_first unit parts) ≡ bad_after parts
front_other unit [] e = ap (λ b. (b || false) || false) e
front_other unit (part ∷ parts) e = ap (λ b. (b || list_any is_mark part) || list_any is_bad_part parts) e

after_other : (unit : ℕ) (parts : List (List ℕ)) → is_mark unit ≡ false → bad_after (into_first unit parts) ≡ bad_after parts
after_other unit [] e = ap (λ b. (b || false) || false) e
after_other unit (part ∷ parts) e = ap (λ b. (b || list_any is_mark part) || list_any is_bad_part parts) e

pub marked : (empty : Bool) (unit : ℕ) (units : List ℕ) → is_slash unit ≡ false → is_mark unit ≡ true → bad_rest empty (unit ∷ units) ≡ true
marked true unit units s m = ap (λ b. list_any is_bad_part (cond b ([] ∷ parts_of units) (into_first unit (parts_of units)))) s ∙ front_marked unit (parts_of units) m
marked false unit units s m = ap (λ b. bad_after (cond b ([] ∷ parts_of units) (into_first unit (parts_of units)))) s ∙ after_marked unit (parts_of units) m

pub other : (empty : Bool) (unit : ℕ) (units : List ℕ) → is_slash unit ≡ false → is_mark unit ≡ false → bad_rest empty (unit ∷ units) ≡ bad_rest false units
other true unit units s m = ap (λ b. list_any is_bad_part (cond b ([] ∷ parts_of units) (into_first unit (parts_of units)))) s ∙ front_other unit (parts_of units) m
other false unit units s m = ap (λ b. bad_after (cond b ([] ∷ parts_of units) (into_first unit (parts_of units)))) s ∙ after_other unit (parts_of units) m
