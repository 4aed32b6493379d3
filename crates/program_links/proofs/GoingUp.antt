-- Going up from a class is its chain of superclasses.
use Rattle.std.proofs.Common.{◌≡◌, ◌∙◌, ℕ, ◌+◌, ◌<◌, zero, suc, List, [], ◌∷◌, ◌++◌, length, refl, sym, ap, subst, Option, Some, None, arith, ◌⊎◌, inl, inr, append_assoc}
use Rattle.std.specs.Prelude.{slice_get, filter_map, flat_map, option_to_list, option_and_then}
use Rattle.std.specs.List.{cons_option}
use Rattle.std.proofs.lemmas.Option.{same_Some, none-some}
use Rattle.class_model.specs.declared.class.ClassDef.{ClassDef}
use Rattle.set_lookups.specs.Above.{find_class, super_of, at_class}
use Rattle.set_lookups.specs.Lookups.{chain, supers}
use Rattle.look_laws.proofs.Alike.{append_none}
use Rattle.look_laws.proofs.Ways.{found_within}
use Rattle.program_links.specs.Upwards.{super_found, next_up, going_up, AreClasses}

going_none : (k : ℕ) (set : List ClassDef) → going_up k set None ≡ []
going_none zero set = refl
going_none (suc k) set = refl

-- what is said of the chain from a class
abbrev Chains : ℕ → List ClassDef → Type 0
Chains k set = (number : ℕ) → chain k set number ≡ going_up (suc k) set (Some number)

found_chain : (k : ℕ) (set : List ClassDef) (found : Option ℕ) → Chains k set → flat_map (chain k set) (cons_option found []) ≡ going_up (suc k) set found
found_chain k set None chains = refl
found_chain k set (Some high) chains = append_none (chain k set high) ∙ chains high

super_chain : (k : ℕ) (set : List ClassDef) (name : Option (List ℕ)) → Chains k set → flat_map (chain k set) (filter_map (find_class set) (option_to_list name)) ≡ going_up (suc k) set (option_and_then (find_class set) name)
super_chain k set None chains = refl
super_chain k set (Some name) chains = found_chain k set (find_class set name) chains

class_chain : (k : ℕ) (set : List ClassDef) (class : Option ClassDef) → Chains k set → flat_map (chain k set) (at_class (super_of set) class) ≡ going_up (suc k) set (option_and_then (super_found set) class)
class_chain k set None chains = refl
class_chain k set (Some class) chains = super_chain k set class.super_name chains

chain_is : (k : ℕ) (set : List ClassDef) → Chains k set
unfolding chain
chain_is zero set number = refl
chain_is (suc k) set number = ap (λ rest. number ∷ rest) (class_chain k set (slice_get set number) (chain_is k set))

pub from_class : (set : List ClassDef) (number left : ℕ) → left ≡ length set + 1 → supers set number ≡ [] ++ going_up left set (Some number)
unfolding supers
from_class set number left e = let n : suc (length set) ≡ left = omega (arith, e) in chain_is (length set) set number ∙ ap (λ k. going_up k set (Some number)) n

pub one_up : (set : List ClassDef) (whole numbers : List ℕ) (at left below : ℕ) → whole ≡ numbers ++ going_up left set (Some at) → left ≡ below + 1 → whole ≡ (numbers ++ at ∷ []) ++ going_up below set (next_up set at)
one_up set whole numbers at left below h e =
    let n : left ≡ suc below = omega (arith, e) in
    h ∙ ap (λ k. numbers ++ going_up k set (Some at)) n ∙ sym (append_assoc numbers (at ∷ []) (going_up below set (next_up set at)))

pub nothing_up : (set : List ClassDef) (whole numbers : List ℕ) (left : ℕ) → whole ≡ numbers ++ going_up left set None → numbers ≡ whole
nothing_up set whole numbers left h = sym (h ∙ ap (λ rest. numbers ++ rest) (going_none left set) ∙ append_none numbers)

pub none_left : (set : List ClassDef) (whole numbers : List ℕ) (left : ℕ) (next : Option ℕ) → whole ≡ numbers ++ going_up left set next → left ≡ 0 → numbers ≡ whole
none_left set whole numbers left next h e = sym (h ∙ ap (λ k. numbers ++ going_up k set next) e ∙ append_none numbers)

in_appended : (numbers : List ℕ) (at k n : ℕ) → slice_get (numbers ++ at ∷ []) k ≡ Some n → (slice_get numbers k ≡ Some n) ⊎ (at ≡ n)
in_appended [] at zero n h = inr (same_Some at n h)
in_appended [] at (suc k) n h = absurd (none-some n h)
in_appended (x ∷ numbers) at zero n h = inl h
in_appended (x ∷ numbers) at (suc k) n h = in_appended numbers at k n h

within_by : (set : List ClassDef) (numbers : List ℕ) (at k n : ℕ) → (slice_get numbers k ≡ Some n) ⊎ (at ≡ n) → AreClasses set numbers → at < length set → n < length set
within_by set numbers at k n (inl h) are lt = are k n h
within_by set numbers at k n (inr e) are lt = subst (λ m. m < length set) e lt

pub one_more : (set : List ClassDef) (numbers : List ℕ) (at : ℕ) → AreClasses set numbers → at < length set → AreClasses set (numbers ++ at ∷ [])
one_more set numbers at are lt = λ k n h. within_by set numbers at k n (in_appended numbers at k n h) are lt

pub no_classes : (set : List ClassDef) → AreClasses set []
no_classes set = λ k n h. absurd (none-some n h)

-- a superclass is in the set
name_within : (set : List ClassDef) (name : Option (List ℕ)) (n : ℕ) → option_and_then (find_class set) name ≡ Some n → n < length set
name_within set None n h = absurd (none-some n h)
name_within set (Some name) n h = found_within set name n h

class_within : (set : List ClassDef) (class : Option ClassDef) (n : ℕ) → option_and_then (super_found set) class ≡ Some n → n < length set
class_within set None n h = absurd (none-some n h)
class_within set (Some class) n h = name_within set class.super_name n h

pub up_within : (set : List ClassDef) (number n : ℕ) → next_up set number ≡ Some n → n < length set
up_within set number n h = class_within set (slice_get set number) n h
