-- Offsets of instructions, one after the other.
use Rattle.std.proofs.Common.{◌≡◌, ◌∙◌, ℕ, ◌+◌, ◌-◌, ◌<◌, ◌≤◌, ◌^◌, Bool, List, [], ◌∷◌, ◌++◌, length, get_or, take, drop, refl, sym, ap, subst, arith}
use Rattle.std.specs.Prelude.{min}
use Rattle.std.proofs.lemmas.List.{take_more, take_all, take-append-drop}
use Rattle.class_model.specs.declared.insn.Insn.{Insn}
use Rattle.class_limits.specs.Sizes.{size_at, end_from, offsets_from}
use Rattle.class_limits.specs.Limits.{told}

-- the offset behind one instruction more
pub end_push : (wide : Bool) (pc : ℕ) (xs : List Insn) (x : Insn) → end_from wide pc (xs ++ x ∷ []) ≡ end_from wide pc xs + size_at wide (end_from wide pc xs) x
unfolding end_from
end_push wide pc [] x = refl
end_push wide pc (y ∷ ys) x = end_push wide (pc + size_at wide pc y) ys x

pub offsets_push : (wide : Bool) (pc : ℕ) (xs : List Insn) (x : Insn) → offsets_from wide pc (xs ++ x ∷ []) ≡ offsets_from wide pc xs ++ end_from wide pc xs ∷ []
unfolding end_from offsets_from
offsets_push wide pc [] x = refl
offsets_push wide pc (y ∷ ys) x = ap (λ os. pc ∷ os) (offsets_push wide (pc + size_at wide pc y) ys x)

-- the end is not before the start
pub end_above : (wide : Bool) (pc : ℕ) (xs : List Insn) → pc ≤ end_from wide pc xs
unfolding end_from
end_above wide pc [] = omega arith
end_above wide pc (y ∷ ys) = omega (arith, end_above wide (pc + size_at wide pc y) ys)

pub end_append : (wide : Bool) (pc : ℕ) (xs ys : List Insn) → end_from wide pc (xs ++ ys) ≡ end_from wide (end_from wide pc xs) ys
unfolding end_from
end_append wide pc [] ys = refl
end_append wide pc (x ∷ xs) ys = end_append wide (pc + size_at wide pc x) xs ys

-- ---- code instruction by instruction: the first i of them

front_is : (xs : List Insn) (i : ℕ) (x : Insn) → i < length xs → x ≡ get_or xs i x → take (i + 1) xs ≡ take i xs ++ x ∷ []
front_is xs i x lt is = take_more xs i x lt ∙ ap (λ y. take i xs ++ y ∷ []) (sym is)

-- one instruction more, exactly
step_end : (wide : Bool) (xs : List Insn) (i : ℕ) (x : Insn) → i < length xs → x ≡ get_or xs i x → end_from wide 0 (take (i + 1) xs) ≡ end_from wide 0 (take i xs) + size_at wide (end_from wide 0 (take i xs)) x
step_end wide xs i x lt is = ap (end_from wide 0) (front_is xs i x lt is) ∙ end_push wide 0 (take i xs) x

-- a number past 64 bits is their greatest, and stays so
min_step : (f : ℕ → ℕ) (e : ℕ) → min (told e + told (f (told e))) 18446744073709551615 ≡ told (e + f e)
min_step f e = grind arith

-- where code of so many instructions ends, as a number of 64 bits
pub record EndsAt (wide : Bool) (xs : List Insn) (i pc : ℕ) : Type 0 where
  pub is : pc ≡ told (end_from wide 0 (take i xs))

pub ends_more : (wide : Bool) (xs : List Insn) (i pc : ℕ) (x : Insn) (size next : ℕ) → EndsAt wide xs i pc → i < length xs → x ≡ get_or xs i x → size ≡ told (size_at wide pc x) → next ≡ min (pc + size) 18446744073709551615 → EndsAt wide xs (i + 1) next
ends_more wide xs i pc x size next at lt is sized next_is =
    let e = end_from wide 0 (take i xs) in
    let pc_is : pc ≡ told e = at.is in
    record { is = next_is ∙ ap (λ n. min (pc + n) 18446744073709551615) sized ∙ ap (λ n. min (n + told (size_at wide n x)) 18446744073709551615) pc_is ∙ min_step (λ n. size_at wide n x) e ∙ sym (ap told (step_end wide xs i x lt is)) }

pub ends_all : (wide : Bool) (xs : List Insn) (i pc : ℕ) → EndsAt wide xs i pc → length xs ≤ i → pc ≡ told (end_from wide 0 xs)
ends_all wide xs i pc at le = at.is ∙ ap (λ ys. told (end_from wide 0 ys)) (take_all i xs le)

-- the offsets of the first i instructions of code that ends within 65,535 bytes
pub record StartsAt (wide : Bool) (xs : List Insn) (i pc : ℕ) (starts : List ℕ) : Type 0 where
  pub is : pc ≡ end_from wide 0 (take i xs)
  pub starts_are : starts ≡ offsets_from wide 0 (take i xs)

-- the end of the front is not behind the end of all
front_within : (wide : Bool) (xs : List Insn) (i : ℕ) → end_from wide 0 (take i xs) ≤ end_from wide 0 xs
front_within wide xs i =
    omega (arith, ap (end_from wide 0) (take-append-drop i xs), end_append wide 0 (take i xs) (drop i xs), end_above wide (end_from wide 0 (take i xs)) (drop i xs))

-- the size of an instruction of code that ends within 65,535 bytes
pub size_within : (wide : Bool) (xs : List Insn) (i pc : ℕ) (starts : List ℕ) (x : Insn) (size : ℕ) → StartsAt wide xs i pc starts → end_from wide 0 xs ≤ 65535 → i < length xs → x ≡ get_or xs i x → size ≡ told (size_at wide pc x) → (size ≡ size_at wide pc x) × (pc + size ≤ 65535)
size_within wide xs i pc starts x size at small lt is sized =
    let step : end_from wide 0 (take (i + 1) xs) ≡ pc + size_at wide pc x = step_end wide xs i x lt is ∙ ap (λ n. n + size_at wide n x) (sym at.is) in
    let within : pc + size_at wide pc x ≤ 65535 = omega (arith, step, front_within wide xs (i + 1)) in
    let same : size ≡ size_at wide pc x = omega (arith, sized) in
    (same, omega arith)

pub starts_more : (wide : Bool) (xs : List Insn) (i pc : ℕ) (starts : List ℕ) (x : Insn) (size : ℕ) (next : List ℕ) → StartsAt wide xs i pc starts → end_from wide 0 xs ≤ 65535 → i < length xs → x ≡ get_or xs i x → size ≡ told (size_at wide pc x) → next ≡ starts ++ pc ∷ [] → StartsAt wide xs (i + 1) (pc + size) next
starts_more wide xs i pc starts x size next at small lt is sized pushed =
    let exact : size ≡ size_at wide pc x = (size_within wide xs i pc starts x size at small lt is sized).0 in
    record {
      is = ap (λ n. pc + n) exact ∙ ap (λ n. n + size_at wide n x) at.is ∙ sym (step_end wide xs i x lt is);
      starts_are =
          pushed ∙ ap (λ os. os ++ pc ∷ []) at.starts_are ∙ ap (λ n. offsets_from wide 0 (take i xs) ++ n ∷ []) at.is
          ∙ sym (offsets_push wide 0 (take i xs) x) ∙ sym (ap (offsets_from wide 0) (front_is xs i x lt is));
    }

pub starts_all : (wide : Bool) (xs : List Insn) (i pc : ℕ) (starts : List ℕ) → StartsAt wide xs i pc starts → length xs ≤ i → (starts ≡ offsets_from wide 0 xs) × (pc ≡ end_from wide 0 xs)
starts_all wide xs i pc starts at le = (at.starts_are ∙ ap (offsets_from wide 0) (take_all i xs le), at.is ∙ ap (end_from wide 0) (take_all i xs le))
