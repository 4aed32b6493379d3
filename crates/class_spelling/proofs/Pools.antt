-- The bytes of a pool are a function of the pool.
use Rattle.std.proofs.Common.{◌≡◌, ◌∙◌, ℕ, ◌+◌, List, [], ◌∷◌, ◌++◌, length, refl, sym, ap, subst, append_assoc}
use Rattle.std.specs.Prelude.{option_to_list}
use Rattle.std.specs.List.{flat_map}
use Rattle.std.specs.Int.{w16, to_be_bytes}
use Rattle.std.proofs.lemmas.List.{append-nil}
use Rattle.class_names.specs.Pieces.{joined}
use Rattle.const_pool.specs.declared.entry.Entry.{Entry}
use Rattle.const_pool.specs.declared.entry.Entry.TheVariants.{Long, Double}
use Rattle.const_pool.specs.Pool.{Pool, IsPool, entry_bytes, slots_of}
use Rattle.class_spelling.specs.ClassSpelling.{pool_bytes}

entries_of : (entries : List Entry) → flat_map option_to_list (flat_map slots_of entries) ≡ entries
entries_of [] = refl
entries_of (Long n ∷ entries) = ap (λ (z : List Entry). Long n ∷ z) (entries_of entries)
entries_of (Double bits ∷ entries) = ap (λ (z : List Entry). Double bits ∷ z) (entries_of entries)
entries_of (e ∷ entries) = ap (λ (z : List Entry). e ∷ z) (entries_of entries)

pub pool_spelled : (p : Pool) (text : List ℕ) → IsPool text p → text ≡ pool_bytes p
pool_spelled p text is =
    let entries : flat_map option_to_list p ≡ is.entries = ap (flat_map option_to_list) is.indices ∙ entries_of is.entries in
    is.spelled ∙ ap (λ (z : List Entry). to_be_bytes w16 (length p + 1) ++ flat_map entry_bytes z) (sym entries)

pub pool_written : (p : Pool) (text : List ℕ) → IsPool text p → IsPool (pool_bytes p) p
pool_written p text is = subst (λ (z : List ℕ). IsPool z p) (pool_spelled p text is) is

-- what stands around the pool is put before it and behind it
pub together : (none front pool_text pool body one two three : List ℕ) → none ≡ [] → one ≡ none ++ front → two ≡ one ++ pool_text → three ≡ two ++ body → pool_text ≡ pool → three ≡ joined (front ∷ pool ∷ body ∷ [])
together none front pool_text pool body one two three nothing first second third same =
    third
    ∙ ap (λ (z : List ℕ). z ++ body) (second ∙ ap (λ (z : List ℕ). z ++ pool_text) (first ∙ ap (λ (z : List ℕ). z ++ front) nothing))
    ∙ append_assoc front pool_text body
    ∙ ap (λ (z : List ℕ). front ++ z) (ap (λ (z : List ℕ). z ++ body) same ∙ ap (λ (z : List ℕ). pool ++ z) (sym (append-nil body)))
