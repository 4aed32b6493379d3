-- Keys that are compared and hashed.
use Rattle.std.proofs.Common.{◌≡◌, ◌∙◌, ℕ, Bool, true, false, ◌&&◌, List, ◌++◌, refl, sym, ap, subst}
use Rattle.std.proofs.lemmas.Bool.{false≢true}
use Rattle.std.specs.Bool.{Decides}
use Rattle.std.specs.Cmp.{IsEquivalence, decided, signed_Decides}
use Rattle.std.specs.Cmp.Lexicographic.{bytes_decides}
use Rattle.std.specs.Hash as fed
use Rattle.std.specs.Hash.{HashWrites}
use Rattle.profile_check.specs.Names.{same_name}
use Rattle.size_limits.specs.declared.key.Key.{Key}
use Rattle.size_limits.specs.declared.key.Key.TheVariants as keys
use Rattle.size_limits.specs.Pool.{same_key, same_flag}

and_left : (a b : Bool) → a && b ≡ true → a ≡ true
and_left true b h = refl
and_left false b h = absurd (false≢true h)

and_right : (a b : Bool) → a && b ≡ true → b ≡ true
and_right true b h = h
and_right false b h = absurd (false≢true h)

both : (a b : Bool) → a ≡ true → b ≡ true → a && b ≡ true
both a b e h = ap (λ z. z && b) e ∙ h

name_is : (a b : List ℕ) → same_name a b ≡ true → a ≡ b
name_is a b h = (bytes_decides a b).0 h

name_self : (a : List ℕ) → same_name a a ≡ true
name_self a = (bytes_decides a a).1 refl

flag_is : (a b : Bool) → same_flag a b ≡ true → a ≡ b
flag_is true b h = sym h
flag_is false true h = absurd (false≢true h)
flag_is false false h = refl

flag_self : (a : Bool) → same_flag a a ≡ true
flag_self true = refl
flag_self false = refl

-- keys that are the same are one
key_is : (a b : Key) → same_key a b ≡ true → a ≡ b
unfolding same_key
key_is (keys.Int n) (keys.Int m) h = ap keys.Int ((signed_Decides n m).0 h)
key_is (keys.Long n) (keys.Long m) h = ap keys.Long ((signed_Decides n m).0 h)
key_is (keys.Text a) (keys.Text b) h = ap keys.Text (name_is a b h)
key_is (keys.Class a) (keys.Class b) h = ap keys.Class (name_is a b h)
key_is (keys.Field a b c) (keys.Field d e f) h =
    let ab : same_name a d && same_name b e ≡ true = and_left _ _ h in
    ap (λ x. keys.Field x b c) (name_is a d (and_left _ _ ab)) ∙ ap (λ x. keys.Field d x c) (name_is b e (and_right (same_name a d) _ ab)) ∙ ap (λ x. keys.Field d e x) (name_is c f (and_right (same_name a d && same_name b e) _ h))
key_is (keys.Method a b c x) (keys.Method d e f y) h =
    let abc : same_name a d && same_name b e && same_name c f ≡ true = and_left _ _ h in
    let ab : same_name a d && same_name b e ≡ true = and_left _ _ abc in
    ap (λ z. keys.Method z b c x) (name_is a d (and_left _ _ ab)) ∙ ap (λ z. keys.Method d z c x) (name_is b e (and_right (same_name a d) _ ab))
    ∙ ap (λ z. keys.Method d e z x) (name_is c f (and_right (same_name a d && same_name b e) _ abc)) ∙ ap (λ z. keys.Method d e f z) (flag_is x y (and_right (same_name a d && same_name b e && same_name c f) _ h))
key_is _ _ h = absurd (false≢true h)

key_self : (a : Key) → same_key a a ≡ true
unfolding same_key
key_self (keys.Int n) = (signed_Decides n n).1 refl
key_self (keys.Long n) = (signed_Decides n n).1 refl
key_self (keys.Text a) = name_self a
key_self (keys.Class a) = name_self a
key_self (keys.Field a b c) = both _ _ (both _ _ (name_self a) (name_self b)) (name_self c)
key_self (keys.Method a b c x) = both _ _ (both _ _ (both _ _ (name_self a) (name_self b)) (name_self c)) (flag_self x)

key_decides : (a b : Key) → Decides (same_key a b) (a ≡ b)
key_decides a b = (key_is a b, λ e. subst (λ c. same_key a c ≡ true) e (key_self a))

pub key_equiv : IsEquivalence same_key
key_equiv = decided same_key key_decides

-- what a key feeds to a hasher
unfoldable pub key_hash : Key → HashWrites
key_hash (keys.Int n) = fed.i32 n
key_hash (keys.Long n) = fed.i64 n
key_hash (keys.Text text) = fed.slice fed.u16 text
key_hash (keys.Class name) = fed.slice fed.u16 name
key_hash (keys.Field class name desc) = fed.slice fed.u16 class ++ fed.slice fed.u16 name ++ fed.slice fed.u16 desc
key_hash (keys.Method class name desc flag) = fed.slice fed.u16 class ++ fed.slice fed.u16 name ++ fed.slice fed.u16 desc

pub key_respects : (a b : Key) → same_key a b ≡ true → key_hash a ≡ key_hash b
key_respects a b h = ap key_hash (key_is a b h)
