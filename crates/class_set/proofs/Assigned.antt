-- Types and frames that go to others.
use Rattle.std.proofs.Common.{◌≡◌, ℕ, zero, suc, ◌+◌, ◌<◌, Bool, true, false, ◌&&◌, List, [], ◌∷◌, length, get_or, drop, refl, sym, ap, subst, ◌∙◌, ◌↔◌, IsTrue, Some, add-one, arith}
use Rattle.std.specs.Cmp.Lexicographic.{pointwise, same_text}
use Rattle.lists.proofs.Units.{pointwise_self}
use Rattle.std.proofs.Math.Seq.{drop-cons}
use Rattle.std.proofs.lemmas.List.Quantifiers.{position-Some}
use Rattle.class_model.specs.declared.types.BaseType.{BaseType}
use Rattle.class_model.specs.declared.class.ClassDef.{ClassDef}
use Rattle.class_model.specs.declared.class.VType.{VType}
use Rattle.class_model.specs.declared.class.VType.TheVariants.{Top, Int, Long, Null, UninitThis, Ref, Uninit}
use Rattle.set_lookups.specs.Above.{same_name, find_class}
use Rattle.class_set.specs.Assignable.{assignable, base_goes, is_object, array_goes, in_front, in_words, words_go}
use Rattle.class_set.specs.Walk.{first_word, later_words, words_behind}

pub found_within : (set : List ClassDef) (name : List ℕ) (k : ℕ) → find_class set name ≡ Some k → k < length set
found_within [] name k h = cc
found_within (class ∷ set) name k h = (position-Some (λ c. same_name c.name name) (class ∷ set) k class h).0

pub goes_where_shallower : (set : List ClassDef) (depth wanted : ℕ) (low high : BaseType) → depth < wanted → array_goes set depth low wanted high ≡ false
goes_where_shallower set zero zero low high h = absurd (omega arith)
goes_where_shallower set zero (suc wanted) low high h = refl
goes_where_shallower set (suc depth) zero low high h = absurd (omega arith)
goes_where_shallower set (suc depth) (suc wanted) low high h = goes_where_shallower set depth wanted low high (omega arith)

pub goes_where_equal : (set : List ClassDef) (depth wanted : ℕ) (low high : BaseType) → depth ≡ wanted → array_goes set depth low wanted high ≡ base_goes set low high
goes_where_equal set zero zero low high h = refl
goes_where_equal set zero (suc wanted) low high h = absurd (omega arith)
goes_where_equal set (suc depth) zero low high h = absurd (omega arith)
goes_where_equal set (suc depth) (suc wanted) low high h = goes_where_equal set depth wanted low high (omega arith)

pub goes_where_deeper : (set : List ClassDef) (depth wanted : ℕ) (low high : BaseType) → wanted < depth → array_goes set depth low wanted high ≡ is_object high
goes_where_deeper set zero zero low high h = absurd (omega arith)
goes_where_deeper set zero (suc wanted) low high h = absurd (omega arith)
goes_where_deeper set (suc depth) zero low high h = refl
goes_where_deeper set (suc depth) (suc wanted) low high h = goes_where_deeper set depth wanted low high (omega arith)

pub pointwise_more : (test : VType → VType → Bool) (xs ys : List VType) (i : ℕ) (d e : VType) → i < length xs → i < length ys → pointwise test (drop i xs) (drop i ys) ≡ test (get_or xs i d) (get_or ys i e) && pointwise test (drop (i + 1) xs) (drop (i + 1) ys)
pointwise_more test xs ys i d e h k = rw (add-one, drop-cons xs i d, drop-cons ys i e)

false_right : (a : Bool) → a && false ≡ false
false_right true = refl
false_right false = refl

pub pointwise_lengths : (test : VType → VType → Bool) (xs ys : List VType) → (length xs ≡ length ys → ⊥) → pointwise test xs ys ≡ false
pointwise_lengths test [] [] h = absurd (h refl)
pointwise_lengths test [] (y ∷ ys) h = refl
pointwise_lengths test (x ∷ xs) [] h = refl
pointwise_lengths test (x ∷ xs) (y ∷ ys) h = ap (λ b. test x y && b) (pointwise_lengths test xs ys (λ e. h (ap suc e))) ∙ false_right _

to_top : (set : List ClassDef) (ty : VType) → assignable set ty Top ≡ true
unfolding assignable
to_top set ty = refl

true_left : (a b : Bool) → a ≡ true → a && b ≡ b
true_left true b h = refl
true_left false b h = cc

behind_long : (set : List ClassDef) (words wanted : List VType) → words_go set words (Top ∷ wanted) ≡ words_go set (later_words words) wanted
behind_long set [] wanted = true_left _ _ (to_top set Top)
behind_long set (ty ∷ words) wanted = true_left _ _ (to_top set ty)

-- one more word
one_word : (set : List ClassDef) (words : List VType) (to : VType) (wanted : List VType) → words_go set words (to ∷ wanted) ≡ assignable set (first_word words) to && words_go set (later_words words) wanted
one_word set [] to wanted = refl
one_word set (ty ∷ words) to wanted = refl

-- one more entry of the locals that are wanted
words_go_front : (set : List ClassDef) (words : List VType) (to : VType) (wanted : List VType) → words_go set words (in_front to wanted) ≡ assignable set (first_word words) to && words_go set (words_behind to words) wanted
words_go_front set words Long wanted = one_word set words Long (Top ∷ wanted) ∙ ap (λ b. assignable set (first_word words) Long && b) (behind_long set (later_words words) wanted)
words_go_front set words Top wanted = one_word set words Top wanted
words_go_front set words Int wanted = one_word set words Int wanted
words_go_front set words Null wanted = one_word set words Null wanted
words_go_front set words UninitThis wanted = one_word set words UninitThis wanted
words_go_front set words (Ref ty) wanted = one_word set words (Ref ty) wanted
words_go_front set words (Uninit at) wanted = one_word set words (Uninit at) wanted

pub words_go_more : (set : List ClassDef) (words wanted : List VType) (i : ℕ) (d : VType) → i < length wanted → words_go set words (in_words (drop i wanted)) ≡ assignable set (first_word words) (get_or wanted i d) && words_go set (words_behind (get_or wanted i d) words) (in_words (drop (i + 1) wanted))
words_go_more set words wanted i d h = rw (add-one, drop-cons wanted i d) (words_go_front set words (get_or wanted i d) (in_words (drop (suc i) wanted)))

one_test : (a b : Bool) → (a ≡ true → b ≡ true) → (b ≡ true → a ≡ true) → a ≡ b
one_test true true f g = refl
one_test true false f g = sym (f refl)
one_test false true f g = g refl
one_test false false f g = refl

-- names that are compared
pub same_exact : (xs ys : List ℕ) (r : Bool) → (IsTrue r ↔ (xs ≡ ys)) → r ≡ same_name xs ys
same_exact xs ys r h =
    one_test r _ (λ t. subst (λ zs. same_name xs zs ≡ true) (h.0 t) (pointwise_self xs)) (λ t. h.1 (same_text xs ys (sym t)))

pub words_go_on : (set : List ClassDef) (words wanted : List VType) (i : ℕ) (to : VType) → i < length wanted → to ≡ get_or wanted i to → assignable set (first_word words) to ≡ true → words_go set (words_behind to words) (in_words (drop (i + 1) wanted)) ≡ words_go set words (in_words (drop i wanted))
words_go_on set words wanted i to h is t =
    let here = words_go_more set words wanted i to h in
    let goes = true_left (assignable set (first_word words) to) (words_go set (words_behind to words) (in_words (drop (i + 1) wanted))) t in
    cc
