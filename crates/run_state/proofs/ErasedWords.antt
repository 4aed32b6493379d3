-- Words under a map of tags.
use Rattle.std.proofs.Common.{◌≡◌, ℕ, zero, suc, ◌+◌, ℤ, Bool, true, false, List, [], ◌∷◌, map, Option, Some, None, refl, ap, ◌∙◌}
use Rattle.std.specs.Prelude.{replicate, slice_set, option_map, ◌==◌, if◌then◌else◌}
use Rattle.std.proofs.lemmas.List.{map-set}
use Rattle.class_model.specs.declared.insn.StackOp.{StackOp}
use Rattle.class_model.specs.declared.insn.StackOp.TheVariants as stack
use Rattle.class_model.specs.declared.insn.Width.{Width}
use Rattle.class_model.specs.declared.insn.Width.TheVariants as width
use Rattle.class_model.specs.declared.types.Primitive.{Primitive}
use Rattle.class_model.specs.declared.types.Primitive.TheVariants as primitive
use Rattle.class_model.specs.declared.types.BaseType.{BaseType}
use Rattle.class_model.specs.declared.types.BaseType.TheVariants as base
use Rattle.class_model.specs.declared.types.JType.{JType}
use Rattle.run_state.specs.Words.{Word, Empty, Num, Long, Half, Null, Ref, pushed, stored, pop, pop2, dup, dup_x1, dup_x2, dup2, dup2_x1, dup2_x2, swap, shuffled}
use Rattle.run_state.specs.Operands.{number, place_of}
use Rattle.run_state.specs.Calls.{narrowed}
use Rattle.run_state.specs.Unwinding.{default_primitive, default_base, default_of}
use Rattle.run_state.specs.Erasure.{word_of, words_of}

pub map_replicate : {A B : Type 0} (f : A → B) (n : ℕ) (x : A) → map f (replicate n x) ≡ replicate n (f x)
map_replicate f zero x = refl
map_replicate f (suc n) x = ap (λ l. f x ∷ l) (map_replicate f n x)

pub map_id_option : {A : Type 0} (x : Option A) → option_map (λ a. a) x ≡ x
map_id_option None = refl
map_id_option (Some a) = refl

module _ {T U : Type 0} (h : T → U) where
  pub pushed_words : (w : Word T) (st : List (Word T)) → words_of h (pushed w st) ≡ pushed (word_of h w) (words_of h st)
  pushed_words Empty st = refl
  pushed_words (Num v t) st = refl
  pushed_words (Long v t) st = refl
  pushed_words Half st = refl
  pushed_words Null st = refl
  pushed_words (Ref a) st = refl

  pub stored_words : (ls : List (Word T)) (i : ℕ) (w : Word T) → words_of h (stored ls i w) ≡ stored (words_of h ls) i (word_of h w)
  stored_words ls i Empty = map-set (word_of h) ls i Empty
  stored_words ls i (Num v t) = map-set (word_of h) ls i (Num v t)
  stored_words ls i (Long v t) =
      map-set (word_of h) (slice_set ls i (Long v t)) (i + 1) Half ∙ ap (λ l. slice_set l (i + 1) Half) (map-set (word_of h) ls i (Long v t))
  stored_words ls i Half = map-set (word_of h) ls i Half
  stored_words ls i Null = map-set (word_of h) ls i Null
  stored_words ls i (Ref a) = map-set (word_of h) ls i (Ref a)

  pub narrowed_word : (f : ℤ → ℤ) (w : Word T) → word_of h (narrowed f w) ≡ narrowed f (word_of h w)
  narrowed_word f Empty = refl
  narrowed_word f (Num v t) = refl
  narrowed_word f (Long v t) = refl
  narrowed_word f Half = refl
  narrowed_word f Null = refl
  narrowed_word f (Ref a) = refl

  pub number_word : (w : Width) (v : ℤ) (t : T) → word_of h (number w v t) ≡ number w v (h t)
  number_word width.Int v t = refl
  number_word width.Long v t = refl

  pub place_word : (w : Word T) → place_of (word_of h w) ≡ place_of w
  place_word Empty = refl
  place_word (Num v t) = refl
  place_word (Long v t) = refl
  place_word Half = refl
  place_word Null = refl
  place_word (Ref a) = refl

  default_primitive_word : (t : T) (p : Primitive) → word_of h (default_primitive t p) ≡ default_primitive (h t) p
  default_primitive_word t primitive.Boolean = refl
  default_primitive_word t primitive.Byte = refl
  default_primitive_word t primitive.Char = refl
  default_primitive_word t primitive.Short = refl
  default_primitive_word t primitive.Int = refl
  default_primitive_word t primitive.Long = refl
  default_primitive_word t primitive.Float = refl
  default_primitive_word t primitive.Double = refl

  default_base_word : (t : T) (b : BaseType) → word_of h (default_base t b) ≡ default_base (h t) b
  default_base_word t (base.Primitive p) = default_primitive_word t p
  default_base_word t (base.Class c) = refl

  cond_word : (b : Bool) (x y : Word T) → word_of h (if b then x else y) ≡ (if b then word_of h x else word_of h y)
  cond_word true x y = refl
  cond_word false x y = refl

  pub default_word : (t : T) (ty : JType) → word_of h (default_of t ty) ≡ default_of (h t) ty
  default_word t ty =
      cond_word (ty.depth == 0) (default_base t ty.base) Null
      ∙ ap (λ w. if ty.depth == 0 then w else Null) (default_base_word t ty.base)

  pub default_words : (t : T) (tys : List JType) → words_of h (map (default_of t) tys) ≡ map (default_of (h t)) tys
  default_words t [] = refl
  default_words t (ty ∷ tys) =
      ap (λ w. w ∷ words_of h (map (default_of t) tys)) (default_word t ty) ∙ ap (λ l. default_of (h t) ty ∷ l) (default_words t tys)

-- the stack operations move words and look into none
module _ {A B : Type 0} (f : A → B) where
  pop_map : (st : List A) → option_map (map f) (pop st) ≡ pop (map f st)
  pop_map [] = refl
  pop_map (a ∷ st) = refl

  pop2_map : (st : List A) → option_map (map f) (pop2 st) ≡ pop2 (map f st)
  pop2_map [] = refl
  pop2_map (a ∷ []) = refl
  pop2_map (a ∷ b ∷ st) = refl

  dup_map : (st : List A) → option_map (map f) (dup st) ≡ dup (map f st)
  dup_map [] = refl
  dup_map (a ∷ st) = refl

  dup_x1_map : (st : List A) → option_map (map f) (dup_x1 st) ≡ dup_x1 (map f st)
  dup_x1_map [] = refl
  dup_x1_map (a ∷ []) = refl
  dup_x1_map (a ∷ b ∷ st) = refl

  dup_x2_map : (st : List A) → option_map (map f) (dup_x2 st) ≡ dup_x2 (map f st)
  dup_x2_map [] = refl
  dup_x2_map (a ∷ []) = refl
  dup_x2_map (a ∷ b ∷ []) = refl
  dup_x2_map (a ∷ b ∷ c ∷ st) = refl

  dup2_map : (st : List A) → option_map (map f) (dup2 st) ≡ dup2 (map f st)
  dup2_map [] = refl
  dup2_map (a ∷ []) = refl
  dup2_map (a ∷ b ∷ st) = refl

  dup2_x1_map : (st : List A) → option_map (map f) (dup2_x1 st) ≡ dup2_x1 (map f st)
  dup2_x1_map [] = refl
  dup2_x1_map (a ∷ []) = refl
  dup2_x1_map (a ∷ b ∷ []) = refl
  dup2_x1_map (a ∷ b ∷ c ∷ st) = refl

  dup2_x2_map : (st : List A) → option_map (map f) (dup2_x2 st) ≡ dup2_x2 (map f st)
  dup2_x2_map [] = refl
  dup2_x2_map (a ∷ []) = refl
  dup2_x2_map (a ∷ b ∷ []) = refl
  dup2_x2_map (a ∷ b ∷ c ∷ []) = refl
  dup2_x2_map (a ∷ b ∷ c ∷ d ∷ st) = refl

  swap_map : (st : List A) → option_map (map f) (swap st) ≡ swap (map f st)
  swap_map [] = refl
  swap_map (a ∷ []) = refl
  swap_map (a ∷ b ∷ st) = refl

  pub shuffled_map : (op : StackOp) (st : List A) → option_map (map f) (shuffled op st) ≡ shuffled op (map f st)
  shuffled_map stack.Pop st = pop_map st
  shuffled_map stack.Pop2 st = pop2_map st
  shuffled_map stack.Dup st = dup_map st
  shuffled_map stack.DupX1 st = dup_x1_map st
  shuffled_map stack.DupX2 st = dup_x2_map st
  shuffled_map stack.Dup2 st = dup2_map st
  shuffled_map stack.Dup2X1 st = dup2_x1_map st
  shuffled_map stack.Dup2X2 st = dup2_x2_map st
  shuffled_map stack.Swap st = swap_map st
