-- The tag of a value, and marking it (this project's own). The tag of a primitive array is the join of its elements', that
-- of a String the one of its `value`, that of null or of another array 0, that of another object its own. Marking
-- changes the same places.
use Rattle.std.specs.Prelude.{ℕ, Bool, List, [], ◌∷◌, map, codes, slice_get, slice_set, if◌then◌else◌}
use Rattle.class_model.specs.declared.types.Primitive.TheVariants as primitive
use Rattle.class_model.specs.declared.types.BaseType.TheVariants as base
use Rattle.class_model.specs.declared.types.JType.{JType}
use Rattle.class_model.specs.declared.types.FieldRef.{FieldRef}
use Rattle.run_state.specs.Texts.{same_type, class_type, string_name}
use Rattle.run_state.specs.Words.{Word, Empty, Num, Long, Half, Null, Ref}
use Rattle.run_state.specs.State.{Method, Item}
use Rattle.run_state.specs.Looks.{Looks}
use Rattle.run_state.specs.Tags.{Tags}
use Rattle.run_state.specs.References.{given, is_array, is_number_array, item_of}

-- the field that holds the characters of a String
abbrev pub value_field : FieldRef
value_field = record { class = string_name; name = codes "value"; ty = record { depth = 1; base = base.Primitive primitive.Char } }

abbrev pub is_text : JType → Bool
is_text ty = same_type ty (class_type string_name)

module _ {T : Type 0} (M : Tags T) where
  abbrev pub number_tag : Word T → T
  number_tag Empty = M.none
  number_tag (Num v t) = t
  number_tag (Long v t) = t
  number_tag Half = M.none
  number_tag Null = M.none
  number_tag (Ref a) = M.none

  abbrev pub joined_tags : List (Word T) → T
  joined_tags [] = M.none
  joined_tags (w ∷ ws) = M.join (number_tag w) (joined_tags ws)

  -- marks of what the method m gives
  abbrev pub mark_number : Method → Word T → Word T
  mark_number m Empty = Empty
  mark_number m (Num v t) = Num v (M.marked m t)
  mark_number m (Long v t) = Long v (M.marked m t)
  mark_number m Half = Half
  mark_number m Null = Null
  mark_number m (Ref a) = Ref a

  abbrev pub mark_cells : Method → Item T → Item T
  mark_cells m x = record x { cells = map (mark_number m) x.cells }

  abbrev pub mark_array : Method → List (Item T) → Word T → List (Item T)
  mark_array m hp Empty = hp
  mark_array m hp (Num v t) = hp
  mark_array m hp (Long v t) = hp
  mark_array m hp Half = hp
  mark_array m hp Null = hp
  mark_array m hp (Ref a) = given (slice_get hp a) hp (λ y. slice_set hp a (mark_cells m y))

module _ {T : Type 0} (M : Tags T) (L : Looks) where
  abbrev pub text_tag : List (Item T) → Item T → T
  text_tag hp x = given (L.field value_field) M.none (λ i. given (slice_get x.cells i) M.none (λ w. given (item_of hp w) M.none (λ y. joined_tags M y.cells)))

  abbrev pub item_tag : List (Item T) → Item T → T
  item_tag hp x =
      if is_text x.ty then text_tag hp x
      else (if is_number_array x.ty then joined_tags M x.cells else (if is_array x.ty then M.none else x.own))

  abbrev pub tag_of : List (Item T) → Word T → T
  tag_of hp w = given (item_of hp w) (number_tag M w) (item_tag hp)

  -- the tags of the arguments in order, where a long's two words are one argument
  abbrev pub tags_of : List (Item T) → List (Word T) → List T
  tags_of hp [] = []
  tags_of hp (Empty ∷ ws) = M.none ∷ tags_of hp ws
  tags_of hp (Num v t ∷ ws) = t ∷ tags_of hp ws
  tags_of hp (Long v t ∷ ws) = t ∷ tags_of hp ws
  tags_of hp (Half ∷ ws) = tags_of hp ws
  tags_of hp (Null ∷ ws) = M.none ∷ tags_of hp ws
  tags_of hp (Ref a ∷ ws) = tag_of hp (Ref a) ∷ tags_of hp ws

  abbrev pub mark_text : Method → List (Item T) → Item T → List (Item T)
  mark_text m hp x = given (L.field value_field) hp (λ i. given (slice_get x.cells i) hp (mark_array M m hp))

  abbrev pub mark_item : Method → List (Item T) → ℕ → Item T → List (Item T)
  mark_item m hp a x =
      if is_text x.ty then mark_text m hp x
      else (if is_number_array x.ty then slice_set hp a (mark_cells M m x)
      else (if is_array x.ty then hp else slice_set hp a (record x { own = M.marked m x.own })))

  abbrev pub mark_heap : Method → List (Item T) → Word T → List (Item T)
  mark_heap m hp Empty = hp
  mark_heap m hp (Num v t) = hp
  mark_heap m hp (Long v t) = hp
  mark_heap m hp Half = hp
  mark_heap m hp Null = hp
  mark_heap m hp (Ref a) = given (slice_get hp a) hp (mark_item m hp a)
