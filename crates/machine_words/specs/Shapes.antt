-- How the code's words show the words of the definitions.
use Rattle.std.specs.Prelude.{◌≡◌, refl}
use Rattle.machine_words.specs.declared.word.Shape.{Shape}
use Rattle.machine_words.specs.declared.word.Shape.TheVariants as shape
use Rattle.run_state.specs.Words.{Word, Empty, Num, Long, Half, Null, Ref}

abbrev pub word_of : {T : Type 0} → Shape T → Word T
word_of shape.Empty = Empty
word_of (shape.Num v t) = Num v t
word_of (shape.Long v t) = Long v t
word_of shape.Half = Half
word_of shape.Null = Null
word_of (shape.Ref a) = Ref a

abbrev pub shape_of : {T : Type 0} → Word T → Shape T
shape_of Empty = shape.Empty
shape_of (Num v t) = shape.Num v t
shape_of (Long v t) = shape.Long v t
shape_of Half = shape.Half
shape_of Null = shape.Null
shape_of (Ref a) = shape.Ref a

pub shape_of_word_of : {T : Type 0} (s : Shape T) → shape_of (word_of s) ≡ s
shape_of_word_of shape.Empty = refl
shape_of_word_of (shape.Num v t) = refl
shape_of_word_of (shape.Long v t) = refl
shape_of_word_of shape.Half = refl
shape_of_word_of shape.Null = refl
shape_of_word_of (shape.Ref a) = refl
