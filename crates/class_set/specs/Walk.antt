-- Words that are passed one by one.
use Rattle.std.specs.Prelude.{Bool, true, false, List, [], ◌∷◌}
use Rattle.class_model.specs.declared.class.VType.{VType}
use Rattle.class_model.specs.declared.class.VType.TheVariants.{Top, Long}
use Rattle.class_set.specs.Assignable.{in_words}

-- the words that are left of locals, where the next may be the second word of a long
abbrev pub words_left : Bool → List VType → List VType
words_left true entries = Top ∷ in_words entries
words_left false entries = in_words entries

-- the first word, Top where there is none
abbrev pub first_word : List VType → VType
first_word [] = Top
first_word (ty ∷ words) = ty

-- all but the first word
abbrev pub later_words : List VType → List VType
later_words [] = []
later_words (ty ∷ words) = words

-- the words behind an entry that stands in front
abbrev pub words_behind : VType → List VType → List VType
words_behind Long words = later_words (later_words words)
words_behind _ words = later_words words
