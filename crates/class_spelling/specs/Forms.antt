-- The forms from which a class file is spelled.
use Rattle.std.specs.Prelude.{ℕ, List, [], ◌∷◌, ◌++◌, length, Option, Some, None}
use Rattle.std.specs.Int.{w16, w32, to_be_bytes}
use Rattle.class_names.specs.Pieces.{joined}
use Rattle.pool_names.specs.Adding.{Adding, ◌>>=◌, done, spell_u16, spell_u32, spell_each}
use Rattle.pool_names.specs.Spelling.{spell_bytes}

-- the index of what is put into the pool
unfoldable pub spell_index : Adding ℕ → Adding (List ℕ)
spell_index put = do
  k ← put
  spell_u16 k

-- 0 for what is absent
abbrev pub spell_optional : {A : Type 0} → (A → Adding ℕ) → Option A → Adding ℕ
spell_optional put None = done 0
spell_optional put (Some a) = put a

-- a table: a count, and so many things
unfoldable pub spell_table : {A : Type 0} → (A → Adding (List ℕ)) → List A → Adding (List ℕ)
spell_table spell xs = do
  count ← spell_u16 (length xs)
  rows ← spell_each spell xs
  done (count ++ rows)

-- ---- attributes (JVMS 4.7)

-- the index of its name, its length, and its content
abbrev pub attribute_bytes : ℕ → List ℕ → List ℕ
attribute_bytes name content = joined (to_be_bytes w16 name ∷ to_be_bytes w32 (length content) ∷ content ∷ [])

unfoldable pub framed : ℕ → List ℕ → Adding (List ℕ)
framed name content = do
  index ← spell_u16 name
  len ← spell_u32 (length content)
  done (joined (index ∷ len ∷ content ∷ []))

-- its name stands in the pool before what its content names
unfoldable pub spell_attribute : List ℕ → Adding (List ℕ) → Adding (List ℕ)
spell_attribute name spell = do
  index ← spell_bytes name
  content ← spell
  framed index content

-- an attribute of what is there
unfoldable pub spell_when_some : {A : Type 0} → List ℕ → (A → Adding (List ℕ)) → Option A → Adding (List ℕ)
spell_when_some name spell None = done []
spell_when_some name spell (Some a) = spell_attribute name (spell a)

abbrev pub count_some : {A : Type 0} → Option A → ℕ
count_some None = 0
count_some (Some a) = 1

-- an attribute of a list that is not empty
unfoldable pub spell_when_any : {A : Type 0} → List ℕ → (List A → Adding (List ℕ)) → List A → Adding (List ℕ)
spell_when_any name spell [] = done []
spell_when_any name spell (x ∷ xs) = spell_attribute name (spell (x ∷ xs))

abbrev pub count_any : {A : Type 0} → List A → ℕ
count_any [] = 0
count_any (x ∷ xs) = 1
