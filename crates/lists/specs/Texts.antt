-- A text as its UTF-16 units, the form in which a class file's texts are compared.
use Rattle.std.specs.Prelude.{ℕ, List, flat_map}
use Rattle.std.specs.Char.Escape.{encode_utf16}
use Rattle.std.specs.Str.{chars}

-- the UTF-16 units of a text that is given as its bytes in UTF-8
abbrev pub units_of : List ℕ → List ℕ
units_of bytes = flat_map encode_utf16 (chars bytes)
