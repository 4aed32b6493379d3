-- Modified UTF-8 (JVMS 4.4.7): a text is the bytes of its UTF-16 units, one after the other.
use Rattle.std.specs.Prelude.{◌≡◌, ◌≢◌, ℕ, ◌+◌, ◌/◌, ◌%◌, ◌<◌, ◌^◌, ◌&&◌, nat_lt, if◌then◌else◌, List, [], ◌∷◌, ◌++◌, length, All}
use Rattle.std.specs.List.{flat_map}

-- The bytes of a unit: 1 to 127 are one byte, 0 and what is below 2,048 two, all others three. A character past the
-- 16-bit range is two units, its surrogates, of three bytes each.
abbrev pub unit_bytes : ℕ → List ℕ
unit_bytes u =
    if nat_lt 0 u && nat_lt u 128 then u ∷ []
    else if nat_lt u 2048 then (192 + u / 64) ∷ (128 + u % 64) ∷ []
    else (224 + u / 4096) ∷ (128 + u / 64 % 64) ∷ (128 + u % 64) ∷ []

abbrev pub text_bytes : List ℕ → List ℕ
text_bytes units = flat_map unit_bytes units

abbrev pub AreUnits : List ℕ → Type 0
AreUnits units = All (λ u. u < 2 ^ 16) units

-- bytes that are the text of these units
pub record IsText (bytes : List ℕ) (units : List ℕ) : Type 0 where
  pub in_range : AreUnits units
  pub spelled : bytes ≡ text_bytes units

-- bytes that begin with the bytes of no unit
abbrev pub BeginsWithNone : List ℕ → Type 0
BeginsWithNone bytes = (u : ℕ) (rest : List ℕ) → u < 2 ^ 16 → bytes ≢ unit_bytes u ++ rest

-- the first byte of the first character that is wrong stands at this place: behind a text come bytes that begin with no unit
pub record IsWrongAt (bytes : List ℕ) (place : ℕ) : Type 0 where
  pub units : List ℕ
  pub rest : List ℕ
  pub in_range : AreUnits units
  pub parts : bytes ≡ text_bytes units ++ rest
  pub stands : place ≡ length (text_bytes units)
  pub some : rest ≢ []
  pub wrong : BeginsWithNone rest
