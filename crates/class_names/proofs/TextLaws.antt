-- Reading the units of bytes is exact for modified UTF-8.
use Rattle.std.proofs.Common.{◌≡◌, ℕ, List, Some, Result, Ok, Err, ap}
use Rattle.modified_utf8.specs.Text.{IsText}
use Rattle.modified_utf8.specs.TextReading.{read_text}
use Rattle.modified_utf8.proofs.Texts.{text_read, read_is_text}
use Rattle.class_model.specs.Reading.{value_of}
use Rattle.class_names.specs.NameReading.{units_in}

all_units : {A : Type 0} (r : Result A ℕ) (a : A) → value_of r ≡ Some a → r ≡ Ok a
all_units (Ok b) a e = cc
all_units (Err place) a e = absurd cc

pub units_found : (bytes units : List ℕ) → units_in bytes ≡ Some units → IsText bytes units
unfolding units_in
units_found bytes units h = read_is_text 0 bytes units (all_units (read_text 0 bytes) units h)

pub units_spelled : (bytes units : List ℕ) → IsText bytes units → units_in bytes ≡ Some units
unfolding units_in
units_spelled bytes units h = ap value_of (text_read 0 bytes units h)
