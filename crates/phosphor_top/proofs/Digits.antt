-- The digits of a word and their number.
use Rattle.std.proofs.Common.{◌≡◌, ℕ, ◌<◌, ◌≤◌, ◌^◌, List, length, true, false, arith}
use Rattle.std.specs.Prelude.{Result, Ok, Err}
use Rattle.std.specs.Str.{all_ascii_digits}
use Rattle.std.specs.Str.Parse.{AllDigits, digits_value, ParsesUnsigned}
use Rattle.std.proofs.lemmas.Str.Parse.{IsNumeralModel, numerals_by_value, tells_digits, tells_all_ascii_digits, digits_value_short, parse_gives}
use Rattle.phosphor_top.specs.Commands.{AreSteps}

of_all : IsNumeralModel (AllDigits 10) (digits_value 10)
of_all = numerals_by_value (AllDigits 10) tells_digits

of_test : IsNumeralModel (λ ds. all_ascii_digits ds ≡ true) (digits_value 10)
of_test = numerals_by_value (λ ds. all_ascii_digits ds ≡ true) tells_all_ascii_digits

-- bytes that are no digits are no steps
pub no_steps : (word : List ℕ) → all_ascii_digits word ≡ false → (steps : ℕ) → AreSteps word steps → ⊥
no_steps word other steps are = let is : all_ascii_digits word ≡ true = of_test.from word are.digits in cc

-- what they are parsed as
parsed : {E : Type 0} (word : List ℕ) (r : Result ℕ E) → ParsesUnsigned 64 10 word r → 1 ≤ length word → length word ≤ 18 → all_ascii_digits word ≡ true → r ≡ Ok (digits_value 10 word)
parsed word r parses some few digits =
    let all : AllDigits 10 word = of_test.to word digits in
    let short : digits_value 10 word < 10 ^ 18 = digits_value_short of_all word 18 all few in
    parse_gives of_all 64 word r parses all some (omega (arith, short))

-- they are parsed
pub never_err : {E : Type 0} (word : List ℕ) (r : Result ℕ E) (e : E) → ParsesUnsigned 64 10 word r → 1 ≤ length word → length word ≤ 18 → all_ascii_digits word ≡ true → r ≡ Err e → ⊥
never_err word r e parses some few digits is = let p = parsed word r parses some few digits in cc
