-- Reading modified UTF-8 from left to right, up to the first character that is wrong.
use Rattle.std.specs.Prelude.{◌≡◌, Bool, ℕ, zero, suc, ◌+◌, ◌-◌, ◌*◌, ◌&&◌, ◌||◌, List, [], ◌∷◌, Option, Some, None, Result, Ok, Err, nat_lt, nat_le, ◌==◌, if◌then◌else◌}
use Rattle.modified_utf8.specs.Text.{IsWrongAt}
use Rattle.modified_utf8.specs.declared.text.TextStop.{TextStop}
use Rattle.modified_utf8.specs.declared.text.TextStop.TheVariants.{Bad, Memory}

-- a byte behind the first of a character: 128 to 191
abbrev pub is_later : ℕ → Bool
is_later c = nat_le 128 c && nat_lt c 192

abbrev pub value_two : ℕ → ℕ → ℕ
value_two b c = (b - 192) * 64 + (c - 128)

abbrev pub value_three : ℕ → ℕ → ℕ → ℕ
value_three b c d = (b - 224) * 4096 + (c - 128) * 64 + (d - 128)

-- a byte that is a unit by itself: 1 to 127
abbrev pub is_plain : ℕ → Bool
is_plain b = nat_lt 0 b && nat_lt b 128

-- two bytes spell 0, or a unit that has no shorter form
abbrev pub two : ℕ → List ℕ → Option (ℕ × ℕ)
two b [] = None
two b (c ∷ cs) = if is_later c && (value_two b c == 0 || nat_le 128 (value_two b c)) then Some (value_two b c, 2) else None

-- three bytes spell a unit that has no shorter form
abbrev pub three : ℕ → List ℕ → Option (ℕ × ℕ)
three b [] = None
three b (c ∷ []) = None
three b (c ∷ d ∷ ds) = if is_later c && is_later d && nat_le 2048 (value_three b c d) then Some (value_three b c d, 3) else None

-- the unit that begins here, with the number of its bytes
unfoldable pub first_unit : List ℕ → Option (ℕ × ℕ)
first_unit [] = None
first_unit (b ∷ bs) =
    if nat_lt 0 b && nat_lt b 128 then Some (b, 1)
    else if nat_le 192 b && nat_lt b 224 then two b bs
    else if nat_le 224 b && nat_lt b 240 then three b bs
    else None

abbrev pub behind : ℕ → Result (List ℕ) ℕ → Result (List ℕ) ℕ
behind u (Ok us) = Ok (u ∷ us)
behind u (Err place) = Err place

abbrev pub unit_then : ℕ → Option (ℕ × ℕ) → (ℕ → Result (List ℕ) ℕ) → Result (List ℕ) ℕ
unit_then at None rest = Err at
unit_then at (Some unit) rest = behind unit.0 (rest (unit.1 - 1))

-- reading goes on at a place; so many of the next bytes belong to the character that is read already
unfoldable pub read_on : ℕ → ℕ → List ℕ → Result (List ℕ) ℕ
read_on at left [] = Ok []
read_on at (suc left) (b ∷ bs) = read_on (at + 1) left bs
read_on at zero (b ∷ bs) = unit_then at (first_unit (b ∷ bs)) (λ left. read_on (at + 1) left bs)

-- the units of a text that stands at a place, or the place of the first character that is wrong
abbrev pub read_text : ℕ → List ℕ → Result (List ℕ) ℕ
read_text at bytes = read_on at 0 bytes

-- what `text_units` answers, where reading gives this
abbrev pub Gives : Result (List ℕ) TextStop → Result (List ℕ) ℕ → Type 0
Gives (Ok us) read = read ≡ Ok us
Gives (Err (Bad place)) read = read ≡ Err place
Gives (Err Memory) read = Unit {0}

-- why it stops: the place of the first wrong character, or want of memory
abbrev pub IsStopOf : List ℕ → TextStop → Type 0
IsStopOf bytes (Bad place) = IsWrongAt bytes place
IsStopOf bytes Memory = Unit {0}

-- the answer is these units, unless memory ran out
abbrev pub IsOnly : Result (List ℕ) TextStop → List ℕ → Type 0
IsOnly (Ok vs) us = vs ≡ us
IsOnly (Err (Bad place)) us = ⊥
IsOnly (Err Memory) us = Unit {0}
