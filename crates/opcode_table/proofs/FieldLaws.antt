-- Fields of the first bytes of a text are those of the text.
use Rattle.std.proofs.Common.{◌≡◌, ℕ, zero, suc, ◌+◌, ◌*◌, ◌<◌, ◌≤◌, List, [], ◌∷◌, length, take, get_or, refl, ap, arith}
use Rattle.std.specs.Int.{w8, w16, w32, cast_signed, from_be_bytes}
use Rattle.std.proofs.lemmas.List.{get_or-take}
use Rattle.opcode_table.specs.Fields.{u8_at, u16_at, i8_at, i16_at, i32_at, offsets_at, rows_at}

pub u8_at-take : (text : List ℕ) (n at : ℕ) → at < n → u8_at (take n text) at ≡ u8_at text at
unfolding u8_at
u8_at-take text n at lt = get_or-take n text at 0 lt

pub i8_at-take : (text : List ℕ) (n at : ℕ) → at < n → i8_at (take n text) at ≡ i8_at text at
unfolding i8_at
i8_at-take text n at lt = ap (cast_signed w8) (get_or-take n text at 0 lt)

pair-take : (text : List ℕ) (n at : ℕ) → at + 2 ≤ n → (let t = take n text in get_or t at 0 ∷ get_or t (at + 1) 0 ∷ []) ≡ get_or text at 0 ∷ get_or text (at + 1) 0 ∷ []
pair-take text n at le =
    let a = get_or-take n text at 0 (omega arith) in
    let b = get_or-take n text (at + 1) 0 (omega arith) in
    cc

pub u16_at-take : (text : List ℕ) (n at : ℕ) → at + 2 ≤ n → u16_at (take n text) at ≡ u16_at text at
unfolding u16_at
u16_at-take text n at le = ap (from_be_bytes w16) (pair-take text n at le)

pub i16_at-take : (text : List ℕ) (n at : ℕ) → at + 2 ≤ n → i16_at (take n text) at ≡ i16_at text at
unfolding i16_at
i16_at-take text n at le = ap (λ (bytes : List ℕ). cast_signed w16 (from_be_bytes w16 bytes)) (pair-take text n at le)

pub i32_at-take : (text : List ℕ) (n at : ℕ) → at + 4 ≤ n → i32_at (take n text) at ≡ i32_at text at
unfolding i32_at
i32_at-take text n at le =
    let a = get_or-take n text at 0 (omega arith) in
    let b = get_or-take n text (at + 1) 0 (omega arith) in
    let c = get_or-take n text (at + 2) 0 (omega arith) in
    let d = get_or-take n text (at + 3) 0 (omega arith) in
    let t = take n text in
    let same : get_or t at 0 ∷ get_or t (at + 1) 0 ∷ get_or t (at + 2) 0 ∷ get_or t (at + 3) 0 ∷ [] ≡ get_or text at 0 ∷ get_or text (at + 1) 0 ∷ get_or text (at + 2) 0 ∷ get_or text (at + 3) 0 ∷ [] = cc in
    ap (λ (bytes : List ℕ). cast_signed w32 (from_be_bytes w32 bytes)) same

pub offsets_at-take : (text : List ℕ) (n at k : ℕ) → at + 4 * k ≤ n → offsets_at (take n text) at k ≡ offsets_at text at k
unfolding offsets_at
offsets_at-take text n at zero le = refl
offsets_at-take text n at (suc k) le =
    let first = i32_at-take text n at (omega arith) in
    let others = offsets_at-take text n (at + 4) k (omega arith) in
    cc

pub rows_at-take : (text : List ℕ) (n at k : ℕ) → at + 8 * k ≤ n → rows_at (take n text) at k ≡ rows_at text at k
unfolding rows_at
rows_at-take text n at zero le = refl
rows_at-take text n at (suc k) le =
    let key = i32_at-take text n at (omega arith) in
    let offset = i32_at-take text n (at + 4) (omega arith) in
    let others = rows_at-take text n (at + 8) k (omega arith) in
    cc

pub length-offsets_at : (text : List ℕ) (at k : ℕ) → length (offsets_at text at k) ≡ k
unfolding offsets_at
length-offsets_at text at zero = refl
length-offsets_at text at (suc k) = ap suc (length-offsets_at text (at + 4) k)

pub length-rows_at : (text : List ℕ) (at k : ℕ) → length (rows_at text at k) ≡ k
unfolding rows_at
length-rows_at text at zero = refl
length-rows_at text at (suc k) = ap suc (length-rows_at text (at + 8) k)
