-- What is written of a switch spells it.
use Rattle.std.proofs.Common.{◌≡◌, ℕ, ◌+◌, ◌-◌, ◌*◌, ◌^◌, ◌<◌, List, [], ◌∷◌, ◌++◌, length, get_or, refl, sym, ap, ◌∙◌, append_assoc, arith, length-take, All}
use Rattle.std.specs.Prelude.{ℤ, pos, ◌+ℤ◌, ◌-ℤ◌, ◌≤ℤ◌}
use Rattle.std.specs.Int.{w32, cast_signed, cast_unsigned, from_be_bytes, to_be_bytes}
use Rattle.std.specs.Int.RustNames.{FitsSigned}
use Rattle.std.specs.List.{flat_map}
use Rattle.std.proofs.lemmas.Int.{ints}
use Rattle.std.proofs.lemmas.List.{get_or-append_right, length-append}
use Rattle.std.proofs.lemmas.List.Concat.{flat_map-cons}
use Rattle.std.proofs.lemmas.List.Elements.{All-head, All-tail}
use Rattle.opcode_table.specs.declared.opcodes.OperandForm.{OperandForm}
use Rattle.opcode_table.specs.declared.opcodes.OperandForm.TheVariants as form
use Rattle.opcode_table.specs.declared.raw_insn.RawInsn.TheVariants.{Table, Lookup}
use Rattle.opcode_table.specs.Opcodes.{form_of}
use Rattle.opcode_table.specs.Fields.{u8_at, i32_at, offsets_at, rows_at, padding}
use Rattle.opcode_table.specs.Spelling.{Spells, IsWellFormed}
use Rattle.opcode_table.specs.Writing.{i32_bytes, row_bytes, zeros, spelling, FitsI32, RowFits}
use Rattle.opcode_table.proofs.Spelled.{back_32, table_is, lookup_is}

-- ---- numbers behind a front

four : (a b c d e f g h : ℕ) → a ≡ e → b ≡ f → c ≡ g → d ≡ h → a ∷ b ∷ c ∷ d ∷ [] ≡ e ∷ f ∷ g ∷ h ∷ []
four a b c d e f g h p q r s = cc

byte_behind : (front text : List ℕ) (at place i : ℕ) → at ≡ length front → place ≡ at + i → get_or (front ++ text) place 0 ≡ get_or text i 0
byte_behind front text at place i is there =
    let back : place - at ≡ i = omega arith in
    get_or-append_right front text at place 0 (sym is) (omega arith) ∙ ap (λ (k : ℕ). get_or text k 0) back

i32_at-behind : (front rest : List ℕ) (n : ℤ) (at : ℕ) → at ≡ length front → FitsSigned w32 n → i32_at (front ++ (i32_bytes n ++ rest)) at ≡ n
unfolding i32_at i32_bytes
i32_at-behind front rest n at place fits =
    let text = to_be_bytes w32 (cast_unsigned w32 n) ++ rest in
    let a : get_or (front ++ text) at 0 ≡ get_or text 0 0 = byte_behind front text at at 0 place (omega arith) in
    let b : get_or (front ++ text) (at + 1) 0 ≡ get_or text 1 0 = byte_behind front text at (at + 1) 1 place refl in
    let c : get_or (front ++ text) (at + 2) 0 ≡ get_or text 2 0 = byte_behind front text at (at + 2) 2 place refl in
    let d : get_or (front ++ text) (at + 3) 0 ≡ get_or text 3 0 = byte_behind front text at (at + 3) 3 place refl in
    let same : get_or (front ++ text) at 0 ∷ get_or (front ++ text) (at + 1) 0 ∷ get_or (front ++ text) (at + 2) 0 ∷ get_or (front ++ text) (at + 3) 0 ∷ [] ≡ get_or text 0 0 ∷ get_or text 1 0 ∷ get_or text 2 0 ∷ get_or text 3 0 ∷ [] = four _ _ _ _ _ _ _ _ a b c d in
    ap (λ (bytes : List ℕ). cast_signed w32 (from_be_bytes w32 bytes)) same ∙ back_32 n fits

length-i32_bytes : (n : ℤ) → length (i32_bytes n) ≡ 4
unfolding i32_bytes
length-i32_bytes n = refl

offsets_at-behind : (front : List ℕ) (ns : List ℤ) (at : ℕ) → at ≡ length front → All FitsI32 ns → offsets_at (front ++ flat_map i32_bytes ns) at (length ns) ≡ ns
unfolding offsets_at
offsets_at-behind front [] at place fit = refl
offsets_at-behind front (n ∷ ns) at place fit =
    let bytes : flat_map i32_bytes (n ∷ ns) ≡ i32_bytes n ++ flat_map i32_bytes ns = flat_map-cons i32_bytes n ns in
    let first : i32_at (front ++ flat_map i32_bytes (n ∷ ns)) at ≡ n = ap (λ (t : List ℕ). i32_at (front ++ t) at) bytes ∙ i32_at-behind front (flat_map i32_bytes ns) n at place (All-head FitsI32 n ns fit) in
    let moved : front ++ flat_map i32_bytes (n ∷ ns) ≡ (front ++ i32_bytes n) ++ flat_map i32_bytes ns = ap (λ (t : List ℕ). front ++ t) bytes ∙ sym (append_assoc front (i32_bytes n) (flat_map i32_bytes ns)) in
    let further : at + 4 ≡ length (front ++ i32_bytes n) = omega (arith, place, length-append front (i32_bytes n), length-i32_bytes n) in
    let others : offsets_at (front ++ flat_map i32_bytes (n ∷ ns)) (at + 4) (length ns) ≡ ns = ap (λ (t : List ℕ). offsets_at t (at + 4) (length ns)) moved ∙ offsets_at-behind (front ++ i32_bytes n) ns (at + 4) further (All-tail FitsI32 n ns fit) in
    cc

length-offset_bytes : (ns : List ℤ) → length (flat_map i32_bytes ns) ≡ 4 * length ns
length-offset_bytes [] = refl
length-offset_bytes (n ∷ ns) = omega (arith, ap length (flat_map-cons i32_bytes n ns), length-append (i32_bytes n) (flat_map i32_bytes ns), length-i32_bytes n, length-offset_bytes ns)

row_first : (row : ℤ × ℤ) (rows : List (ℤ × ℤ)) (a b : ℤ) (others : List (ℤ × ℤ)) → a ≡ row.0 → b ≡ row.1 → others ≡ rows → (let r : ℤ × ℤ = (a, b) in r) ∷ others ≡ row ∷ rows
row_first row rows a b others key offset same = rw (key, offset, same) refl

rows_at-behind : (front : List ℕ) (rows : List (ℤ × ℤ)) (at : ℕ) → at ≡ length front → All RowFits rows → rows_at (front ++ flat_map row_bytes rows) at (length rows) ≡ rows
unfolding rows_at
rows_at-behind front [] at place fit = refl
rows_at-behind front (row ∷ rows) at place fit =
    let rest = flat_map row_bytes rows in
    let head = All-head RowFits row rows fit in
    let bytes : flat_map row_bytes (row ∷ rows) ≡ i32_bytes row.0 ++ (i32_bytes row.1 ++ rest) = flat_map-cons row_bytes row rows ∙ append_assoc (i32_bytes row.0) (i32_bytes row.1) rest in
    let key : i32_at (front ++ flat_map row_bytes (row ∷ rows)) at ≡ row.0 = ap (λ (t : List ℕ). i32_at (front ++ t) at) bytes ∙ i32_at-behind front (i32_bytes row.1 ++ rest) row.0 at place head.0 in
    let moved : front ++ flat_map row_bytes (row ∷ rows) ≡ (front ++ i32_bytes row.0) ++ (i32_bytes row.1 ++ rest) = ap (λ (t : List ℕ). front ++ t) bytes ∙ sym (append_assoc front (i32_bytes row.0) (i32_bytes row.1 ++ rest)) in
    let behind_key : at + 4 ≡ length (front ++ i32_bytes row.0) = omega (arith, place, length-append front (i32_bytes row.0), length-i32_bytes row.0) in
    let offset : i32_at (front ++ flat_map row_bytes (row ∷ rows)) (at + 4) ≡ row.1 = ap (λ (t : List ℕ). i32_at t (at + 4)) moved ∙ i32_at-behind (front ++ i32_bytes row.0) rest row.1 (at + 4) behind_key head.1 in
    let further : at + 8 ≡ length ((front ++ i32_bytes row.0) ++ i32_bytes row.1) = omega (arith, behind_key, length-append (front ++ i32_bytes row.0) (i32_bytes row.1), length-i32_bytes row.1) in
    let moved_on : front ++ flat_map row_bytes (row ∷ rows) ≡ ((front ++ i32_bytes row.0) ++ i32_bytes row.1) ++ rest = moved ∙ sym (append_assoc (front ++ i32_bytes row.0) (i32_bytes row.1) rest) in
    let others : rows_at (front ++ flat_map row_bytes (row ∷ rows)) (at + 8) (length rows) ≡ rows = ap (λ (t : List ℕ). rows_at t (at + 8) (length rows)) moved_on ∙ rows_at-behind ((front ++ i32_bytes row.0) ++ i32_bytes row.1) rows (at + 8) further (All-tail RowFits row rows fit) in
    row_first row rows _ _ _ key offset others

length-row_bytes : (rows : List (ℤ × ℤ)) → length (flat_map row_bytes rows) ≡ 8 * length rows
length-row_bytes [] = refl
length-row_bytes (row ∷ rows) =
    omega (arith, ap length (flat_map-cons row_bytes row rows), length-append (i32_bytes row.0 ++ i32_bytes row.1) (flat_map row_bytes rows), length-append (i32_bytes row.0) (i32_bytes row.1), length-i32_bytes row.0, length-i32_bytes row.1, length-row_bytes rows)

-- ---- switches

length-zeros : (pc : ℕ) → length (zeros pc) ≡ padding pc
length-zeros pc = let three : List ℕ = 0 ∷ 0 ∷ 0 ∷ [] in omega (arith, length-take (padding pc) three)

opcode_form : (op : ℕ) (rest : List ℕ) (f : OperandForm) → form_of op ≡ f → form_of (u8_at (op ∷ rest) 0) ≡ f
unfolding u8_at
opcode_form op rest f e = e

pub high_fits : (low : ℤ) (n : ℕ) → FitsSigned w32 low → 0 < n → (low +ℤ pos n) ≤ℤ pos (2 ^ 31) → FitsSigned w32 (low +ℤ pos n -ℤ pos 1)
high_fits low n fits some le = omega (arith, ints)

count_fits : (n : ℕ) → n < 2 ^ 31 → FitsSigned w32 (pos n)
count_fits n lt = omega (arith, ints)

pub table_spelled : (pc : ℕ) (low default : ℤ) (offsets : List ℤ) → FitsSigned w32 low → FitsSigned w32 default → All FitsI32 offsets → IsWellFormed (Table low default offsets)
    → Spells pc (Table low default offsets) (spelling pc (Table low default offsets))
unfolding Spells spelling
table_spelled pc low default offsets fit_low fit_default fit h =
    let high = low +ℤ pos (length offsets) -ℤ pos 1 in
    let fit_high : FitsSigned w32 high = high_fits low (length offsets) fit_low h.0 h.1 in
    let table = flat_map i32_bytes offsets in
    let z = 170 ∷ zeros pc in
    let za = z ++ i32_bytes default in
    let zab = za ++ i32_bytes low in
    let zabc = zab ++ i32_bytes high in
    let text = zabc ++ table in
    let third : text ≡ zab ++ (i32_bytes high ++ table) = append_assoc zab (i32_bytes high) table in
    let second : text ≡ za ++ (i32_bytes low ++ (i32_bytes high ++ table)) = third ∙ append_assoc za (i32_bytes low) (i32_bytes high ++ table) in
    let first : text ≡ z ++ (i32_bytes default ++ (i32_bytes low ++ (i32_bytes high ++ table))) = second ∙ append_assoc z (i32_bytes default) (i32_bytes low ++ (i32_bytes high ++ table)) in
    let size_z : 1 + padding pc ≡ length z = omega (arith, length-zeros pc) in
    let size_za : 5 + padding pc ≡ length za = omega (arith, size_z, length-append z (i32_bytes default), length-i32_bytes default) in
    let size_zab : 9 + padding pc ≡ length zab = omega (arith, size_za, length-append za (i32_bytes low), length-i32_bytes low) in
    let size_zabc : 13 + padding pc ≡ length zabc = omega (arith, size_zab, length-append zab (i32_bytes high), length-i32_bytes high) in
    let size : length text ≡ 13 + padding pc + 4 * length offsets = omega (arith, size_zabc, length-append zabc table, length-offset_bytes offsets) in
    record {
      has_form = (size, opcode_form 170 (zeros pc ++ i32_bytes default ++ i32_bytes low ++ i32_bytes high ++ table) form.Table table_is);
      default_is = ap (λ (t : List ℕ). i32_at t (1 + padding pc)) first ∙ i32_at-behind z (i32_bytes low ++ (i32_bytes high ++ table)) default (1 + padding pc) size_z fit_default;
      low_is = ap (λ (t : List ℕ). i32_at t (5 + padding pc)) second ∙ i32_at-behind za (i32_bytes high ++ table) low (5 + padding pc) size_za fit_low;
      high_is = ap (λ (n : ℤ). n +ℤ pos 1) (ap (λ (t : List ℕ). i32_at t (9 + padding pc)) third ∙ i32_at-behind zab table high (9 + padding pc) size_zab fit_high) ∙ omega (arith, ints);
      some = h.0;
      offsets_are = offsets_at-behind zabc offsets (13 + padding pc) size_zabc fit;
    }

pub lookup_spelled : (pc : ℕ) (default : ℤ) (rows : List (ℤ × ℤ)) → FitsSigned w32 default → All RowFits rows → IsWellFormed (Lookup default rows) → Spells pc (Lookup default rows) (spelling pc (Lookup default rows))
unfolding Spells spelling
lookup_spelled pc default rows fit_default fit h =
    let count = pos (length rows) in
    let fit_count : FitsSigned w32 count = count_fits (length rows) h.1 in
    let table = flat_map row_bytes rows in
    let z = 171 ∷ zeros pc in
    let za = z ++ i32_bytes default in
    let zab = za ++ i32_bytes count in
    let text = zab ++ table in
    let second : text ≡ za ++ (i32_bytes count ++ table) = append_assoc za (i32_bytes count) table in
    let first : text ≡ z ++ (i32_bytes default ++ (i32_bytes count ++ table)) = second ∙ append_assoc z (i32_bytes default) (i32_bytes count ++ table) in
    let size_z : 1 + padding pc ≡ length z = omega (arith, length-zeros pc) in
    let size_za : 5 + padding pc ≡ length za = omega (arith, size_z, length-append z (i32_bytes default), length-i32_bytes default) in
    let size_zab : 9 + padding pc ≡ length zab = omega (arith, size_za, length-append za (i32_bytes count), length-i32_bytes count) in
    let size : length text ≡ 9 + padding pc + 8 * length rows = omega (arith, size_zab, length-append zab table, length-row_bytes rows) in
    record {
      has_form = (size, opcode_form 171 (zeros pc ++ i32_bytes default ++ i32_bytes count ++ table) form.Lookup lookup_is);
      default_is = ap (λ (t : List ℕ). i32_at t (1 + padding pc)) first ∙ i32_at-behind z (i32_bytes count ++ table) default (1 + padding pc) size_z fit_default;
      count_is = ap (λ (t : List ℕ). i32_at t (5 + padding pc)) second ∙ i32_at-behind za table count (5 + padding pc) size_za fit_count;
      rows_are = rows_at-behind zab rows (9 + padding pc) size_zab fit;
      ascend = h.0;
    }
