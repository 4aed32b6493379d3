-- Reading switches is exact for what their bytes are.
use Rattle.std.proofs.Common.{◌≡◌, ℕ, zero, suc, ◌+◌, ◌<◌, true, false, List, [], ◌∷◌, ◌++◌, length, Option, Some, None, refl, sym, ap, subst, ◌∙◌, append_assoc, arith}
use Rattle.std.specs.Prelude.{ℤ, pos, negsuc, ◌+ℤ◌, ◌-ℤ◌, ◌<ℤ◌, ◌≤ℤ◌, int_lt, int_le, unsigned_abs}
use Rattle.std.proofs.lemmas.Int.{ints}
use Rattle.std.proofs.lemmas.List.{append-nil}
use Rattle.class_input.specs.declared.bad_class.BadKind.TheVariants.{Operand}
use Rattle.class_input.specs.Reading.{lifted, many, each}
use Rattle.class_input.specs.Grammar.{Each}
use Rattle.class_input.proofs.Laws.{Then, Walk, Exact, Exact-same, then_exact, mapped_exact, here_exact, each_exact, many_exact}
use Rattle.opcode_table.proofs.Keys.{span_is, span_count}
use Rattle.insn_code.specs.declared.unlinked.Unlinked.{Unlinked}
use Rattle.insn_code.specs.declared.unlinked.Unlinked.TheVariants.{Table, Lookup}
use Rattle.insn_code.specs.declared.switches.Rows.{Rows}
use Rattle.insn_code.specs.InsnBytes.{Two, IsI32, IsPadding, IsTable, IsAbove, Ascend, IsLookup}
use Rattle.insn_code.specs.InsnReading.{demanded, signed, pad, table_switch, is_above, one_row, row, no_rows, lookup_switch}
use Rattle.insn_code.proofs.StepLaws.{Judged, Holds, demand_exact, signed_exact, pad_exact}

-- ---- pieces one after the other

pub then_joined : (text first rest pieces : List ℕ) → text ≡ first ++ rest → rest ≡ pieces → text ≡ first ++ pieces
then_joined text first rest pieces e f = e ∙ ap (λ (z : List ℕ). first ++ z) f

pub last_joined : (text : List ℕ) → text ≡ text ++ []
last_joined text = sym (append-nil text)

-- a piece of no bytes in front
pub nothing_first : (text first rest : List ℕ) → text ≡ first ++ rest → first ≡ [] → text ≡ rest
nothing_first text first rest e none = e ∙ ap (λ (z : List ℕ). z ++ rest) none

-- ---- numbers

le_true : (a b : ℤ) → int_le a b ≡ true → a ≤ℤ b
le_true a b e = grind (arith, ints)

true_le : (a b : ℤ) → a ≤ℤ b → int_le a b ≡ true
true_le a b e = grind (arith, ints)

lt_true : (a b : ℤ) → int_lt a b ≡ true → a <ℤ b
lt_true a b e = grind (arith, ints)

true_lt : (a b : ℤ) → a <ℤ b → int_lt a b ≡ true
true_lt a b e = grind (arith, ints)

not_lt : (a b : ℤ) → a ≤ℤ b → int_lt b a ≡ false
not_lt a b e = grind (arith, ints)

span : (low high : ℤ) (n : ℕ) → low ≤ℤ high → n ≡ suc (unsigned_abs (high -ℤ low)) → (low +ℤ pos n) ≡ (high +ℤ pos 1)
span low high n le is =
    let more : n ≡ unsigned_abs (high -ℤ low) + 1 = omega arith in
    rw more (sym (span_is low high (not_lt low high le)))

count : (low high : ℤ) (n : ℕ) → low ≤ℤ high → (low +ℤ pos n) ≡ (high +ℤ pos 1) → n ≡ suc (unsigned_abs (high -ℤ low))
count low high n le is =
    let some : 0 < n = omega (arith, ints) in
    let s : unsigned_abs (high -ℤ low) + 1 ≡ n = span_count low high n some (sym is) in
    omega arith

abs_of : (z : ℤ) → pos 0 ≤ℤ z → pos (unsigned_abs z) ≡ z
abs_of (pos n) le = refl
abs_of (negsuc n) le = absurd (omega (arith, ints))

-- ---- tableswitch

abbrev DistancesR : ℤ → ℤ → List ℕ → List ℤ → Type 0
DistancesR low high text xs = (length xs ≡ suc (unsigned_abs (high -ℤ low))) × Each IsI32 text xs

abbrev TableEnd : ℤ → ℤ → ℤ → Unit {0} → List ℕ → Unlinked → Type 0
TableEnd default low high u text x = (ds : List ℤ) × DistancesR low high text ds × (Table low default ds ≡ x)

abbrev PadR : ℕ → List ℕ → Unit {0} → Type 0
PadR pc text u = IsPadding pc text

abbrev TableR : ℕ → List ℕ → Unlinked → Type 0
TableR pc = Then (PadR pc) (λ _. Then IsI32 (λ default. Then IsI32 (λ low. Then IsI32 (λ high. Then (Judged (Holds (int_le low high))) (TableEnd default low high)))))

table_to : (pc : ℕ) (text : List ℕ) (x : Unlinked) → TableR pc text x → IsTable pc text x
table_to pc text x h =
    let a = h.5 in
    let b = a.5 in
    let c = b.5 in
    let d = c.5 in
    let le = le_true b.0 c.0 d.4.1 in
    record {
      padding_text = h.1;
      default_text = a.1;
      low_text = b.1;
      high_text = c.1;
      distances_text = d.2;
      spelled = then_joined _ _ _ _ h.3 (then_joined _ _ _ _ a.3 (then_joined _ _ _ _ b.3 (then_joined _ _ _ _ c.3 (nothing_first _ _ _ d.3 d.4.0 ∙ last_joined d.2))));
      default = a.0;
      low = b.0;
      high = c.0;
      distances = d.5.0;
      padding_is = h.4;
      default_is = a.4;
      low_is = b.4;
      high_is = c.4;
      ordered = le;
      counted = span b.0 c.0 (length d.5.0) le d.5.1.0;
      distances_are = d.5.1.1;
      stands = d.5.2;
    }

table_from : (pc : ℕ) (text : List ℕ) (x : Unlinked) → IsTable pc text x → TableR pc text x
table_from pc text x h = (
  tt,
  h.padding_text,
  _,
  h.spelled,
  h.padding_is,
  (
    h.default,
    h.default_text,
    _,
    refl,
    h.default_is,
    (
      h.low,
      h.low_text,
      _,
      refl,
      h.low_is,
      (
        h.high,
        h.high_text,
        _,
        refl,
        h.high_is,
        (
          tt,
          [],
          h.distances_text,
          append-nil h.distances_text,
          (refl, true_le h.low h.high h.ordered),
          (h.distances, (count h.low h.high (length h.distances) h.ordered h.counted, h.distances_are), h.stands),
        ),
      ),
    ),
  ),
)

pub table_exact : (pc : ℕ) → Exact (IsTable pc) (table_switch pc)
unfolding table_switch
table_exact pc =
    Exact-same (TableR pc) (IsTable pc) _ (table_to pc) (table_from pc)
    (then_exact (PadR pc) _ (pad pc) _ (pad_exact pc) (λ _.
    then_exact IsI32 _ signed _ signed_exact (λ default.
    then_exact IsI32 _ signed _ signed_exact (λ low.
    here_exact _ _ (λ at.
    then_exact IsI32 _ signed _ signed_exact (λ high.
    then_exact (Judged (Holds (int_le low high))) _ (lifted (demanded at Operand (int_le low high))) _ (demand_exact at Operand (int_le low high)) (λ u.
    mapped_exact (DistancesR low high) (many (suc (unsigned_abs (high -ℤ low))) signed) (λ ds. Table low default ds) (many_exact IsI32 (suc (unsigned_abs (high -ℤ low))) signed signed_exact))))))))

-- ---- lookupswitch

above_is : (bound : Option ℤ) (key : ℤ) → is_above bound key ≡ true → IsAbove bound key
above_is None key h = tt
above_is (Some b) key h = lt_true b key h

is_above_true : (bound : Option ℤ) (key : ℤ) → IsAbove bound key → is_above bound key ≡ true
is_above_true None key h = refl
is_above_true (Some b) key h = true_lt b key h

abbrev RowEnd : Rows → ℤ → Unit {0} → List ℕ → Rows → Type 0
RowEnd s key u text t = (distance : ℤ) × IsI32 text distance × (one_row s key distance ≡ t)

abbrev RowThen : Rows → List ℕ → Rows → Type 0
RowThen s = Then IsI32 (λ key. Then (Judged (Holds (is_above s.last key))) (RowEnd s key))

-- a row more
abbrev RowR : Rows → List ℕ → Rows → Type 0
RowR s text t = (pair : ℤ × ℤ) × Two IsI32 IsI32 text pair × IsAbove s.last pair.0 × (one_row s pair.0 pair.1 ≡ t)

row_exact : (s : Rows) → Exact (RowR s) (row s)
unfolding row
row_exact s =
    Exact-same (RowThen s) (RowR s) _
    (λ text t h. let a = h.5 in ((h.0, a.5.0), (h.1, h.2, h.3, h.4, subst (λ (z : List ℕ). IsI32 z a.5.0) (sym (nothing_first h.2 a.1 a.2 a.3 a.4.0)) a.5.1), above_is s.last h.0 a.4.1, a.5.2))
    (λ text t h. let two = h.1 in (h.0.0, two.0, two.1, two.2, two.3, (tt, [], two.1, refl, (refl, is_above_true s.last h.0.0 h.2), (h.0.1, two.4, h.3))))
    (here_exact _ _ (λ at.
    then_exact IsI32 _ signed _ signed_exact (λ key.
    then_exact (Judged (Holds (is_above s.last key))) _ (lifted (demanded at Operand (is_above s.last key))) _ (demand_exact at Operand (is_above s.last key)) (λ u.
    mapped_exact IsI32 signed (λ distance. one_row s key distance) signed_exact))))

abbrev IsRow : List ℕ → ℤ × ℤ → Type 0
IsRow = Two IsI32 IsI32

walk_rows : (n : ℕ) (s t : Rows) (text : List ℕ) → Walk RowR n s text t → (xs : List (ℤ × ℤ)) × (s.rows ++ xs ≡ t.rows) × (length xs ≡ n) × Each IsRow text xs × Ascend s.last xs
walk_rows zero s t text h = ([], append-nil s.rows ∙ ap (λ (z : Rows). z.rows) h.1, refl, h.0, tt)
walk_rows (suc n) s t text h =
    let x = h.4.0 in
    let rest = walk_rows n h.0 t h.2 h.5 in
    let rows : s.rows ++ x ∷ [] ≡ h.0.rows = ap (λ (z : Rows). z.rows) h.4.3 in
    let last : h.0.last ≡ Some x.0 = ap (λ (z : Rows). z.last) (sym h.4.3) in (
      x ∷ rest.0,
      sym (append_assoc s.rows (x ∷ []) rest.0) ∙ ap (λ (z : List (ℤ × ℤ)). z ++ rest.0) rows ∙ rest.1,
      ap suc rest.2,
      (h.1, h.2, h.3, h.4.1, rest.3),
      (h.4.2, subst (λ (z : Option ℤ). Ascend z rest.0) last rest.4),
    )

rows_walk : (n : ℕ) (s : Rows) (text : List ℕ) (xs : List (ℤ × ℤ)) → length xs ≡ n → Each IsRow text xs → Ascend s.last xs → (t : Rows) × Walk RowR n s text t × (s.rows ++ xs ≡ t.rows)
rows_walk zero s text [] len h up = (s, (h, refl), append-nil s.rows)
rows_walk zero s text (x ∷ xs) len h up = absurd (omega (arith, len))
rows_walk (suc n) s text [] len h up = absurd (omega (arith, len))
rows_walk (suc n) s text (x ∷ xs) len h up =
    let more = rows_walk n (one_row s x.0 x.1) h.1 xs (omega (arith, len)) h.4 up.1 in
    (more.0, (one_row s x.0 x.1, h.0, h.1, h.2, (x, h.3, up.0, refl), more.1), sym (append_assoc s.rows (x ∷ []) xs) ∙ more.2)

abbrev LookupEnd : ℤ → ℤ → Unit {0} → List ℕ → Unlinked → Type 0
LookupEnd default count u text x = (s : Rows) × Walk RowR (unsigned_abs count) no_rows text s × (Lookup default s.rows ≡ x)

abbrev LookupR : ℕ → List ℕ → Unlinked → Type 0
LookupR pc = Then (PadR pc) (λ _. Then IsI32 (λ default. Then IsI32 (λ count. Then (Judged (Holds (int_le (pos 0) count))) (LookupEnd default count))))

lookup_to : (pc : ℕ) (text : List ℕ) (x : Unlinked) → LookupR pc text x → IsLookup pc text x
lookup_to pc text x h =
    let a = h.5 in
    let b = a.5 in
    let c = b.5 in
    let rows = walk_rows (unsigned_abs b.0) no_rows c.5.0 c.2 c.5.1 in
    let size : b.0 ≡ pos (length rows.0) = sym (ap pos rows.2 ∙ abs_of b.0 (le_true (pos 0) b.0 c.4.1)) in
    record {
      padding_text = h.1;
      default_text = a.1;
      count_text = b.1;
      rows_text = c.2;
      spelled = then_joined _ _ _ _ h.3 (then_joined _ _ _ _ a.3 (then_joined _ _ _ _ b.3 (nothing_first _ _ _ c.3 c.4.0 ∙ last_joined c.2)));
      default = a.0;
      rows = rows.0;
      padding_is = h.4;
      default_is = a.4;
      count_is = subst (λ (z : ℤ). IsI32 b.1 z) size b.4;
      rows_are = rows.3;
      ascend = rows.4;
      stands = ap (λ (z : List (ℤ × ℤ)). Lookup a.0 z) rows.1 ∙ c.5.2;
    }

lookup_from : (pc : ℕ) (text : List ℕ) (x : Unlinked) → IsLookup pc text x → LookupR pc text x
lookup_from pc text x h =
    let walk = rows_walk (length h.rows) no_rows h.rows_text h.rows refl h.rows_are h.ascend in (
      tt,
      h.padding_text,
      _,
      h.spelled,
      h.padding_is,
      (
        h.default,
        h.default_text,
        _,
        refl,
        h.default_is,
        (
          pos (length h.rows),
          h.count_text,
          _,
          refl,
          h.count_is,
          (
            tt,
            [],
            h.rows_text,
            append-nil h.rows_text,
            (refl, true_le (pos 0) (pos (length h.rows)) (omega (arith, ints))),
            (walk.0, walk.1, ap (λ (z : List (ℤ × ℤ)). Lookup h.default z) (sym walk.2) ∙ h.stands),
          ),
        ),
      ),
    )

pub lookup_exact : (pc : ℕ) → Exact (IsLookup pc) (lookup_switch pc)
unfolding lookup_switch
lookup_exact pc =
    Exact-same (LookupR pc) (IsLookup pc) _ (lookup_to pc) (lookup_from pc)
    (then_exact (PadR pc) _ (pad pc) _ (pad_exact pc) (λ _.
    then_exact IsI32 _ signed _ signed_exact (λ default.
    here_exact _ _ (λ at.
    then_exact IsI32 _ signed _ signed_exact (λ count.
    then_exact (Judged (Holds (int_le (pos 0) count))) _ (lifted (demanded at Operand (int_le (pos 0) count))) _ (demand_exact at Operand (int_le (pos 0) count)) (λ u.
    mapped_exact (Walk RowR (unsigned_abs count) no_rows) (each (unsigned_abs count) row no_rows) (λ s. Lookup default s.rows) (each_exact RowR row row_exact (unsigned_abs count) no_rows)))))))
