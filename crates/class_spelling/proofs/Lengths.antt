-- How many bytes tables take that are spelled.
use Rattle.std.proofs.Common.{◌≡◌, ◌∙◌, ℕ, ◌+◌, ◌*◌, ◌<◌, ◌^◌, Bool, true, false, cond, List, [], ◌∷◌, ◌++◌, length, sym, ap, arith, ltb}
use Rattle.std.specs.Int.{w16, to_be_bytes}
use Rattle.std.proofs.lemmas.List.{length-append}
use Rattle.class_model.specs.declared.class.InnerRow.{InnerRow}
use Rattle.const_pool.specs.Pool.{Pool}
use Rattle.pool_names.specs.Adding.{Adding, ◌>>=◌, done, unspelled, spell_u16, spell_each}
use Rattle.pool_names.specs.Spelling.{spell_class, spell_text}
use Rattle.pool_names.proofs.Claiming.{given, bind_is}
use Rattle.class_spelling.specs.Forms.{spell_index, spell_optional, spell_table}
use Rattle.class_spelling.specs.AttributeSpelling.{spell_class_index, spell_classes, spell_inner_row}

-- what is spelled takes n bytes
pub record Takes (n : ℕ) (m : Adding (List ℕ)) : Type 0 where
  pub bytes : (p q : Pool) (text : List ℕ) → m p ≡ given q text → length text ≡ n

given_text : (p q : Pool) (a b : List ℕ) → given p a ≡ given q b → a ≡ b
given_text p q a b h = let pairs : (let x : Pool × List ℕ = (p, a) in x) ≡ (q, b) = cc in ap (λ (x : Pool × List ℕ). x.1) pairs

done_takes : (text : List ℕ) → Takes (length text) (done text)
done_takes text = record { bytes = λ p q other h. ap length (sym (given_text p q text other h)) }

pub u16_takes : (n : ℕ) → Takes 2 (spell_u16 n)
unfolding spell_u16
u16_takes n = record { bytes = λ p q text h. by p q text (ltb n 65536) h }
  where
    by : (p q : Pool) (text : List ℕ) (b : Bool) → (let m : Adding (List ℕ) = cond b (done (to_be_bytes w16 n)) unspelled in m p) ≡ given q text → length text ≡ 2
    by p q text true h = ap length (sym (given_text p q (to_be_bytes w16 n) text h))
    by p q text false h = absurd cc

index_takes : (put : Adding ℕ) → Takes 2 (spell_index put)
unfolding spell_index
index_takes put = record {
  bytes = λ p q text h. let parts = bind_is (put p) spell_u16 q text h in (u16_takes parts.1).bytes parts.0 q text parts.3;
}

-- first some bytes, and then others behind them
then_takes : (n m : ℕ) (first : Adding (List ℕ)) (rest : List ℕ → Adding (List ℕ)) → Takes n first → ((text : List ℕ) → length text ≡ n → Takes m (rest text)) → Takes m (first >>= rest)
then_takes n m first rest a b = record {
  bytes = λ p q text h.
      let parts = bind_is (first p) rest q text h in
      (b parts.1 (a.bytes p parts.0 parts.1 parts.2)).bytes parts.0 q text parts.3;
}

takes_same : (n m : ℕ) (first : Adding (List ℕ)) → n ≡ m → Takes n first → Takes m first
takes_same n m first is a = record { bytes = λ p q text h. a.bytes p q text h ∙ is }

each_takes : {A : Type 0} (n : ℕ) (spell : A → Adding (List ℕ)) (xs : List A) → ((x : A) → Takes n (spell x)) → Takes (n * length xs) (spell_each spell xs)
unfolding spell_each
each_takes n spell [] each = takes_same 0 (n * 0) (done []) (omega arith) (done_takes [])
each_takes n spell (x ∷ xs) each =
    then_takes n (n * length (x ∷ xs)) (spell x) _ (each x)
    (λ first one. then_takes (n * length xs) (n * length (x ∷ xs)) (spell_each spell xs) _ (each_takes n spell xs each)
    (λ others more. takes_same (length (first ++ others)) (n * length (x ∷ xs)) (done (first ++ others)) (omega (arith, length-append first others, one, more)) (done_takes (first ++ others))))

table_takes : {A : Type 0} (n : ℕ) (spell : A → Adding (List ℕ)) (xs : List A) → ((x : A) → Takes n (spell x)) → Takes (2 + n * length xs) (spell_table spell xs)
unfolding spell_table
table_takes n spell xs each =
    then_takes 2 (2 + n * length xs) (spell_u16 (length xs)) _ (u16_takes (length xs))
    (λ count two. then_takes (n * length xs) (2 + n * length xs) (spell_each spell xs) _ (each_takes n spell xs each)
    (λ rows more. takes_same (length (count ++ rows)) (2 + n * length xs) (done (count ++ rows)) (omega (arith, length-append count rows, two, more)) (done_takes (count ++ rows))))

row_takes : (row : InnerRow) → Takes 8 (spell_inner_row row)
unfolding spell_inner_row
row_takes row =
    then_takes 2 8 (spell_class_index row.inner) _ (index_takes (spell_class row.inner))
    (λ a two. then_takes 2 8 (spell_index (spell_optional spell_class row.outer)) _ (index_takes (spell_optional spell_class row.outer))
    (λ b four. then_takes 2 8 (spell_index (spell_optional spell_text row.name)) _ (index_takes (spell_optional spell_text row.name))
    (λ c six. then_takes 2 8 (spell_u16 row.flags) _ (u16_takes row.flags)
    (λ d eight. takes_same (length (a ++ (b ++ (c ++ (d ++ []))))) 8 (done (a ++ (b ++ (c ++ (d ++ []))))) (omega (arith, length-append a (b ++ (c ++ (d ++ []))), length-append b (c ++ (d ++ [])), length-append c (d ++ []), length-append d [], two, four, six, eight)) (done_takes (a ++ (b ++ (c ++ (d ++ [])))))))))

-- ---- contents that have a length of four bytes

pub exceptions_short : (names : List (List ℕ)) → length names < 2 ^ 16 → (p q : Pool) (text : List ℕ) → spell_classes names p ≡ given q text → length text < 2 ^ 32
unfolding spell_classes
exceptions_short names count p q text h = let bytes = (table_takes 2 spell_class_index names (λ name. index_takes (spell_class name))).bytes p q text h in omega (arith, bytes, count)

pub rows_short : (rows : List InnerRow) → length rows < 2 ^ 16 → (p q : Pool) (text : List ℕ) → spell_table spell_inner_row rows p ≡ given q text → length text < 2 ^ 32
rows_short rows count p q text h = let bytes = (table_takes 8 spell_inner_row rows row_takes).bytes p q text h in omega (arith, bytes, count)
