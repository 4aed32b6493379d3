use Rattle.std.proofs.Common.{◌≡◌, ◌≢◌, ◌∙◌, [], ◌∷◌, Bool, true, false, sym, map, string_bytes, codes}
use Rattle.std.specs.Cmp.Lexicographic.{same_text}
use Rattle.std.proofs.lemmas.Bool.{eq-eqb, not-false}
use Rattle.phosphor_top.proofs.Commanded.{four, input_spelled, output_spelled, no_length, spelled}
use Rattle.phosphor_top.proofs.words.instrument_of.Goals as goal

pub returns-in_err-folder_word : goal.returns-in_err-folder_word
returns-in_err-folder_word c =
    let are : map string_bytes c.args.words.now ≡ string_bytes c.name-item.result ∷ string_bytes c.input-item.result ∷ string_bytes c.output-item.result ∷ string_bytes c.config-item.result ∷ [] = four c.args.words.now c.name-item.result c.input-item.result c.output-item.result c.config-item.result c.in-len4.len_at_least c.in-len4.len_below c.name-item.is c.input-item.is c.output-item.is c.config-item.is in
    rw c.from_residual.ensures (λ spells. c.in_err-folder_word.ensures spells.0.input (rw c.as_str-2.ensures.value (input_spelled _ _ _ _ _ spells.0 are spells.1)))

pub returns-in_err-folder_word-2 : goal.returns-in_err-folder_word-2
returns-in_err-folder_word-2 c =
    let are : map string_bytes c.args.words.now ≡ string_bytes c.name-item.result ∷ string_bytes c.input-item.result ∷ string_bytes c.output-item.result ∷ string_bytes c.config-item.result ∷ [] = four c.args.words.now c.name-item.result c.input-item.result c.output-item.result c.config-item.result c.in-len4.len_at_least c.in-len4.len_below c.name-item.is c.input-item.is c.output-item.is c.config-item.is in
    rw c.from_residual-in_err-folder_word-2.ensures (λ spells. c.in_err-folder_word-2.ensures spells.0.output (rw c.as_str-3.ensures.value (output_spelled _ _ _ _ _ spells.0 are spells.1)))

true_is_false : {b : Bool} → b ≡ true → b ≡ false → ⊥
true_is_false p q = cc

pub returns : goal.returns
returns c =
    let name : string_bytes c.name-item.result ≡ codes "instrument" =
    sym c.as_str.ensures.value ∙ same_text c.as_str.result.now (codes "instrument") (sym (not-false _ (sym c.ne.ensures ∙ c.if-ne.false))) in
    let some : string_bytes c.config-item.result ≢ [] =
    λ nothing. true_is_false (eq-eqb _ 0 (no_length c.config-item.result nothing)) (sym c.is_empty.ensures ∙ c.if-is_empty.false) in
    spelled _ _ _ _ _ _ (four c.args.words.now c.name-item.result c.input-item.result c.output-item.result c.config-item.result c.in-len4.len_at_least c.in-len4.len_below c.name-item.is c.input-item.is c.output-item.is c.config-item.is)
    name (rw (← c.as_str-2.ensures.value) c.in_ok-folder_word.ensures) (rw (← c.as_str-3.ensures.value) c.in_ok-folder_word-2.ensures) c.as_str-4.ensures.value some
