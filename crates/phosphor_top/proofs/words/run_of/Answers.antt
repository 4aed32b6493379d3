use Rattle.std.proofs.Common.{◌≡◌, ◌≢◌, ◌∙◌, [], ◌∷◌, Bool, true, false, sym, map, string_bytes, codes}
use Rattle.std.specs.Cmp.Lexicographic.{same_text}
use Rattle.std.proofs.lemmas.Bool.{eq-eqb, not-false}
use Rattle.phosphor_top.proofs.Commanded.{four, folder_spelled, steps_spelled, no_length, run_spelled}
use Rattle.phosphor_top.proofs.words.run_of.Goals as goal

pub returns-in_err-folder_word : goal.returns-in_err-folder_word
returns-in_err-folder_word c =
    let are : map string_bytes c.args.words.now ≡ string_bytes c.name-item.result ∷ string_bytes c.dir-item.result ∷ string_bytes c.main-item.result ∷ string_bytes c.steps-item.result ∷ [] = four c.args.words.now c.name-item.result c.dir-item.result c.main-item.result c.steps-item.result c.in-len4.len_at_least c.in-len4.len_below c.name-item.is c.dir-item.is c.main-item.is c.steps-item.is in
    rw c.from_residual.ensures (λ spells. c.in_err-folder_word.ensures spells.0.dir (rw c.as_str-2.ensures.value (folder_spelled _ _ _ _ _ spells.0 are spells.1)))

pub returns-in_err-steps_word : goal.returns-in_err-steps_word
returns-in_err-steps_word c =
    let are : map string_bytes c.args.words.now ≡ string_bytes c.name-item.result ∷ string_bytes c.dir-item.result ∷ string_bytes c.main-item.result ∷ string_bytes c.steps-item.result ∷ [] = four c.args.words.now c.name-item.result c.dir-item.result c.main-item.result c.steps-item.result c.in-len4.len_at_least c.in-len4.len_below c.name-item.is c.dir-item.is c.main-item.is c.steps-item.is in
    rw c.from_residual-in_err-steps_word.ensures (λ spells. c.in_err-steps_word.ensures spells.0.steps (rw c.as_str-4.ensures.value (steps_spelled _ _ _ _ _ spells.0 are spells.1)))

true_is_false : {b : Bool} → b ≡ true → b ≡ false → ⊥
true_is_false p q = cc

pub returns : goal.returns
returns c =
    let name : string_bytes c.name-item.result ≡ codes "run" =
    sym c.as_str.ensures.value ∙ same_text c.as_str.result.now (codes "run") (sym (not-false _ (sym c.ne.ensures ∙ c.if-ne.false))) in
    let some : string_bytes c.main-item.result ≢ [] =
    λ nothing. true_is_false (eq-eqb _ 0 (no_length c.main-item.result nothing)) (sym c.is_empty.ensures ∙ c.if-is_empty.false) in
    run_spelled _ _ _ _ _ _ _ _ (four c.args.words.now c.name-item.result c.dir-item.result c.main-item.result c.steps-item.result c.in-len4.len_at_least c.in-len4.len_below c.name-item.is c.dir-item.is c.main-item.is c.steps-item.is)
    name (rw (← c.as_str-2.ensures.value) c.in_ok-folder_word.ensures) c.as_str-3.ensures.value some (rw (← c.as_str-4.ensures.value) c.in_ok-steps_word.ensures)
