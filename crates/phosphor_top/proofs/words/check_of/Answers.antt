use Rattle.std.proofs.Common.{◌≡◌, ◌∙◌, sym, map, string_bytes, codes}
use Rattle.std.specs.Cmp.Lexicographic.{same_text}
use Rattle.std.proofs.lemmas.Bool.{not-false}
use Rattle.phosphor_top.proofs.Commanded.{two, check_word}
use Rattle.phosphor_top.proofs.words.check_of.Goals as goal

pub returns : goal.returns
returns c =
    let name : string_bytes c.name-item.result ≡ codes "check" =
    sym c.as_str.ensures.value ∙ same_text c.as_str.result.now (codes "check") (sym (not-false _ (sym c.ne.ensures ∙ c.if-ne.false))) in
    check_word c.folder_word.result (λ dir. dir.now) (map string_bytes c.args.words.now) (string_bytes c.name-item.result) (string_bytes c.dir-item.result)
    (two c.args.words.now c.name-item.result c.dir-item.result c.in-len2.len_at_least c.in-len2.len_below c.name-item.is c.dir-item.is) name (rw (← c.as_str-2.ensures.value) c.folder_word.ensures)
