use Rattle.std.proofs.Common.{◌≡◌, ◌∙◌, ℕ, List, sym, subst}
use Rattle.pool_names.specs.Adding.{behind}
use Rattle.pool_names.proofs.Lists.{written, behind_none}
use Rattle.class_spelling.specs.AttributeSpelling.{spell_inner_classes}
use Rattle.class_spelling.proofs.Lengths.{rows_short}
use Rattle.class_spelling.proofs.content.inner_content.Goals as goal

pub returns : goal.returns
returns c =
    let p = c.args.pool.now in
    let q = c.put_rows.new.pool in
    let content = c.put_rows.new.out.items in
    let o = spell_inner_classes c.args.rows.now p in
    let none = subst (λ (z : List ℕ). behind z o ≡ written q content) c.new-content.ensures.items c.in_ok-put_rows.ensures in
    let put : o ≡ written q content = sym (behind_none o) ∙ none in
    record { put = put; short = rows_short c.args.rows.now c.requires.count p q content put }
