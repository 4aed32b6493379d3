use Rattle.std.proofs.Common.{◌≡◌, ◌∙◌, ℕ, List, sym, subst}
use Rattle.pool_names.specs.Adding.{behind}
use Rattle.pool_names.proofs.Lists.{written, behind_none}
use Rattle.class_spelling.specs.AttributeSpelling.{spell_classes}
use Rattle.class_spelling.proofs.Lengths.{exceptions_short}
use Rattle.class_spelling.proofs.content.exceptions_content.Goals as goal

pub returns : goal.returns
returns c =
    let p = c.args.pool.now in
    let q = c.put_classes.new.pool in
    let content = c.put_classes.new.out.items in
    let o = spell_classes c.args.throws.now p in
    let none = subst (λ (z : List ℕ). behind z o ≡ written q content) c.new-content.ensures.items c.in_ok-put_classes.ensures in
    let put : o ≡ written q content = sym (behind_none o) ∙ none in
    record { put = put; short = exceptions_short c.args.throws.now c.requires.count p q content put }
