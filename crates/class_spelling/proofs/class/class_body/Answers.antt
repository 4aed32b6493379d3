use Rattle.std.proofs.Common.{◌≡◌, ◌∙◌, ℕ, List, sym, subst}
use Rattle.pool_names.specs.Adding.{behind}
use Rattle.pool_names.proofs.Lists.{written, behind_none}
use Rattle.class_spelling.specs.ClassSpelling.{spell_class_body}
use Rattle.class_spelling.proofs.class.class_body.Goals as goal

pub returns : goal.returns
returns g c =
    let q = c.put_class_body.new.pool in
    let body = c.put_class_body.new.out.items in
    let o = spell_class_body g.C.CodeWriter.spelled c.args.class.now c.args.pool.now in
    sym (behind_none o) ∙ subst (λ (z : List ℕ). behind z o ≡ written q body) c.new-body.ensures.items c.in_ok-put_class_body.ensures
