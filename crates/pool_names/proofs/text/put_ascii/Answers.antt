use Rattle.std.proofs.Common.{List, ℕ, ◌≡◌, ◌∙◌, sym, subst}
use Rattle.const_pool.specs.Pool.{HasText}
use Rattle.const_pool.specs.declared.entry.Entry.TheVariants.{Utf8}
use Rattle.pool_names.proofs.Texts.{ascii_entry}
use Rattle.pool_names.proofs.text.put_ascii.Goals as goal

pub add-requires-clause-text : goal.add-requires-clause-text
add-requires-clause-text c =
    let same : c.from_vec.result ≡ c.args.text.now = c.from_vec.ensures ∙ c.in_ok-bytes.ensures.items in
    subst (λ (z : List ℕ). HasText (Utf8 z)) (sym same) (ascii_entry c.args.text.now c.requires)
