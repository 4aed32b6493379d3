use Rattle.std.proofs.Common.{List, ℕ, Result, ◌≡◌, ◌∙◌, sym, subst, ap}
use Rattle.const_pool.specs.declared.entry.Entry.TheVariants.{Utf8}
use Rattle.const_pool.specs.Pool.{Pool}
use Rattle.pool_names.specs.Adding.{Puts, add_entry, Unfit}
use Rattle.pool_names.specs.Spelling.{spell_text}
use Rattle.pool_names.proofs.Texts.{text_spelled}
use Rattle.pool_names.proofs.text.put_text.Goals as goal

pub returns : goal.returns
returns c =
    let p = c.args.pool.now in
    let is = c.in_ok-bytes.ensures.text in
    let spelled : add_entry (Utf8 c.in_ok-bytes.bytes) p ≡ spell_text c.args.units.now p = ap (λ (z : List ℕ). add_entry (Utf8 z) p) is.spelled ∙ sym (text_spelled c.args.units.now p is.in_range) in
    subst (λ (z : Result (Pool × ℕ) Unfit). Puts c.add.result c.add.new.self z) spelled c.add.ensures
