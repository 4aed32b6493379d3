use Rattle.std.proofs.Common.{List, ℕ, ◌≡◌, ◌<◌, ◌^◌, ◌++◌, length, sym, subst}
use Rattle.const_pool.specs.Pool.{Pool}
use Rattle.pool_names.proofs.Lists.{written}
use Rattle.code_attribute.specs.CodeContent.{line_number_table}
use Rattle.class_spelling.specs.Forms.{attribute_bytes, framed}
use Rattle.class_spelling.proofs.Framing.{attribute_written, name_stops}
use Rattle.code_spelling.specs.Tables.{spell_lines}
use Rattle.code_spelling.proofs.Lengths.{lines_short}
use Rattle.code_spelling.proofs.attributes.put_line_attribute.Goals as goal

pub returns-in_err-name : goal.returns-in_err-name
returns-in_err-name c =
    name_stops line_number_table (spell_lines c.args.layout.now c.args.lines.now) c.in_err-name.field-0.0 c.from_residual.result c.args.pool.now c.put_ascii.new.pool c.args.out.now.items c.args.out.now.items c.in_err-name.ensures c.from_residual.ensures.1

pub put_attribute-requires : goal.put_attribute-requires
put_attribute-requires c =
    let short = lines_short c.args.layout.now c.args.lines.now c.requires.count c.put_ascii.new.pool c.put_ascii.new.pool c.in_ok-content.content.items (c.in_ok-content.ensures c.put_ascii.new.pool) in
    subst (λ (z : List ℕ). length z < 2 ^ 32) (sym c.as_slice.ensures.value) short

pub returns : goal.returns
returns c =
    let content = c.in_ok-content.content.items in
    let pool = c.put_ascii.new.pool in
    let k = c.in_ok-name.name in
    let same = c.as_slice.ensures.value in
    let put = c.in_ok-put_attribute.ensures in
    attribute_written line_number_table (spell_lines c.args.layout.now c.args.lines.now) c.args.pool.now pool pool k content c.args.out.now.items c.put_attribute.new.out.items c.in_ok-name.ensures (c.in_ok-content.ensures pool)
    (subst (λ (z : List ℕ). (p : Pool) → framed k z p ≡ written p (attribute_bytes k z)) same put.spelled)
    (subst (λ (z : List ℕ). c.put_attribute.new.out.items ≡ c.args.out.now.items ++ attribute_bytes k z) same put.put)
