use Rattle.std.proofs.Common.{List, ℕ, ◌≡◌, ◌++◌, subst}
use Rattle.std.proofs.Common.{Vec, Global}
use Rattle.const_pool.specs.Pool.{Pool}
use Rattle.pool_names.proofs.Lists.{written}
use Rattle.class_attributes.specs.Attributes.{exceptions}
use Rattle.class_spelling.specs.AttributeSpelling.{spell_classes}
use Rattle.class_spelling.specs.Forms.{attribute_bytes, framed}
use Rattle.class_spelling.proofs.Framing.{attribute_written, name_stops, content_stops}
use Rattle.class_spelling.proofs.content.put_exceptions.Goals as goal

pub returns-in_err-name : goal.returns-in_err-name
returns-in_err-name c =
    name_stops exceptions (spell_classes c.args.throws.now) c.in_err-name.field-0.0 c.from_residual.result c.args.pool.now c.put_ascii.new.pool c.args.out.now.items c.args.out.now.items c.in_err-name.ensures c.from_residual.ensures.1

pub returns-in_err-content : goal.returns-in_err-content
returns-in_err-content c =
    content_stops (λ (content : Vec ℕ Global). content.items) exceptions (spell_classes c.args.throws.now) c.in_err-content.field-0.0 c.from_residual-in_err-content.result c.args.pool.now c.put_ascii.new.pool c.exceptions_content.new.pool c.in_ok-name.name c.args.out.now.items c.args.out.now.items c.in_ok-name.ensures c.in_err-content.ensures.put c.from_residual-in_err-content.ensures.1

pub returns : goal.returns
returns c =
    let content = c.in_ok-content.content.items in
    let k = c.in_ok-name.name in
    let same = c.as_slice.ensures.value in
    let spelled = c.in_ok-put_attribute.ensures.spelled in
    let put = c.in_ok-put_attribute.ensures.put in
    attribute_written exceptions (spell_classes c.args.throws.now) c.args.pool.now c.put_ascii.new.pool c.exceptions_content.new.pool k content c.args.out.now.items c.put_attribute.new.out.items c.in_ok-name.ensures c.in_ok-content.ensures.put
    (subst (λ (z : List ℕ). (pool : Pool) → framed k z pool ≡ written pool (attribute_bytes k z)) same spelled)
    (subst (λ (z : List ℕ). c.put_attribute.new.out.items ≡ c.args.out.now.items ++ attribute_bytes k z) same put)
