use Rattle.const_pool.specs.Pool.{as_class}
use Rattle.const_pool.proofs.EditorLaws.{named_extends}
use Rattle.pool_names.proofs.Naming.{class_named, pair_named}
use Rattle.pool_names.proofs.member.put_field.Goals as goal

pub add-requires-clause-refers : goal.add-requires-clause-refers
add-requires-clause-refers c =
    let p = c.put_class.new.pool in
    let q = c.put_name_and_type.new.pool in
    let pair = pair_named c.args.field.now.name c.in_ok-descriptor.descriptor p q c.in_ok-pair.pair c.in_ok-pair.ensures in
    (named_extends as_class p q c.in_ok-class.class pair.0 (class_named c.args.field.now.class c.args.pool.now p c.in_ok-class.class c.in_ok-class.ensures), pair.1)
