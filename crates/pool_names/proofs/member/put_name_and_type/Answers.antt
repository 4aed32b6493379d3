use Rattle.const_pool.specs.Pool.{as_text}
use Rattle.const_pool.proofs.EditorLaws.{named_extends}
use Rattle.pool_names.proofs.Naming.{text_named, text_grows}
use Rattle.pool_names.proofs.member.put_name_and_type.Goals as goal

pub add-requires-clause-refers : goal.add-requires-clause-refers
add-requires-clause-refers c =
    let p = c.put_text.new.pool in
    let q = c.put_text-2.new.pool in
    let second = c.in_ok-descriptor.ensures in (
      named_extends as_text p q c.in_ok-name.name (text_grows c.as_units-2.result.now p q c.in_ok-descriptor.descriptor second) (text_named c.as_units.result.now c.args.pool.now p c.in_ok-name.name c.in_ok-name.ensures),
      text_named c.as_units-2.result.now p q c.in_ok-descriptor.descriptor second,
    )
