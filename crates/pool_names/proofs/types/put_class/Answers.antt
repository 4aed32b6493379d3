use Rattle.pool_names.proofs.Naming.{text_named}
use Rattle.pool_names.proofs.types.put_class.Goals as goal

pub add-requires-clause-refers : goal.add-requires-clause-refers
add-requires-clause-refers c = text_named c.as_units.result.now c.args.pool.now c.put_text.new.pool c.in_ok-text.text c.in_ok-text.ensures
