use Rattle.std.proofs.Common.{rules, tests}
use Rattle.std.proofs.lemmas.Iterator.{YieldsList-from_slice}
use Rattle.std.proofs.lemmas.Iterator.Search.{any_from_yields_List}
use Rattle.profile_check.specs.Names.{is_bad_unit}
use Rattle.profile_check.proofs.names.has_bad_unit.Goals as goal

pub returns : goal.returns
returns c = any_from_yields_List is_bad_unit _ _ _ c.any.ensures.ran (YieldsList-from_slice c.args.name.now cc) (λ x b q k. search (rules, tests))
