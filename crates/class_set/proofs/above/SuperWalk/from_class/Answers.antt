use Rattle.std.proofs.Common.{◌∙◌, ap}
use Rattle.set_lookups.specs.Lookups.{chain}
use Rattle.std.proofs.Common.{◌++◌, []}
use Rattle.class_set.proofs.Upwards.{one_way}
use Rattle.class_set.proofs.above.SuperWalk.from_class.Goals as goal

pub returns : goal.returns
returns c =
    let set = c.args.set.now in
    ap (λ left. chain left set c.args.number ++ []) c.len.ensures ∙ one_way set c.args.number
