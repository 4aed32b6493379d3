use Rattle.set_loader.proofs.Methods.{class_within}
use Rattle.set_loader.proofs.types.unverified.Goals as goal

pub class-owner-requires : goal.class-owner-requires
class-owner-requires c = class_within c.args.set.now c.args.method c.args.at c.args.rule c.requires
