use Rattle.std.proofs.Common.{◌∙◌, sym, length}
use Rattle.set_lookups.proofs.Meeting.{field_meets}
use Rattle.set_lookups.proofs.hierarchy.Hierarchy.has_field.Goals as goal

pub returns : goal.returns
returns c = c.meets.ensures ∙ sym (field_meets (length c.args.self.now) c.args.self.now c.args.target.now c.args.at)
