use Rattle.std.proofs.Common.{◌≡◌, subst}
use Rattle.std.specs.Prelude.{cond}
use Rattle.profile_check.specs.Names.{same_name}
use Rattle.size_limits.specs.Mentions.{times_of}
use Rattle.size_limits.proofs.Mentions.{put_at}
use Rattle.size_limits.proofs.lists_by_class.Mentions.put.Goals as goal

pub returns : goal.returns
returns c = λ other.
    subst (λ old. times_of c.insert.new.self.entries other ≡ cond (same_name c.args.name other) c.args.times (times_of old other)) c.self.view_is
    (put_at c.self.inside.times.entries c.insert.new.self.entries c.args.name other c.args.times (c.in_ok-insert.ensures.updates.0 other))
