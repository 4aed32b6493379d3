use Rattle.std.proofs.Common.{◌≡◌, rules}
use Rattle.serde_json.specs.Find.{as_object}
use Rattle.serde_json.specs.View.{view}
use Rattle.source_sink.proofs.Members.{members_counted}
use Rattle.source_sink.proofs.read.has_members.Goals as goal

pub returns-in-Some : goal.returns-in-Some
returns-in-Some c = members_counted (as_object (view c.args.value.now)) c.in-Some.members.now.entries c.len.result c.args.count c.in-Some.ensures c.len.ensures.len
