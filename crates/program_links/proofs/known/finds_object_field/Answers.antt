use Rattle.std.proofs.Common.{◌∙◌, sym}
use Rattle.set_lookups.specs.Lookups.{resolve_field}
use Rattle.program_links.proofs.Knowing.{class_within, shown_field}
use Rattle.program_links.proofs.known.finds_object_field.Goals as goal

pub class-requires : goal.class-requires
class-requires c =
    let set = c.args.set.now in
    let target = c.args.target.now in
    class_within set target c.in-Some.class.0 c.in-Some.index (shown_field (resolve_field set target) c.in-Some.class c.in-Some.index (sym c.resolve_field.ensures ∙ c.in-Some.is))
