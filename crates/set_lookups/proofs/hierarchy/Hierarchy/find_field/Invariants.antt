use Rattle.std.proofs.Common.{◌≡◌, length}
use Rattle.std.specs.Prelude.{slice_index}
use Rattle.set_lookups.specs.Lookups as look
use Rattle.set_lookups.proofs.hierarchy.Hierarchy.find_field.Given as goal

-- the class that is come to decides
abbrev pub invariant-loop-found : goal.invariant-loop-found
invariant-loop-found l =
    let field = look.field_from (length l.self) l.self l.target in
    field l.start ≡ field l.at

abbrev pub decreases-loop-found : goal.decreases-loop-found
decreases-loop-found l = slice_index l.ranks l.at
