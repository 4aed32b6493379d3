use Rattle.std.proofs.Common.{◌≡◌, take}
use Rattle.std.specs.Prelude.{flat_map}
use Rattle.std.specs.List.{fold}
use Rattle.set_lookups.specs.MemberKeys.{type_hash}
use Rattle.program_links.proofs.keys.hash_types.Given as goal

-- the types so far are fed
abbrev pub invariant-loop-ty : goal.invariant-loop-ty
invariant-loop-ty g l = l.state ≡ fold g.H.Hasher.write l.initial.state (flat_map type_hash (take l.ty-index l.types))
