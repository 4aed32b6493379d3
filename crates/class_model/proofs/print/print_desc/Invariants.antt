use Rattle.std.proofs.Common.{◌≡◌, ◌∷◌, take}
use Rattle.std.specs.Prelude.{flat_map}
use Rattle.class_model.specs.Descriptor.{field_descriptor}
use Rattle.class_model.proofs.print.print_desc.Given as goal

abbrev pub invariant-loop-ty : goal.invariant-loop-ty
invariant-loop-ty l = l.out.items ≡ 40 ∷ flat_map field_descriptor (take l.ty-index l.ty-items)
