use Rattle.std.proofs.Common.{◌≡◌, ◌+◌, ◌*◌, ◌≤◌, take}
use Rattle.std.specs.Prelude.{sum_by, if◌then◌else◌}
use Rattle.class_model.specs.Descriptor.{type_words}
use Rattle.class_model.proofs.print.words.Given as goal

abbrev pub invariant-loop-ty : goal.invariant-loop-ty
invariant-loop-ty l = record {
  counted : l.words ≡ sum_by type_words (take l.ty-index l.ty-items) + (if l.receiver then 1 else 0);
  bound : l.words ≤ 2 * l.ty-index + 1;
}
