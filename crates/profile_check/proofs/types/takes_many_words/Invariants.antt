use Rattle.std.proofs.Common.{◌≡◌, ◌+◌, ◌≤◌, drop}
use Rattle.std.specs.Prelude.{sum_by, if◌then◌else◌}
use Rattle.class_model.specs.Descriptor.{type_words}
use Rattle.profile_check.proofs.types.takes_many_words.Given as goal

abbrev pub invariant-loop-ty : goal.invariant-loop-ty
invariant-loop-ty l = record {
  counted : l.words + sum_by type_words (drop l.ty-index l.params) ≡ sum_by type_words l.params + (if l.receiver then 1 else 0);
  few : l.words ≤ 255;
}
