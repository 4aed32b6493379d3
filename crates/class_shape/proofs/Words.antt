-- A parameter takes a word at least.
use Rattle.std.proofs.Common.{◌≡◌, ℕ, ◌+◌, ◌<◌, ◌≤◌, Bool, true, false, List, [], ◌∷◌, length, arith}
use Rattle.std.specs.Prelude.{sum_by, ◌==◌, ◌&&◌, if◌then◌else◌}
use Rattle.std.proofs.lemmas.List.Sums.{sum_by-cons}
use Rattle.class_model.specs.declared.types.JType.{JType}
use Rattle.class_model.specs.declared.types.MethodDesc.{MethodDesc}
use Rattle.class_model.specs.Descriptor.{type_words, is_wide_base, words_of}

one_or_two : (b : Bool) → 1 ≤ (if b then 2 else 1)
one_or_two true = omega arith
one_or_two false = omega arith

some_word : (ty : JType) → 1 ≤ type_words ty
some_word ty = one_or_two ((ty.depth == 0) && is_wide_base ty.base)

parameters_in_words : (types : List JType) → length types ≤ sum_by type_words types
parameters_in_words [] = omega arith
parameters_in_words (ty ∷ types) = omega (arith, sum_by-cons type_words ty types, some_word ty, parameters_in_words types)

pub few_parameters : (desc : MethodDesc) → length desc.params ≤ words_of desc true
few_parameters desc = omega (arith, parameters_in_words desc.params)
