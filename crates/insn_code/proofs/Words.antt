-- A method with many parameters takes many words.
use Rattle.std.proofs.Common.{◌<◌, ◌≤◌, List, [], ◌∷◌, length, Bool, true, false, cond, arith}
use Rattle.std.specs.Prelude.{sum_by}
use Rattle.std.proofs.lemmas.List.Sums.{sum_by-cons}
use Rattle.class_model.specs.declared.types.JType.{JType}
use Rattle.class_model.specs.declared.types.MethodDesc.{MethodDesc}
use Rattle.class_model.specs.Descriptor.{type_words, words_of}

one_or_two : (b : Bool) → 1 ≤ cond b 2 1
one_or_two true = omega arith
one_or_two false = omega arith

some_words : (ty : JType) → 1 ≤ type_words ty
some_words ty = one_or_two _

words_of_all : (params : List JType) → length params ≤ sum_by type_words params
words_of_all [] = omega arith
words_of_all (ty ∷ params) = rw sum_by-cons (omega (arith, some_words ty, words_of_all params))

pub few_words : (desc : MethodDesc) → length desc.params < words_of desc true
few_words desc = omega (arith, words_of_all desc.params)
