use Rattle.std.proofs.Common.{◌≡◌, drop}
use Rattle.class_set.specs.Assignable.{in_words, words_go}
use Rattle.class_set.proofs.class_set.ClassSet.locals_go.Given as goal

abbrev pub invariant-loop-wanted : goal.invariant-loop-wanted
invariant-loop-wanted l =
    words_go l.self l.words (in_words (drop l.wanted-index l.to)) ≡ words_go l.self (in_words l.from) (in_words l.to)
