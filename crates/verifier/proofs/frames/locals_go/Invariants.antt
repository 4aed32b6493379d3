use Rattle.std.proofs.Common.{◌≡◌, drop}
use Rattle.class_set.specs.Assignable.{in_words, words_go}
use Rattle.verifier.proofs.frames.locals_go.Given as goal

abbrev pub invariant-loop-wanted : goal.invariant-loop-wanted
invariant-loop-wanted l =
    words_go l.set l.rest (in_words (drop l.wanted-index l.entries)) ≡ words_go l.set l.words (in_words l.entries)
