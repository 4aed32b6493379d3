use Rattle.std.proofs.Common.{◌≡◌, ◌∷◌, replicate}
use Rattle.class_model.specs.declared.class.VType.TheVariants as types
use Rattle.first_form.specs.Typing.{words_type}
use Rattle.first_form.proofs.frame.first_frame.Given as goal

-- the words, and so many locals behind them
abbrev pub invariant-loop : goal.invariant-loop
invariant-loop l = l.locals ≡ types.Ref words_type ∷ replicate l.counter types.Top
