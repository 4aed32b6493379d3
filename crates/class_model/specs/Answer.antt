-- What a part of a parser answered, want of memory aside: reading goes on from what it left, or does not go on at the place that it names.
use Rattle.std.specs.Prelude.{◌≡◌, ℕ, Option, Some, None, Result, Ok, Err}
use Rattle.class_model.specs.declared.descriptor.DescStop.{DescStop}
use Rattle.class_model.specs.declared.descriptor.DescStop.TheVariants.{Bad, Memory}

abbrev pub GoesOn : {X A : Type 0} → Result X DescStop → Result A ℕ → (X → Result A ℕ) → Type 0
GoesOn (Ok value) before after = before ≡ after value
GoesOn (Err (Bad place)) before after = before ≡ Err place
GoesOn (Err Memory) before after = Unit {0}

-- what a whole reading answers, want of memory aside
abbrev pub Agrees : {A : Type 0} → Result A DescStop → Option A → Type 0
Agrees (Ok value) read = read ≡ Some value
Agrees (Err (Bad place)) read = read ≡ None
Agrees (Err Memory) read = Unit {0}
