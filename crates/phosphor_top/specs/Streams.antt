-- The streams of a command.
use Rattle.std.specs.Prelude.{ℕ, List, Option}

-- what is left of standard input, and what standard output holds, where they are told
pub record Streams : Type 0 where
  pub input : Option (List ℕ)
  pub output : Option (List ℕ)
