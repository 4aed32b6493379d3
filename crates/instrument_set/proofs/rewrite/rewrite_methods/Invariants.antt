use Rattle.std.proofs.Common.{◌≡◌, take, map}
use Rattle.instrument_set.specs.Written.{written_method}
use Rattle.instrument_set.proofs.rewrite.rewrite_methods.Given as goal

-- the methods so far are written
abbrev pub invariant-loop-method : goal.invariant-loop-method
invariant-loop-method l = l.written ≡ map (written_method l.marks) (take l.method-index l.methods)
