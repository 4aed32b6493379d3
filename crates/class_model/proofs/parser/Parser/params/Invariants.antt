use Rattle.std.proofs.Common.{◌≡◌, [], length}
use Rattle.class_model.specs.Reading.{BeforeParam, read_method}
use Rattle.class_model.proofs.parser.Parser.params.Given as goal

abbrev pub invariant-loop-alloc : goal.invariant-loop-alloc
invariant-loop-alloc l = read_method (BeforeParam []) l.initial.self.at l.initial.self.rest.now ≡ read_method (BeforeParam l.params) l.self.at l.self.rest.now

abbrev pub decreases-loop-alloc : goal.decreases-loop-alloc
decreases-loop-alloc l = length l.self.rest.now
