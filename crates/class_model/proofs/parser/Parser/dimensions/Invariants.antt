use Rattle.std.proofs.Common.{◌≡◌, ◌-◌}
use Rattle.class_model.specs.Reading.{Dimensions, front}
use Rattle.class_model.proofs.parser.Parser.dimensions.Given as goal

abbrev pub invariant-loop-depth : goal.invariant-loop-depth
invariant-loop-depth l = front (Dimensions 0) l.initial.self.at l.initial.self.rest.now ≡ front (Dimensions l.depth) l.self.at l.self.rest.now

abbrev pub decreases-loop-depth : goal.decreases-loop-depth
decreases-loop-depth l = 255 - l.depth
