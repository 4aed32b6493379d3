use Rattle.instrument_set.proofs.PathOrder.{ascend, class_paths}
use Rattle.instrument_set.proofs.laws.written_paths_ascend.Goals as goal

pub returns : goal.returns
returns c = record { ascend = ascend; class_paths = λ set first. class_paths set }
