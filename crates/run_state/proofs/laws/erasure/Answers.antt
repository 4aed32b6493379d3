use Rattle.run_state.proofs.ErasedStart.{erased, same_console, same_ending}
use Rattle.run_state.proofs.laws.erasure.Goals as goal

pub returns : goal.returns
returns c = record { forgets = erased; console = same_console; ending = same_ending }
