use Rattle.run_state.proofs.RunsOn.{plain_stays, tagged_stays}
use Rattle.run_state.proofs.laws.ended_runs_stay.Goals as goal

pub returns : goal.returns
returns c = record { plain = plain_stays; tagged = tagged_stays }
