use Rattle.set_loader.proofs.Refusals.{one_set, loads_or_refused, one_refusal}
use Rattle.set_loader.proofs.laws.one_answer.Goals as goal

pub returns-clause-one_set : goal.returns-clause-one_set
returns-clause-one_set c = one_set

pub returns-clause-apart : goal.returns-clause-apart
returns-clause-apart c = loads_or_refused

pub returns-clause-one_refusal : goal.returns-clause-one_refusal
returns-clause-one_refusal c = one_refusal
