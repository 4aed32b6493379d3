use Rattle.code_spelling.proofs.Limits.{code_claims}
use Rattle.code_spelling.proofs.content.written_content.Goals as goal

pub returns : goal.returns
returns c = code_claims
