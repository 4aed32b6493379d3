use Rattle.insn_spelling.proofs.CodeLaws.{insns_claims}
use Rattle.insn_spelling.proofs.insns.written_code.Goals as goal

pub returns : goal.returns
returns c = insns_claims
